-- No definitions: what is left where an element and a mix are added, for the prover.
use Rattle.std.specs.Prelude.{◌≡◌, ℕ, ◌+◌, ◌==◌, true, false, ◌&&◌, ◌||◌, max, List, length, Option, Some, None}
use Rattle.std.specs.Option.{option_map}
use Rattle.std.specs.Ordering.{nat_cmp}
use Rattle.std.specs.BTreeMap.{get, btree_map_len, Updates}
use Rattle.std.specs.BTreeSet.{btree_set_len}
use Rattle.std.specs.BTreeSet as set
use Rattle.spec_blocks.specs.Shape.{Definition}
use Rattle.spec_rules.specs.Role.{ElementRole}
use Rattle.spec_rules.specs.Profile.{fits_channels, channels_of_sub_mix}
use Rattle.iamf_rules.specs.declared.rules.Rules.{Rules}
use Rattle.iamf_rules.specs.DescriptorSteps.{primary_of}
use Rattle.iamf_rules.specs.SlotSteps.{Adds}
use Rattle.iamf_rules.specs.Totals.{total_of, HasTotals}
use Rattle.iamf_rules.specs.Defining.{Defines}

pub record AddsElement (old new : Rules) (id : ℕ) (substreams : List ℕ) (channels : Option (List ℕ)) (ds : List Definition) : Type 0 where
  pub rest : new ≡ record old { descriptors = record old.descriptors { elements = new.descriptors.elements; rank = max old.descriptors.rank 3 }; substreams = new.substreams; blocks = new.blocks }
  pub elements : Updates nat_cmp old.descriptors.elements new.descriptors.elements id (Some (option_map total_of channels))
  pub count : get nat_cmp old.descriptors.elements id ≡ None → btree_map_len new.descriptors.elements ≡ btree_map_len old.descriptors.elements + 1
  pub slots : Adds old.substreams.slots new.substreams.slots substreams channels
  pub defines : Defines old.blocks new.blocks ds

pub record AddsMix (old new : Rules) (id : ℕ) (elements : List ℕ) (sub_mixes : ℕ) (ds : List Definition) : Type 0 where
  pub rest : new ≡ record old { descriptors = record old.descriptors { mixes = new.descriptors.mixes; has_fit = new.descriptors.has_fit; rank = max old.descriptors.rank 4 }; blocks = new.blocks }
  pub mixes : set.Updates nat_cmp old.descriptors.mixes new.descriptors.mixes id true
  pub count : set.contains nat_cmp old.descriptors.mixes id ≡ false → btree_set_len new.descriptors.mixes ≡ btree_set_len old.descriptors.mixes + 1
  pub fit : (es : List ElementRole) → HasTotals old.descriptors.elements es
      → new.descriptors.has_fit ≡ (old.descriptors.has_fit || (sub_mixes == 1 && fits_channels (primary_of old.descriptors) (length elements) (channels_of_sub_mix es elements)))
  pub defines : Defines old.blocks new.blocks ds

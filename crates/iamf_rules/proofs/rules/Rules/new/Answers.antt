use Rattle.std.proofs.Common.{refl, sym, ap, le-ltb, arith}
use Rattle.std.specs.Prelude.{is_some}
use Rattle.spec_rules.specs.Descriptors.{profiles, codecs, elements, substreams, mixes, frame_length, definitions, channels_of}
use Rattle.spec_rules.specs.Profile.{fits, has_fit}
use Rattle.spec_rules.specs.Units.{is_delimited, placed, in_units, in_unit, before_unit, streams_in, trims_in, trims_before, blocks_in, open_unit, block_end}
use Rattle.spec_rules.specs.Admitted.{IsAdmitted}
use Rattle.iamf_rules.specs.Totals.{joined}
use Rattle.iamf_rules.specs.DescriptorSteps.{profile_list, codec_list}
use Rattle.iamf_rules.specs.BlockSteps.{slot_or_none}
use Rattle.iamf_rules.proofs.rules.Rules.new.Goals as goal

pub returns : goal.returns
unfolding IsAdmitted profiles codecs elements substreams mixes frame_length definitions channels_of fits has_fit placed in_units in_unit streams_in trims_in trims_before before_unit blocks_in open_unit is_delimited block_end
returns c = record {
  admitted = tt;
  few = omega arith;
  descriptors = record {
    profile = ap profile_list c.new.ensures.profile;
    rank_is = λ r. rw c.new.ensures.rank (sym (le-ltb r 0 (omega arith)));
    codec = ap codec_list c.new.ensures.codec;
    short = omega arith;
    elements_are = λ id. ap is_some (c.new.ensures.elements id);
    element_count = c.new.ensures.element_count;
    totals = λ id. ap joined (c.new.ensures.elements id);
    mixes_are = c.new.ensures.mixes;
    mix_count = c.new.ensures.mix_count;
    fit = c.new.ensures.fit;
  };
  substreams = record { each = c.new-2.ensures.slots; count = c.new-2.ensures.count };
  unit = rw c.new-3.ensures (record { delimited = refl; number = refl; begun = refl; frames = refl; few = omega arith; trim = refl; kept = refl; samples = refl; cut = refl });
  blocks = record {
    definitions_are = c.new-4.ensures.definitions;
    has = λ id. ap is_some (c.new-4.ensures.slots id);
    came = λ id known. absurd cc;
    within = λ id. rw (c.new-4.ensures.slots id) (omega arith);
    ends = λ id timed. absurd cc;
    idle = λ id untimed. ap (λ s. (slot_or_none s).end) (c.new-4.ensures.slots id);
    none = λ _ id. ap slot_or_none (c.new-4.ensures.slots id);
  };
}

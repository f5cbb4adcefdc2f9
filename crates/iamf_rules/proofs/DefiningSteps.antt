-- Definitions that are added one after the other, before any block.
use Rattle.std.proofs.Common.{◌≡◌, ℕ, Bool, true, false, ◌||◌, cond, eqb, List, [], ◌∷◌, ◌++◌, refl, sym, ap, ◌∙◌}
use Rattle.std.specs.Prelude.{Option, Some, None, is_some}
use Rattle.std.specs.Ordering.{nat_cmp}
use Rattle.std.specs.BTreeMap.{get, Updates}
use Rattle.std.proofs.lemmas.Grind.{common_steps, fold-append}
use Rattle.std.proofs.lemmas.List.{map_push}
use Rattle.std.proofs.Common.{arith}
use Rattle.spec_blocks.specs.Shape.{Definition, with_definition}
use Rattle.spec_rules.specs.Units.{contains}
use Rattle.spec_rules.proofs.Basics.{or_false, any-push}
use Rattle.iamf_rules.specs.declared.blocks.BlockSlot.{BlockSlot}
use Rattle.iamf_rules.specs.declared.blocks.Blocks.{Blocks}
use Rattle.iamf_rules.specs.BlockSteps.{no_block, slot_or_none}
use Rattle.iamf_rules.specs.Defining.{ids_of, Defines}

pub defines-none : (b : Blocks) → Defines b b []
defines-none b = record { definitions_are = refl; has = λ id. sym (or_false (is_some (get nat_cmp b.slots id))); none = λ still. still }

or_assoc : (x y z : Bool) → ((x || y) || z) ≡ (x || (y || z))
or_assoc true y z = refl
or_assoc false y z = refl

pub defines-step : (old mid new : Blocks) (ds : List Definition) (d : Definition) → Defines old mid ds → new.definitions ≡ with_definition mid.definitions d
    → Updates nat_cmp mid.slots new.slots d.parameter_id (Some no_block) → Defines old new (ds ++ d ∷ [])
defines-step old mid new ds d before adds updates = record {
  definitions_are = adds ∙ ap (λ (x : List Definition). with_definition x d) before.definitions_are ∙ sym (fold-append with_definition old.definitions ds (d ∷ []));
  has = λ id. ap is_some (at id (eqb d.parameter_id id) refl) ∙ one (eqb d.parameter_id id) (get nat_cmp mid.slots id) ∙ ap (λ b. b || eqb d.parameter_id id) (before.has id)
      ∙ or_assoc (is_some (get nat_cmp old.slots id)) (contains (ids_of ds) id) (eqb d.parameter_id id)
      ∙ ap (λ b. is_some (get nat_cmp old.slots id) || b) (sym (ap (λ (ids : List ℕ). contains ids id) (map_push (λ (x : Definition). x.parameter_id) ds d) ∙ any-push (λ y. eqb y id) (ids_of ds) d.parameter_id));
  none = λ still id. ap slot_or_none (at id (eqb d.parameter_id id) refl) ∙ two (eqb d.parameter_id id) (get nat_cmp mid.slots id) (before.none still id);
} where
  at : (id : ℕ) (b : Bool) → eqb d.parameter_id id ≡ b → get nat_cmp new.slots id ≡ cond b (Some no_block) (get nat_cmp mid.slots id)
  at id true e = grind (arith, common_steps, updates)
  at id false e = grind (arith, common_steps, updates)

  one : (b : Bool) (o : Option BlockSlot) → is_some (cond b (Some no_block) o) ≡ (is_some o || b)
  one true None = refl
  one true (Some x) = refl
  one false o = sym (or_false (is_some o))

  two : (b : Bool) (o : Option BlockSlot) → slot_or_none o ≡ no_block → slot_or_none (cond b (Some no_block) o) ≡ no_block
  two true o e = refl
  two false o e = e

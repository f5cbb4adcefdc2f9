-- The units that are begun and the samples that they keep, as the open unit counts them.
use Rattle.std.proofs.Common.{◌≡◌, ℕ, ◌+◌, Bool, true, false, not, cond, List, [], refl, sym, ap, ap₂, ◌∙◌, add-zero, add-one, arith}
use Rattle.std.specs.List.{flat_map}
use Rattle.spec_rules.specs.Role.{Role}
use Rattle.spec_rules.specs.Descriptors.{frame_length}
use Rattle.spec_rules.specs.Units.{is_none_of, open_unit, in_unit, trims_in, trim_of, unit_count}
use Rattle.spec_rules.specs.Samples.{kept_by, kept_up_to, kept}
use Rattle.spec_rules.proofs.Basics.{none_of}
use Rattle.spec_rules.proofs.UnitCount.{IsCounted}
use Rattle.iamf_rules.specs.declared.open_unit.OpenUnit.{OpenUnit}
use Rattle.iamf_rules.specs.UnitSteps.{units_of, kept_of}
use Rattle.iamf_rules.specs.Standing.{KeepsUnit}
use Rattle.iamf_rules.proofs.KeptSamples.{kept_of-trims}

pub units_are : (a : OpenUnit) (l : List Role) → IsCounted l → KeepsUnit a l → units_of a ≡ unit_count l
units_are a l counted k = rw (k.begun, k.number) (one (is_none_of (in_unit (open_unit l) l)) ∙ sym counted) where
  one : (b : Bool) → cond (not b) (open_unit l + 1) (open_unit l) ≡ open_unit l + cond b 0 1
  one true = omega arith
  one false = omega arith

-- an open unit that is not begun has no frames yet
none_begun : (l : List Role) → is_none_of (in_unit (open_unit l) l) ≡ true → trims_in (open_unit l) l ≡ []
unfolding trims_in
none_begun l none = ap (λ (os : List Role). flat_map trim_of os) (none_of (in_unit (open_unit l) l) none)

pub samples_are : (a : OpenUnit) (l : List Role) → IsCounted l → KeepsUnit a l → a.samples + kept_of (frame_length l) a.trim ≡ kept l
unfolding kept
samples_are a l counted k = ap₂ (λ (x y : ℕ). x + y) k.samples (kept_of-trims (frame_length l) a.trim (trims_in (open_unit l) l) k.trim)
    ∙ one (is_none_of (in_unit (open_unit l) l)) (none_begun l) ∙ ap (kept_up_to l) (sym counted)
  where
    one : (b : Bool) → (b ≡ true → trims_in (open_unit l) l ≡ []) → kept_up_to l (open_unit l) + kept_by (frame_length l) (trims_in (open_unit l) l) ≡ kept_up_to l (open_unit l + cond b 0 1)
    one true none = rw (none refl, add-zero, add-zero) refl
    one false none = rw (add-one (open_unit l)) refl

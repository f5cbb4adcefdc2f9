-- Totals of channels along lists.
use Rattle.std.proofs.Common.{◌≡◌, ℕ, ◌+◌, ◌-◌, ◌^◌, ◌<◌, List, [], ◌∷◌, length, get_or, take, refl, ap, arith}
use Rattle.std.specs.Prelude.{Option, Some, None, sum, min, nat_le}
use Rattle.std.specs.Option.{option_map}
use Rattle.std.proofs.lemmas.Bool.Decides.{nat_tests}
use Rattle.std.proofs.lemmas.List.{take_more}
use Rattle.std.proofs.lemmas.List.Sums.{sum_by-append}
use Rattle.spec_rules.specs.Profile.{plus, are_within, fits_channels}
use Rattle.iamf_rules.specs.Totals.{capped, total_of}

abbrev some : ℕ → Option ℕ
some n = Some n

capped-plus : (a b : ℕ) → capped (capped a + b) ≡ capped (a + b)
capped-plus a b = omega arith

pub total-step : (total : ℕ) (cs : List ℕ) (i : ℕ) → i < length cs → total ≡ total_of (take i cs) → min (total + get_or cs i 0) (2 ^ 32 - 1) ≡ total_of (take (i + 1) cs)
total-step total cs i below is = rw (take_more cs i 0 below, sum_by-append (λ (x : ℕ). x) (take i cs) (get_or cs i 0 ∷ []), is) (omega arith)

-- what the rest adds to a total
abbrev pub with_rest : ℕ → Option ℕ → Option ℕ
with_rest total rest = option_map (λ n. capped (total + n)) rest

pub with_rest-zero : (rest : Option ℕ) → option_map capped rest ≡ with_rest 0 rest
with_rest-zero None = refl
with_rest-zero (Some n) = ap some (omega arith)

-- an element whose channels are not known, and one of which they are
pub rest-unknown : (total : ℕ) (channels : Option (List ℕ)) (rest : Option ℕ) → None ≡ option_map total_of channels → with_rest total (plus channels rest) ≡ None
rest-unknown total None rest is = refl
rest-unknown total (Some cs) rest is = absurd cc

pub rest-known : (total n : ℕ) (channels : Option (List ℕ)) (rest : Option ℕ) → Some n ≡ option_map total_of channels → with_rest total (plus channels rest) ≡ with_rest (capped (total + n)) rest
rest-known total n None rest is = absurd cc
rest-known total n (Some cs) None is = refl
rest-known total n (Some cs) (Some r) is =
    let e : n ≡ capped (sum cs) = cc in
    rw e (ap some (omega arith))

pub rest-nothing : (total : ℕ) → total < 2 ^ 32 → with_rest total (Some 0) ≡ Some total
rest-nothing total small = ap some (omega arith)

-- which totals fit does not depend on how far they are counted
pub within-capped : (primary_profile count channels : ℕ) → are_within primary_profile count (capped channels) ≡ are_within primary_profile count channels
within-capped p count channels = rw (small 16 (omega arith), small 18 (omega arith), small 28 (omega arith)) refl where
  small : (most : ℕ) → most < 29 → nat_le (capped channels) most ≡ nat_le channels most
  small most below = grind (arith, nat_tests)

pub fits-capped : (primary_profile count : ℕ) (total : Option ℕ) → fits_channels primary_profile count (option_map capped total) ≡ fits_channels primary_profile count total
fits-capped p count None = refl
fits-capped p count (Some channels) = within-capped p count channels

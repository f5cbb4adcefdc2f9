-- The samples that units keep, as OBUs come.
use Prim.Native.Nat.{zero, suc}
use Rattle.std.proofs.Common.{◌≡◌, ℕ, ◌+◌, ◌-◌, ◌*◌, ◌≤◌, ◌<◌, Bool, true, false, ◌&&◌, cond, eqb, List, [], ◌∷◌, ◌++◌, refl, sym, ap, ap₂, ◌∙◌, append-nil, ne_eqb, eq-eqb, eqb-true, true≢false, arith}
use Rattle.std.specs.Prelude.{Option, Some, None}
use Rattle.std.specs.List.{flat_map, list_any}
use Rattle.std.proofs.lemmas.Bool.{or_left}
use Rattle.spec_obu.specs.declared.trim.Trim.{Trim}
use Rattle.spec_rules.specs.Role.{Role}
use Rattle.spec_rules.specs.Descriptors.{codec_of, frame_length}
use Rattle.spec_rules.specs.Units.{is_data, trim_of, unit_after, trims_in}
use Rattle.spec_rules.proofs.DescriptorLists.{frame_length-push}
use Rattle.spec_rules.proofs.UnitLists.{trims_in-push}
use Rattle.spec_rules.specs.Samples.{kept_by, kept_in, kept_up_to}
use Rattle.iamf_rules.specs.UnitSteps.{kept_of}
use Rattle.iamf_rules.specs.Standing.{AreTrims}

kept_in-same : (l m : List Role) (u : ℕ) → frame_length m ≡ frame_length l → trims_in u m ≡ trims_in u l → kept_in m u ≡ kept_in l u
kept_in-same l m u same trims = ap₂ (λ (n : ℕ) (ts : List Trim). kept_by n ts) same trims

kept_up_to-same : (l m : List Role) (n : ℕ) → frame_length m ≡ frame_length l → ((u : ℕ) → u < n → trims_in u m ≡ trims_in u l) → kept_up_to m n ≡ kept_up_to l n
kept_up_to-same l m zero same trims = refl
kept_up_to-same l m (suc n) same trims =
    ap₂ (λ (x y : ℕ). x + y) (kept_up_to-same l m n same (λ u before. trims u (omega arith))) (kept_in-same l m n same (trims n (omega arith)))

-- an OBU of a unit changes none before it
pub kept_up_to-here : (l : List Role) (o : Role) (n : ℕ) → codec_of o ≡ [] → n ≤ unit_after l o → kept_up_to (l ++ o ∷ []) n ≡ kept_up_to l n
kept_up_to-here l o n no_codec before = kept_up_to-same l (l ++ o ∷ []) n (frame_length-push l o no_codec) (λ u below.
    trims_in-push u l o ∙ rw (ne_eqb (unit_after l o) u (λ e. omega arith)) (one u (is_data o))) where
      one : (u : ℕ) (b : Bool) → trims_in u l ++ flat_map trim_of (cond (b && false) (o ∷ []) []) ≡ trims_in u l
      one u true = append-nil (trims_in u l)
      one u false = append-nil (trims_in u l)

pub kept_up_to-none : (l : List Role) (o : Role) (n : ℕ) → codec_of o ≡ [] → is_data o ≡ false → kept_up_to (l ++ o ∷ []) n ≡ kept_up_to l n
kept_up_to-none l o n no_codec quiet = kept_up_to-same l (l ++ o ∷ []) n (frame_length-push l o no_codec) (λ u below. trims_in-push u l o ∙ rw (quiet, append-nil) refl)

-- of trims that are all alike any tells what is kept
pub kept_of-trims : (length : ℕ) (t : Option Trim) (ts : List Trim) → AreTrims t ts → kept_of length t ≡ kept_by length ts
kept_of-trims length None ts same = rw same refl
kept_of-trims length (Some t) [] same = absurd (true≢false (sym (same (λ x. true))))
kept_of-trims length (Some t) (x ∷ xs) same = ap (λ n. length - n) (eqb-true (t.start + t.end) (x.start + x.end) here) where
  here : eqb (t.start + t.end) (x.start + x.end) ≡ true
  here = sym (same (λ y. eqb (y.start + y.end) (x.start + x.end))) ∙ or_left (eqb (x.start + x.end) (x.start + x.end)) (list_any (λ y. eqb (y.start + y.end) (x.start + x.end)) xs) (eq-eqb (x.start + x.end) (x.start + x.end) refl)

kept_by-le : (length : ℕ) (ts : List Trim) → kept_by length ts ≤ length
kept_by-le length [] = omega arith
kept_by-le length (t ∷ ts) = omega arith

pub kept_up_to-le : (l : List Role) (n : ℕ) → kept_up_to l n ≤ n * frame_length l
kept_up_to-le l zero = omega arith
kept_up_to-le l (suc n) = grind (arith, kept_up_to-le l n, kept_by-le (frame_length l) (trims_in n l))

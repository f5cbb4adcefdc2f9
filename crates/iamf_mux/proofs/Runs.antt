-- Slices that lie end to end are one.
use Rattle.std.proofs.Common.{◌≡◌, ℕ, zero, suc, ◌+◌, ◌-◌, ◌≤◌, List, [], ◌∷◌, ◌++◌, take, drop, refl, sym, ap, ap₂, ◌∙◌, append_assoc, append-nil, arith}
use Rattle.std.specs.Prelude.{slice_range}
use Rattle.std.proofs.lemmas.List.{drop-drop}
use Rattle.iamf_mux.specs.Gathering.{Slices, with_bytes}

take-none : (n : ℕ) → take {A = ℕ} n [] ≡ []
take-none zero = refl
take-none (suc n) = refl

take-two : (n m : ℕ) (xs : List ℕ) → take (n + m) xs ≡ take n xs ++ take m (drop n xs)
take-two zero m xs = let e : 0 + m ≡ m = omega arith in rw e refl
take-two (suc n) m [] = take-none (suc n + m) ∙ sym (take-none m)
take-two (suc n) m (x ∷ xs) = let e : suc n + m ≡ suc (n + m) = omega arith in rw e (ap (λ (t : List ℕ). x ∷ t) (take-two n m xs))

end_to_end : (b : List ℕ) (s m e : ℕ) → s ≤ m → m ≤ e → slice_range b s m ++ slice_range b m e ≡ slice_range b s e
end_to_end b s m e first next =
    let both : e - s ≡ m - s + (e - m) = omega arith in
    let at : s + (m - s) ≡ m = omega arith in
    sym (ap (λ (k : ℕ). take k (drop s b)) both ∙ take-two (m - s) (e - m) (drop s b)
    ∙ ap (λ (t : List ℕ). take (m - s) (drop s b) ++ take (e - m) t) (drop-drop (m - s) s b ∙ ap (λ (k : ℕ). drop k b) at))

nothing : (b : List ℕ) (s e : ℕ) → s ≡ e → slice_range b s e ≡ []
nothing b s e is = let none : e - s ≡ 0 = omega (arith, is) in ap (λ (k : ℕ). take k (drop s b)) none

-- of a last slice with no bytes nothing is seen
pub all_closed : (xs b : List ℕ) (s e : ℕ) → s ≡ e → xs ++ slice_range b s e ≡ xs
all_closed xs b s e is = ap (λ (t : List ℕ). xs ++ t) (nothing b s e is) ∙ append-nil xs

-- ---- more bytes of the units

abbrev pub slices : List ℕ → List ℕ → List ℕ → Slices
slices d u ns = record { descriptors = d; units = u; unit_lengths = ns }

-- the last slice is longer
pub goes_on : (d ns xs b : List ℕ) (s m at e : ℕ) → at ≡ m → s ≤ m → at ≤ e → slices d (xs ++ slice_range b s e) ns ≡ with_bytes (slice_range b at e) (slices d (xs ++ slice_range b s m) ns)
goes_on d ns xs b s m at e here first next =
    let more : xs ++ slice_range b s e ≡ (xs ++ slice_range b s at) ++ slice_range b at e =
    ap (λ (t : List ℕ). xs ++ t) (sym (end_to_end b s at e (omega (arith, here, first)) next)) ∙ sym (append_assoc xs (slice_range b s at) (slice_range b at e)) in
    ap (λ (u : List ℕ). slices d u ns) (more ∙ ap (λ (k : ℕ). (xs ++ slice_range b s k) ++ slice_range b at e) here)

-- the last slice was put among the others, and another begins
pub begins : (all : Slices) (d ns xs b old : List ℕ) (s m at e : ℕ) → slices d (xs ++ slice_range b s m) ns ≡ all → s ≡ m → b ≡ old → slices d (xs ++ slice_range b at e) ns ≡ with_bytes (slice_range old at e) all
begins all d ns xs b old s m at e is none same =
    ap₂ (λ (x y : List ℕ). slices d (x ++ slice_range y at e) ns) (sym (all_closed xs b s m none)) same ∙ ap (with_bytes (slice_range old at e)) is

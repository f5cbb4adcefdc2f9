-- The size field by its bytes, and what the plain tests find.
use Rattle.std.proofs.Common.{◌≡◌, ℕ, zero, suc, ◌-◌, ◌*◌, ◌^◌, ◌<◌, ◌≤◌, List, [], ◌∷◌, length, take, drop, refl, sym, ap, ◌∙◌, arith}
use Rattle.std.proofs.lemmas.List.{length-take, length-drop, take_all}
use Rattle.std.proofs.Math.Nat.{pow-le-pow_right, pow-suc}
use Rattle.spec_bits.specs.Leb.{AllGoOn, EndsAtLast, leb_value}
use Rattle.spec_obu.specs.Faults.{SizeIs}

-- ---- the bytes of the size field

pub ends_not : (b : List ℕ) (k n : ℕ) → AllGoOn (take k b) → n ≤ k → EndsAtLast (take n b) → ⊥
ends_not b k zero all le ends = ends
ends_not [] k (suc n) all le ends = ends
ends_not (x ∷ b) zero (suc n) all le ends = omega arith
ends_not (x ∷ []) (suc k) (suc zero) all le ends = omega (arith, ends, all.0)
ends_not (x ∷ []) (suc k) (suc (suc n)) all le ends = omega (arith, ends, all.0)
ends_not (x ∷ y ∷ b) (suc k) (suc zero) all le ends = omega (arith, ends, all.0)
ends_not (x ∷ y ∷ b) (suc k) (suc (suc n)) all le ends = ends_not (y ∷ b) k (suc n) all.1 (omega arith) ends.1

pub no_size : (b : List ℕ) → AllGoOn (take 8 b) → (n v : ℕ) → SizeIs b n v → ⊥
no_size b all n v s = ends_not b 8 n all s.few s.ends

pub ends_same : (b : List ℕ) (n m : ℕ) → EndsAtLast (take n b) → EndsAtLast (take m b) → take n b ≡ take m b
ends_same b zero m p q = absurd p
ends_same [] (suc n) m p q = absurd p
ends_same (x ∷ b) (suc n) zero p q = absurd q
ends_same (x ∷ []) (suc n) (suc m) p q = ap (λ (t : List ℕ). x ∷ t) (take-none n ∙ sym (take-none m))
  where
    take-none : (n : ℕ) → take {A = ℕ} n [] ≡ []
    take-none zero = refl
    take-none (suc n) = refl
ends_same (x ∷ y ∷ b) (suc zero) (suc zero) p q = refl
ends_same (x ∷ y ∷ b) (suc zero) (suc (suc m)) p q = absurd (omega (arith, p, q.0))
ends_same (x ∷ y ∷ b) (suc (suc n)) (suc zero) p q = absurd (omega (arith, q, p.0))
ends_same (x ∷ y ∷ b) (suc (suc n)) (suc (suc m)) p q = ap (λ (t : List ℕ). x ∷ t) (ends_same (y ∷ b) (suc n) (suc m) p.1 q.1)

pub same_size : (b : List ℕ) (n v m w : ℕ) → SizeIs b n v → SizeIs b m w → (n ≡ m) × (v ≡ w)
same_size b n v m w p q =
    let e = ends_same b n m p.ends q.ends in
    (omega (arith, ap length e, length-take n b, length-take m b, p.there, q.there), sym p.value ∙ ap leb_value e ∙ q.value)

-- ---- the number that they make

below_power : (b : List ℕ) → leb_value b < 128 ^ length b
below_power [] = omega arith
below_power (x ∷ b) = let grown : 128 ^ suc (length b) ≡ 128 ^ length b * 128 = pow-suc 128 (length b) in omega (arith, below_power b, grown)

pub value_small : (b : List ℕ) (k : ℕ) → length b ≤ k → leb_value b < 128 ^ k
value_small b k few = let base : 0 < 128 = omega arith in let p : 128 ^ length b ≤ 128 ^ k = pow-le-pow_right base few in omega (arith, p, below_power b)

-- the value of the last i bytes
abbrev pub last_value : List ℕ → ℕ → ℕ
last_value b i = leb_value (drop (length b - i) b)

pub last_small : (b : List ℕ) (i : ℕ) → i < length b → length b ≤ 8 → last_value b i < 2 ^ 49
last_small b i here few = value_small (drop (length b - i) b) 7 (omega (arith, length-drop (length b - i) b))

pub last_within : (b : List ℕ) (i : ℕ) → length b ≤ 8 → last_value b i < 2 ^ 56
last_within b i few = value_small (drop (length b - i) b) 8 (omega (arith, length-drop (length b - i) b))

-- the bytes from a place on, as a slice has them
pub suffix : (n : ℕ) (b : List ℕ) → take (length b - n) (drop n b) ≡ drop n b
suffix n b = take_all (length b - n) (drop n b) (omega (arith, length-drop n b))

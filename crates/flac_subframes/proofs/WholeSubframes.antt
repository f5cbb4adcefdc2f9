-- A subframe, one part after the other.
use Rattle.std.proofs.Common.{◌≡◌, ℕ, suc, ◌+◌, ◌-◌, ◌*◌, ◌^◌, ◌<◌, ◌≤◌, ℤ, pos, ◌*ℤ◌, List, [], ◌∷◌, length, map, get_or, set, unsigned_abs, Ok, Err, refl, sym, ap, ◌∙◌, arith, inl, inr, FitsSigned, w64}
use Rattle.std.proofs.Math.Nat.{mul-le-mul_right, pow-le-pow_right}
use Rattle.std.proofs.lemmas.List.{get_or_past, get_or-set_same, get_or-set_other}
use Rattle.std.proofs.lemmas.Nat.{pow-add}
use Rattle.std.proofs.lemmas.Bool.{cases_eq, cases_lt}
use Rattle.std.proofs.lemmas.Int.{unsigned_abs-mul, ints}
use Rattle.spec_bits.specs.Cursor.{Cursor}
use Rattle.spec_syntax.specs.Syntax.{Syntax, End, ◌>>=◌}
use Rattle.spec_syntax.specs.Reading.{read}
use Rattle.spec_syntax.proofs.Reading.{read_bind}
use Rattle.spec_flac.specs.declared.fault.FlacFault.{FlacFault}
use Rattle.spec_flac.specs.Faults.{short}
use Rattle.spec_flac.specs.Subframe.{subframe, subframe_kind, wasted_bits, content, scaled, half_of}
use Rattle.flac_subframes.specs.Rows.{AreWithin}

-- ---- the table

abbrev after_wasted : ℕ → ℕ → ℕ → ℕ → Syntax FlacFault (List ℤ)
after_wasted depth n kind k = content kind (depth - k) n >>= λ zs. End (scaled k zs)

abbrev after_kind : ℕ → ℕ → ℕ → Syntax FlacFault (List ℤ)
after_kind depth n kind = wasted_bits depth >>= after_wasted depth n kind

pub no_kind : (depth n : ℕ) (c : Cursor) (f : FlacFault) → read short (subframe_kind n) c ≡ Err f → read short (subframe depth n) c ≡ Err f
unfolding subframe
no_kind depth n c f e = read_bind short (subframe_kind n) (after_kind depth n) c ∙ rw e refl

pub no_wasted : (depth n kind : ℕ) (c d : Cursor) (f : FlacFault) → read short (subframe_kind n) c ≡ Ok (kind, d) → read short (wasted_bits depth) d ≡ Err f → read short (subframe depth n) c ≡ Err f
unfolding subframe
no_wasted depth n kind c d f e g = read_bind short (subframe_kind n) (after_kind depth n) c ∙ rw e (read_bind short (wasted_bits depth) (after_wasted depth n kind) d ∙ rw g refl)

pub no_content : (depth n kind k : ℕ) (c d e : Cursor) (f : FlacFault) → read short (subframe_kind n) c ≡ Ok (kind, d) → read short (wasted_bits depth) d ≡ Ok (k, e) → read short (content kind (depth - k) n) e ≡ Err f → read short (subframe depth n) c ≡ Err f
unfolding subframe
no_content depth n kind k c d e f one two three =
    read_bind short (subframe_kind n) (after_kind depth n) c ∙ rw one (read_bind short (wasted_bits depth) (after_wasted depth n kind) d ∙ rw two (read_bind short (content kind (depth - k) n) (λ zs. End (scaled k zs)) e ∙ rw three refl))

pub whole : (depth n kind k : ℕ) (c d e h : Cursor) (zs ys : List ℤ) → read short (subframe_kind n) c ≡ Ok (kind, d) → read short (wasted_bits depth) d ≡ Ok (k, e) → read short (content kind (depth - k) n) e ≡ Ok (zs, h) → ys ≡ scaled k zs
    → read short (subframe depth n) c ≡ Ok (ys, h)
unfolding subframe
whole depth n kind k c d e h zs ys one two three is =
    read_bind short (subframe_kind n) (after_kind depth n) c ∙ rw one (read_bind short (wasted_bits depth) (after_wasted depth n kind) d ∙ rw two (read_bind short (content kind (depth - k) n) (λ xs. End (scaled k xs)) e ∙ rw (three, is) refl))

-- ---- rows, place by place

pub map_from : (f : ℤ → ℤ) (xs ys : List ℤ) → length xs ≡ length ys → ((i : ℕ) → i < length ys → get_or xs i (pos 0) ≡ f (get_or ys i (pos 0))) → xs ≡ map f ys
map_from f [] [] len same = refl
map_from f [] (y ∷ ys) len same = absurd (omega arith)
map_from f (x ∷ xs) [] len same = absurd (omega arith)
map_from f (x ∷ xs) (y ∷ ys) len same =
    let head : x ≡ f y = same 0 (omega arith) in
    let rest : xs ≡ map f ys = map_from f xs ys (omega arith) (λ i lt. same (suc i) (omega arith)) in
    rw (head, rest) refl

pub scaled_small : (z : ℤ) (depth k : ℕ) → 1 ≤ depth → depth ≤ 33 → k < depth → unsigned_abs z ≤ 2 ^ (depth - k - 1) → unsigned_abs z * 2 ^ k ≤ 2 ^ (depth - 1)
scaled_small z depth k low high lt le =
    let p : 2 ^ (depth - k - 1) * 2 ^ k ≡ 2 ^ (depth - 1) = sym (pow-add 2 (depth - k - 1) k) ∙ (let e : depth - k - 1 + k ≡ depth - 1 = omega arith in ap (λ (n : ℕ). 2 ^ n) e) in
    let q : unsigned_abs z * 2 ^ k ≤ 2 ^ (depth - k - 1) * 2 ^ k = mul-le-mul_right (2 ^ k) le in
    omega (arith, p, q)

pub within_scaled : (depth k : ℕ) (row old : List ℤ) → 1 ≤ depth → depth ≤ 33 → k < depth → length row ≡ length old → AreWithin (half_of (depth - k)) old → ((i : ℕ) → i < length old → get_or row i (pos 0) ≡ get_or old i (pos 0) *ℤ pos (2 ^ k)) → AreWithin (half_of depth) row
within_scaled depth k row old low high lt len small done i = elim (cases_lt i (length old)) [
  | inl inside ↦ let m = scaled_small (get_or old i (pos 0)) depth k low high lt (small i) in rw (done i inside) (omega (arith, m, unsigned_abs-mul (get_or old i (pos 0)) (pos (2 ^ k))))
  | inr past ↦ rw (get_or_past row i (pos 0) (omega arith)) (omega arith)
]

pub scaled_fits : (z : ℤ) (depth k : ℕ) → 1 ≤ depth → depth ≤ 33 → k < depth → unsigned_abs z ≤ 2 ^ (depth - k - 1) → unsigned_abs z * 2 ^ k ≤ 2 ^ 32
scaled_fits z depth k low high lt le =
    let le_32 : depth - 1 ≤ 32 = omega arith in
    let two : 0 < 2 = omega arith in
    let p : 2 ^ (depth - 1) ≤ 2 ^ 32 = pow-le-pow_right two le_32 in
    omega (arith, p, scaled_small z depth k low high lt le)

pub half_small : (z : ℤ) (depth : ℕ) → depth ≤ 33 → unsigned_abs z ≤ 2 ^ (depth - 1) → unsigned_abs z ≤ 2 ^ 32
half_small z depth high le =
    let le_32 : depth - 1 ≤ 32 = omega arith in
    let two : 0 < 2 = omega arith in
    let p : 2 ^ (depth - 1) ≤ 2 ^ 32 = pow-le-pow_right two le_32 in
    omega (arith, p, le)

pub half_fits : (z : ℤ) (depth : ℕ) → depth ≤ 33 → unsigned_abs z ≤ 2 ^ (depth - 1) → FitsSigned w64 z
half_fits z depth high le = omega (arith, ints, half_small z depth high le)

pub done_more : (f : ℤ → ℤ) (row old : List ℤ) (n : ℕ) (z : ℤ) → n < length row → z ≡ f (get_or old n (pos 0)) → ((i : ℕ) → i < n → get_or row i (pos 0) ≡ f (get_or old i (pos 0))) → (i : ℕ) → i < n + 1 → get_or (set row n z) i (pos 0) ≡ f (get_or old i (pos 0))
done_more f row old n z lt is done i inside = elim (cases_eq i n) [
  | inl same ↦ rw (same, get_or-set_same) is
  | inr other ↦ rw get_or-set_other (done i (omega (arith, other)))
]

pub left_same : (row old : List ℤ) (n : ℕ) (z : ℤ) → ((i : ℕ) → n ≤ i → get_or row i (pos 0) ≡ get_or old i (pos 0)) → (i : ℕ) → n + 1 ≤ i → get_or (set row n z) i (pos 0) ≡ get_or old i (pos 0)
left_same row old n z left i past = let other : i ≡ n → ⊥ = (λ same. absurd (omega (arith, same))) in rw get_or-set_other (left i (omega arith))

pub scaled_none : (zs : List ℤ) → zs ≡ scaled 0 zs
scaled_none [] = refl
scaled_none (z ∷ zs) =
    let one : z ≡ z *ℤ pos (2 ^ 0) = omega (arith, ints) in
    ap (λ (y : ℤ). y ∷ zs) one ∙ ap (λ (ys : List ℤ). (z *ℤ pos (2 ^ 0)) ∷ ys) (scaled_none zs)

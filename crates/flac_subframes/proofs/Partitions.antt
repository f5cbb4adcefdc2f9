-- Reading partitions one after the other.
use Rattle.std.proofs.Common.{◌≡◌, ℕ, suc, ◌+◌, ◌-◌, ◌*◌, ◌/◌, ◌%◌, ◌^◌, ◌<◌, ◌≤◌, arith, refl, List, ap, sym, ◌∙◌, length, ℤ, subst, Result, Ok, Err, true, false, eqb, ltb, inl, inr}
use Rattle.std.proofs.lemmas.Bool.{eq-eqb, ne_eqb, lt-ltb, le-ltb, cases_lt}
use Rattle.std.proofs.lemmas.Nat.{pow_below}
use Rattle.std.proofs.Math.Nat.{mul-le-mul_left}
use Rattle.spec_bits.specs.declared.FieldFault.TheVariants as field_fault
use Rattle.spec_bits.specs.Form.{Number}
use Rattle.spec_bits.specs.Cursor.{Cursor, field_at}
use Rattle.spec_syntax.specs.Syntax.{Syntax, in_turn}
use Rattle.spec_syntax.specs.Reading.{read, chain}
use Rattle.spec_syntax.proofs.Reading.{read_bind}
use Rattle.spec_flac.specs.declared.fault.FlacFault.{FlacFault}
use Rattle.spec_flac.specs.declared.fault.FlacFault.TheVariants as fault
use Rattle.spec_flac.specs.Faults.{short}
use Rattle.spec_flac.specs.Residual.{samples, plain_residual, coded_residual, partition, partitions, residual}

-- ---- one partition

pub partition_plain : (half : ℤ) (predict : List ℤ → ℤ) (count to : ℕ) (before : List ℤ) (c d e : Cursor) (k w from : ℕ) → length before ≡ from → k ≡ 2 ^ count - 1
    → field_at (Number count) c ≡ Ok (k, d) → field_at (Number 5) d ≡ Ok (w, e) → read short (partition half predict count to before) c ≡ read short (samples half (plain_residual w) predict (to - from) before) e
unfolding partition
partition_plain half predict count to before c d e k w from len is one two =
    let t : eqb k (2 ^ count - 1) ≡ true = eq-eqb _ _ is in
    rw (one, t, two, len) refl

pub partition_coded : (half : ℤ) (predict : List ℤ → ℤ) (count to : ℕ) (before : List ℤ) (c d : Cursor) (k from : ℕ) → length before ≡ from → (k ≡ 2 ^ count - 1 → ⊥)
    → field_at (Number count) c ≡ Ok (k, d) → read short (partition half predict count to before) c ≡ read short (samples half (coded_residual k) predict (to - from) before) d
unfolding partition
partition_coded half predict count to before c d k from len is one =
    let t : eqb k (2 ^ count - 1) ≡ false = ne_eqb _ _ is in
    rw (one, t, len) refl

pub partition_short : (half : ℤ) (predict : List ℤ → ℤ) (count to : ℕ) (before : List ℤ) (c : Cursor) (f : FlacFault) → field_at (Number count) c ≡ Err field_fault.Short → f ≡ fault.Short → read short (partition half predict count to before) c ≡ Err f
unfolding partition
partition_short half predict count to before c f e is = rw (e, is) refl

pub width_short : (half : ℤ) (predict : List ℤ → ℤ) (count to : ℕ) (before : List ℤ) (c d : Cursor) (k : ℕ) (f : FlacFault) → k ≡ 2 ^ count - 1
    → field_at (Number count) c ≡ Ok (k, d) → field_at (Number 5) d ≡ Err field_fault.Short → f ≡ fault.Short → read short (partition half predict count to before) c ≡ Err f
unfolding partition
width_short half predict count to before c d k f same one two is =
    let t : eqb k (2 ^ count - 1) ≡ true = eq-eqb _ _ same in
    rw (one, t, two, is) refl

-- ---- so many partitions

-- what is left to be read after i of them
abbrev pub left : ℤ → (List ℤ → ℤ) → ℕ → ℕ → ℕ → ℕ → List ℤ → Syntax FlacFault (List ℤ)
left half predict bits size count i zs = in_turn (count - i) (λ later ys. partition half predict bits (size * (count - later)) ys) zs

pub left_first : (half : ℤ) (predict : List ℤ → ℤ) (bits size count : ℕ) (zs : List ℤ) → partitions half predict bits size count zs ≡ left half predict bits size count 0 zs
unfolding partitions
left_first half predict bits size count zs = ap (λ (n : ℕ). in_turn n (λ later ys. partition half predict bits (size * (count - later)) ys) zs) (omega arith)

pub below_32 : (v k : ℕ) → k ≤ 5 → v < 2 ^ k → v < 32
below_32 v k le lt = elim (cases_lt k 5) [
  | inl small ↦ omega (arith, lt, pow_below k 5 small)
  | inr large ↦ let same : k ≡ 5 = omega arith in omega (arith, subst (λ (n : ℕ). v < 2 ^ n) same lt)
]

left_steps : (half : ℤ) (predict : List ℤ → ℤ) (bits size count i : ℕ) (zs : List ℤ) (c : Cursor) → i < count
    → read short (left half predict bits size count i zs) c ≡ chain (read short (partition half predict bits (size * (i + 1)) zs) c) (λ x. read short (left half predict bits size count (i + 1) x.0) x.1)
unfolding in_turn
left_steps half predict bits size count i zs c lt =
    let k : count - i ≡ suc (count - (i + 1)) = omega arith in
    let m : count - (count - (i + 1)) ≡ i + 1 = omega arith in
    rw k (read_bind short (partition half predict bits (size * (count - (count - (i + 1)))) zs) (λ ys. in_turn (count - (i + 1)) (λ later xs. partition half predict bits (size * (count - later)) xs) ys) c)
    ∙ ap (λ (n : ℕ). chain (read short (partition half predict bits (size * n) zs) c) (λ x. read short (left half predict bits size count (i + 1) x.0) x.1)) m

pub left_goes_on : (half : ℤ) (predict : List ℤ → ℤ) (bits size count i end : ℕ) (zs ys : List ℤ) (c d : Cursor) (total : Result (List ℤ × Cursor) FlacFault) → i < count → end ≡ size * (i + 1)
    → read short (partition half predict bits end zs) c ≡ Ok (ys, d) → read short (left half predict bits size count i zs) c ≡ total → read short (left half predict bits size count (i + 1) ys) d ≡ total
left_goes_on half predict bits size count i end zs ys c d total lt is one so_far =
    let e : read short (partition half predict bits (size * (i + 1)) zs) c ≡ Ok (ys, d) = subst (λ (n : ℕ). read short (partition half predict bits n zs) c ≡ Ok (ys, d)) is one in
    sym (left_steps half predict bits size count i zs c lt ∙ rw e refl) ∙ so_far

pub left_fails : (half : ℤ) (predict : List ℤ → ℤ) (bits size count i end : ℕ) (zs : List ℤ) (c : Cursor) (f : FlacFault) (total : Result (List ℤ × Cursor) FlacFault) → i < count → end ≡ size * (i + 1)
    → read short (partition half predict bits end zs) c ≡ Err f → read short (left half predict bits size count i zs) c ≡ total → total ≡ Err f
left_fails half predict bits size count i end zs c f total lt is one so_far =
    let e : read short (partition half predict bits (size * (i + 1)) zs) c ≡ Err f = subst (λ (n : ℕ). read short (partition half predict bits n zs) c ≡ Err f) is one in
    sym so_far ∙ left_steps half predict bits size count i zs c lt ∙ rw e refl

pub left_ends : (half : ℤ) (predict : List ℤ → ℤ) (bits size count i : ℕ) (zs : List ℤ) (c : Cursor) (total : Result (List ℤ × Cursor) FlacFault) → count ≤ i
    → read short (left half predict bits size count i zs) c ≡ total → total ≡ Ok (zs, c)
unfolding in_turn
left_ends half predict bits size count i zs c total le so_far = let k : count - i ≡ 0 = omega arith in sym so_far ∙ rw k refl

-- ---- the residual

pub residual_is : (half : ℤ) (predict : List ℤ → ℤ) (block_size : ℕ) (warm_up : List ℤ) (c d e : Cursor) (m p size count from bits : ℕ) → length warm_up ≡ from → m ≤ 1 → count ≡ 2 ^ p → block_size % count ≡ 0 → size ≡ block_size / count → from ≤ size → bits ≡ m + 4
    → field_at (Number 2) c ≡ Ok (m, d) → field_at (Number 4) d ≡ Ok (p, e) → read short (residual half predict block_size warm_up) c ≡ read short (partitions half predict bits size count warm_up) e
unfolding residual
residual_is half predict block_size warm_up c d e m p size count from bits len few power whole is fits more one two =
    let t : ltb 1 m ≡ false = le-ltb _ _ few in
    let u : eqb (block_size % 2 ^ p) 0 ≡ true = eq-eqb _ _ (ap (λ (n : ℕ). block_size % n) (sym power) ∙ whole) in
    let size_is : block_size / 2 ^ p ≡ size = ap (λ (n : ℕ). block_size / n) (sym power) ∙ sym is in
    let v : ltb size from ≡ false = le-ltb _ _ fits in
    rw (one, t, two, u, len, size_is, v, power, more) refl

pub method_short : (half : ℤ) (predict : List ℤ → ℤ) (block_size : ℕ) (warm_up : List ℤ) (c : Cursor) (f : FlacFault) → field_at (Number 2) c ≡ Err field_fault.Short → f ≡ fault.Short → read short (residual half predict block_size warm_up) c ≡ Err f
unfolding residual
method_short half predict block_size warm_up c f e is = rw (e, is) refl

pub method_reserved : (half : ℤ) (predict : List ℤ → ℤ) (block_size : ℕ) (warm_up : List ℤ) (c d : Cursor) (m : ℕ) → 1 < m → field_at (Number 2) c ≡ Ok (m, d) → read short (residual half predict block_size warm_up) c ≡ Err fault.Residual
unfolding residual
method_reserved half predict block_size warm_up c d m lt e = let t : ltb 1 m ≡ true = lt-ltb _ _ lt in rw (e, t) refl

pub order_short : (half : ℤ) (predict : List ℤ → ℤ) (block_size : ℕ) (warm_up : List ℤ) (c d : Cursor) (m : ℕ) (f : FlacFault) → m ≤ 1 → field_at (Number 2) c ≡ Ok (m, d) → field_at (Number 4) d ≡ Err field_fault.Short → f ≡ fault.Short → read short (residual half predict block_size warm_up) c ≡ Err f
unfolding residual
order_short half predict block_size warm_up c d m f le e g is = let t : ltb 1 m ≡ false = le-ltb _ _ le in rw (e, t, g, is) refl

pub order_splits : (half : ℤ) (predict : List ℤ → ℤ) (block_size : ℕ) (warm_up : List ℤ) (c d e : Cursor) (m p count : ℕ) → m ≤ 1 → count ≡ 2 ^ p → (block_size % count ≡ 0 → ⊥)
    → field_at (Number 2) c ≡ Ok (m, d) → field_at (Number 4) d ≡ Ok (p, e) → read short (residual half predict block_size warm_up) c ≡ Err fault.Residual
unfolding residual
order_splits half predict block_size warm_up c d e m p count le power not_whole one two =
    let t : ltb 1 m ≡ false = le-ltb _ _ le in
    let u : eqb (block_size % 2 ^ p) 0 ≡ false = ne_eqb _ _ (subst (λ (n : ℕ). block_size % n ≡ 0 → ⊥) power not_whole) in
    rw (one, t, two, u) refl

pub order_large : (half : ℤ) (predict : List ℤ → ℤ) (block_size : ℕ) (warm_up : List ℤ) (c d e : Cursor) (m p count size from : ℕ) → length warm_up ≡ from → m ≤ 1 → count ≡ 2 ^ p → block_size % count ≡ 0 → size ≡ block_size / count → size < from
    → field_at (Number 2) c ≡ Ok (m, d) → field_at (Number 4) d ≡ Ok (p, e) → read short (residual half predict block_size warm_up) c ≡ Err fault.Residual
unfolding residual
order_large half predict block_size warm_up c d e m p count size from len le power whole is small one two =
    let t : ltb 1 m ≡ false = le-ltb _ _ le in
    let u : eqb (block_size % 2 ^ p) 0 ≡ true = eq-eqb _ _ (ap (λ (n : ℕ). block_size % n) (sym power) ∙ whole) in
    let size_is : block_size / 2 ^ p ≡ size = ap (λ (n : ℕ). block_size / n) (sym power) ∙ sym is in
    let v : ltb size from ≡ true = lt-ltb _ _ small in
    rw (one, t, two, u, len, size_is, v) refl

pub one_further : (size i : ℕ) → size * (i + 1) ≤ size * ((i + 1) + 1)
one_further size i = mul-le-mul_left size (omega arith)

-- Reading a residual in a Rice code.
use Rattle.std.proofs.Common.{◌≡◌, ℕ, ◌+◌, ◌-◌, ◌*◌, ◌/◌, ◌%◌, ◌^◌, ◌<◌, ◌≤◌, arith, refl, Result, Ok, Err, Some, None, true, false, cond, eqb, List, ap, sym, subst, ◌∙◌, take, drop, length, ℤ, unsigned_abs, inl, inr}
use Rattle.std.specs.Prelude.{nat_lt}
use Rattle.std.proofs.lemmas.Bool.{le-leb, lt-leb, lt-ltb, le-ltb, eq-eqb, ne_eqb, cases_eq, cases_lt}
use Rattle.std.proofs.lemmas.List.{length-drop, drop-drop}
use Rattle.std.proofs.lemmas.Nat.{pow_pos, mul-le}
use Rattle.std.proofs.Math.Nat.{mul-le-mul_left, mul-le-mul_right, pow-le-pow_right}
use Rattle.spec_bits.specs.Bits.{Bits, number_of, all_bits}
use Rattle.spec_bits.specs.Cursor.{Cursor}
use Rattle.spec_bits.proofs.BitsLaws.{length-all_bits}
use Rattle.spec_syntax.specs.Reading.{read}
use Rattle.spec_flac.specs.declared.fault.FlacFault.{FlacFault}
use Rattle.spec_flac.specs.declared.fault.FlacFault.TheVariants as fault
use Rattle.spec_flac.specs.Faults.{short}
use Rattle.spec_flac.specs.Residual.{unfolded, is_large, coded_residual}
use Rattle.flac_bits.specs.Ones.{first_one}
use Rattle.flac_bits.specs.Places.{cursor, capped}
use Rattle.flac_bits.specs.Windows.{IsWindow, place_of}
use Rattle.flac_bits.specs.Residuals.{IsUnfolded}
use Rattle.flac_bits.specs.declared.window.Window.{Window}
use Rattle.flac_bits.proofs.FieldsAt.{unary_there, unary_short, number_there, number_short}

-- what reading answers where the code is there
abbrev answer : List ℕ → ℕ → ℕ → Result (ℤ × Cursor) FlacFault
answer bytes u end = cond (is_large (unfolded u)) (Err fault.Residual) (Ok (unfolded u, cursor bytes end))

-- the zeros end at a one, so many bits stand after it, and these are their number
pub record Code (k : ℕ) (bytes : List ℕ) (place h l end : ℕ) : Type 0 where
  pub one : first_one (drop place (all_bits bytes)) ≡ Some h
  pub there : k ≤ length (drop (place + (h + 1)) (all_bits bytes))
  pub low : number_of (take k (drop (place + (h + 1)) (all_bits bytes))) ≡ l
  pub last : place + (h + 1) + k ≡ end

coded_there : (k : ℕ) (bytes : List ℕ) (place h l end : ℕ) → Code k bytes place h l end → read short (coded_residual k) (cursor bytes place) ≡ answer bytes (h * 2 ^ k + l) end
unfolding coded_residual
coded_there k bytes place h l end c =
    let last : place + (h + 1) + k ≡ end = c.last in
    rw (unary_there bytes place h (place + (h + 1)) c.one (omega arith), number_there bytes (place + (h + 1)) k l c.there c.low, last) refl

pub coded_large : (k : ℕ) (bytes : List ℕ) (place h l end : ℕ) → Code k bytes place h l end → is_large (unfolded (h * 2 ^ k + l)) ≡ true → read short (coded_residual k) (cursor bytes place) ≡ Err fault.Residual
coded_large k bytes place h l end c large = coded_there k bytes place h l end c ∙ rw large refl

pub coded_small : (k : ℕ) (bytes : List ℕ) (place h l end : ℕ) (z : ℤ) → Code k bytes place h l end → is_large (unfolded (h * 2 ^ k + l)) ≡ false → z ≡ unfolded (h * 2 ^ k + l) → read short (coded_residual k) (cursor bytes place) ≡ Ok (z, cursor bytes end)
coded_small k bytes place h l end z c small value = coded_there k bytes place h l end c ∙ rw small (ap (λ (y : ℤ). Ok (y, cursor bytes end)) (sym value))

pub coded_no_one : (k : ℕ) (bytes : List ℕ) (place : ℕ) → first_one (drop place (all_bits bytes)) ≡ None → read short (coded_residual k) (cursor bytes place) ≡ Err fault.Short
unfolding coded_residual
coded_no_one k bytes place none = rw (unary_short bytes place none) refl

pub coded_cut : (k : ℕ) (bytes : List ℕ) (place h : ℕ) → first_one (drop place (all_bits bytes)) ≡ Some h → length (drop (place + (h + 1)) (all_bits bytes)) < k → read short (coded_residual k) (cursor bytes place) ≡ Err fault.Short
unfolding coded_residual
coded_cut k bytes place h one few = rw (unary_there bytes place h (place + (h + 1)) one (omega arith), number_short bytes (place + (h + 1)) k few) refl

size : (u : ℕ) → unsigned_abs (unfolded u) ≡ u / 2 + u % 2
size u = elim (cases_eq (u % 2) 0) [
  | inl even ↦ let t : eqb (u % 2) 0 ≡ true = eq-eqb _ _ even in rw t (omega arith)
  | inr odd ↦ let t : eqb (u % 2) 0 ≡ false = ne_eqb _ _ odd in rw t (omega arith)
]

pub unfolded_small : (u : ℕ) → u < 2 ^ 32 - 1 → unsigned_abs (unfolded u) < 2 ^ 31
unfolded_small u lt = omega (arith, size u)

pub times_up : (h k : ℕ) → h ≤ h * 2 ^ k
times_up h k = let p = pow_pos k in let up : h * 1 ≤ h * 2 ^ k = mul-le-mul_left h (omega arith) in omega arith

-- ---- the residual of a code

capped_is : (h high : ℕ) → high ≡ capped h → high < 2 ^ 32 → h ≡ high
capped_is h high e lt = elim (cases_lt h (2 ^ 32)) [
  | inl small ↦ let t : nat_lt h (2 ^ 32) ≡ true = lt-ltb _ _ small in sym (rw t at e)
  | inr large ↦ let t : nat_lt h (2 ^ 32) ≡ false = le-ltb _ _ large in absurd (omega (arith, rw t at e))
]

pub capped_small : (n : ℕ) → n < 2 ^ 32 → n ≡ capped n
capped_small n lt = let t : nat_lt n (2 ^ 32) ≡ true = lt-ltb _ _ lt in rw t refl

capped_le : (h : ℕ) → capped h ≤ h
capped_le h = elim (cases_lt h (2 ^ 32)) [
  | inl small ↦ let t : nat_lt h (2 ^ 32) ≡ true = lt-ltb _ _ small in rw t (omega arith)
  | inr large ↦ let t : nat_lt h (2 ^ 32) ≡ false = le-ltb _ _ large in rw t large
]

pub unfolded_some : (k h high l u : ℕ) (z : ℤ) → high ≡ capped h → u ≡ high * 2 ^ k + l → u < 2 ^ 32 - 1 → z ≡ unfolded u → IsUnfolded (Some z) (h * 2 ^ k + l)
unfolded_some k h high l u z cap is lt value =
    let same : h ≡ high = capped_is h high cap (omega (arith, times_up high k)) in
    let all : u ≡ h * 2 ^ k + l = is ∙ ap (λ (n : ℕ). n * 2 ^ k + l) (sym same) in
    let small = unfolded_small u lt in
    subst (λ (n : ℕ). IsUnfolded (Some z) n) all (lt-leb _ _ small, value, subst (λ (y : ℤ). unsigned_abs y < 2 ^ 31) (sym value) small)

pub unfolded_none : (k h high l u : ℕ) → high ≡ capped h → u ≡ high * 2 ^ k + l → 2 ^ 32 - 1 ≤ u → IsUnfolded None (h * 2 ^ k + l)
unfolded_none k h high l u cap is le =
    let up : high * 2 ^ k ≤ h * 2 ^ k = mul-le-mul_right (2 ^ k) (omega (arith, capped_le h)) in
    le-leb _ _ (omega (arith, size (h * 2 ^ k + l)))

-- the code whose low bits stand in a window after its one
pub code_in : (bytes : List ℕ) (place h k l end : ℕ) (rest : Window) → first_one (drop place (all_bits bytes)) ≡ Some h → IsWindow bytes rest → place_of rest ≡ place + (h + 1) → k ≤ rest.count
    → l ≡ number_of (take k (drop (place_of rest) (all_bits bytes))) → end ≡ place_of rest + k → Code k bytes place h l end
code_in bytes place h k l end rest one is at le low last =
    let b = all_bits bytes in
    record {
      one = one;
      there = subst (λ (n : ℕ). k ≤ length (drop n b)) at (omega (arith, is.top.inside));
      low = subst (λ (n : ℕ). number_of (take k (drop n b)) ≡ l) at (sym low);
      last = omega (arith, last, at);
    }

-- the code that stands in a window from its first bit on
pub code_near : (bytes : List ℕ) (place h k l end : ℕ) (w : Window) → IsWindow bytes w → place_of w ≡ place → h + 1 + k ≤ w.count → first_one (drop place (all_bits bytes)) ≡ Some h
    → l ≡ number_of (take k (drop (h + 1) (drop place (all_bits bytes)))) → end ≡ place + (h + 1) + k → Code k bytes place h l end
code_near bytes place h k l end w is at le one low last =
    let b = all_bits bytes in
    let top : w.count ≤ length (drop place b) = subst (λ (n : ℕ). w.count ≤ length (drop n b)) at is.top.inside in
    record {
      one = one;
      there = omega (arith, top, length-drop (place + (h + 1)) b, length-drop place b);
      low = subst (λ (x : Bits). number_of (take k x) ≡ l) (drop-drop (h + 1) place b) (sym low);
      last = sym last;
    }

pub code_some : (k : ℕ) (bytes : List ℕ) (place h l end : ℕ) (z : ℤ) → Code k bytes place h l end → IsUnfolded (Some z) (h * 2 ^ k + l) → read short (coded_residual k) (cursor bytes place) ≡ Ok (z, cursor bytes end)
code_some k bytes place h l end z c is = coded_small k bytes place h l end z c is.0 is.1

pub code_none : (k : ℕ) (bytes : List ℕ) (place h l end : ℕ) → Code k bytes place h l end → IsUnfolded None (h * 2 ^ k + l) → read short (coded_residual k) (cursor bytes place) ≡ Err fault.Residual
code_none k bytes place h l end c is = coded_large k bytes place h l end c is

-- fewer bits stand after the one than the code needs
pub cut_in : (bytes : List ℕ) (place h k : ℕ) (rest : Window) → first_one (drop place (all_bits bytes)) ≡ Some h → IsWindow bytes rest → place_of rest ≡ place + (h + 1) → rest.next ≡ length bytes → rest.count < k
    → read short (coded_residual k) (cursor bytes place) ≡ Err fault.Short
cut_in bytes place h k rest one is at all few =
    coded_cut k bytes place h one (omega (arith, length-drop (place + (h + 1)) (all_bits bytes), length-all_bits bytes, at, all, is.behind))

-- few zeros and few low bits are a small number
pub few_small : (z k l u : ℕ) → z ≤ 56 → k ≤ 24 → l < 2 ^ k → u ≡ z * 2 ^ k + l → u < 2 ^ 32 - 1
few_small z k l u few le small is =
    let two : 0 < 2 = omega arith in
    let p : 2 ^ k ≤ 2 ^ 24 = pow-le-pow_right two le in
    let m : z * 2 ^ k ≤ 56 * 2 ^ 24 = mul-le z (2 ^ k) 56 (2 ^ 24) few p in
    omega (arith, m, p)

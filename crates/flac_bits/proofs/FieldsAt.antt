-- Fields at a place.
use Rattle.std.proofs.Common.{◌≡◌, ℕ, suc, ◌+◌, ◌*◌, ◌<◌, ◌≤◌, true, false, ltb, List, [], ◌∷◌, length, take, drop, Option, Some, None, Result, Ok, Err, refl, sym, ap, subst, ◌∙◌, arith}
use Rattle.std.proofs.lemmas.Bool.{lt-ltb, le-ltb}
use Rattle.spec_bits.specs.declared.FieldFault.{FieldFault}
use Rattle.spec_bits.specs.declared.FieldFault.TheVariants.{Short}
use Rattle.spec_bits.specs.Bits.{Bits, number_of, all_bits}
use Rattle.spec_bits.specs.Form.{Number, Unary}
use Rattle.spec_bits.specs.Cursor.{field_at, field_front, unary_front}
use Rattle.spec_bits.specs.ByteReading.{◌>>=◌}
use Rattle.flac_bits.specs.Ones.{first_one, more}
use Rattle.flac_bits.specs.Places.{cursor}
use Rattle.flac_bits.proofs.EightBytes.{front_bits}
use Rattle.flac_bits.specs.Windows.{IsWindow, place_of}
use Rattle.flac_bits.specs.declared.window.Window.{Window}
use Rattle.std.proofs.lemmas.List.{drop_all, length-drop, length-take-le}
use Rattle.spec_bits.proofs.BitsLaws.{length-all_bits}

pub number_there : (bytes : List ℕ) (place count v : ℕ) → count ≤ length (drop place (all_bits bytes)) → number_of (take count (drop place (all_bits bytes))) ≡ v → field_at (Number count) (cursor bytes place) ≡ Ok (v, cursor bytes (place + count))
unfolding field_at field_front
number_there bytes place count v le is = let t : ltb (length (drop place (all_bits bytes))) count ≡ false = le-ltb _ _ le in rw (t, is) refl

pub number_short : (bytes : List ℕ) (place count : ℕ) → length (drop place (all_bits bytes)) < count → field_at (Number count) (cursor bytes place) ≡ Err Short
unfolding field_at field_front
number_short bytes place count lt = let t : ltb (length (drop place (all_bits bytes))) count ≡ true = lt-ltb _ _ lt in rw t refl

-- the number on top of a window
pub number_in : (bytes : List ℕ) (place count v : ℕ) (w next : Window) → place_of w ≡ place → IsWindow bytes w → count ≤ w.count → v ≡ number_of (take count (drop (place_of w) (all_bits bytes))) → place_of next ≡ place_of w + count
    → field_at (Number count) (cursor bytes place) ≡ Ok (v, cursor bytes (place_of next))
number_in bytes place count v w next at is le value moves =
    let inside : count ≤ length (drop place (all_bits bytes)) = subst (λ (n : ℕ). count ≤ length (drop n (all_bits bytes))) at (omega (arith, is.top.inside)) in
    let same : number_of (take count (drop place (all_bits bytes))) ≡ v = sym (subst (λ (n : ℕ). v ≡ number_of (take count (drop n (all_bits bytes)))) at value) in
    number_there bytes place count v inside same ∙ ap (λ (n : ℕ). Ok (v, cursor bytes n)) (omega (arith, at, moves))

-- the bits before a place on a byte
pub before_bytes : (bytes : List ℕ) (place count : ℕ) → place ≡ 8 * count → count ≤ length bytes → all_bits (take count bytes) ≡ take place (all_bits bytes)
before_bytes bytes place count is le = sym (front_bits count bytes le) ∙ ap (λ (n : ℕ). take n (all_bits bytes)) (sym is)

pub length_before : (bytes : List ℕ) (place : ℕ) → place ≤ 8 * length bytes → length (take place (all_bits bytes)) ≡ place
length_before bytes place le = length-take-le place (all_bits bytes) (omega (arith, length-all_bits bytes))

pub no_bits : (bytes : List ℕ) (place : ℕ) → 8 * length bytes ≤ place → drop place (all_bits bytes) ≡ []
no_bits bytes place le = drop_all place (all_bits bytes) (omega (arith, length-all_bits bytes))

pub no_bits_left : (bytes : List ℕ) (place : ℕ) → drop place (all_bits bytes) ≡ [] → 8 * length bytes ≤ place
no_bits_left bytes place e = omega (arith, length-drop place (all_bits bytes), length-all_bits bytes, ap (λ (b : Bits). length b) e)

-- ---- zeros ended by a one

abbrev with_one : Option ℕ → Result (ℕ × ℕ) FieldFault
with_one None = Err Short
with_one (Some z) = Ok (z, suc z)

next_zero : (r : Option ℕ) → (with_one r >>= λ x. Ok (suc x.0, suc x.1)) ≡ with_one (more r)
next_zero None = refl
next_zero (Some z) = refl

unary_is : (bits : Bits) → unary_front bits ≡ with_one (first_one bits)
unfolding unary_front
unary_is [] = refl
unary_is (true ∷ bits) = refl
unary_is (false ∷ bits) = ap (λ (r : Result (ℕ × ℕ) FieldFault). r >>= λ x. Ok (suc x.0, suc x.1)) (unary_is bits) ∙ next_zero (first_one bits)

pub unary_there : (bytes : List ℕ) (place z end : ℕ) → first_one (drop place (all_bits bytes)) ≡ Some z → end ≡ place + z + 1 → field_at Unary (cursor bytes place) ≡ Ok (z, cursor bytes end)
unfolding field_at field_front
unary_there bytes place z end e is =
    let k : place + suc z ≡ end = omega arith in
    rw (unary_is (drop place (all_bits bytes)), e) (ap (λ (n : ℕ). Ok (z, cursor bytes n)) k)

pub unary_short : (bytes : List ℕ) (place : ℕ) → first_one (drop place (all_bits bytes)) ≡ None → field_at Unary (cursor bytes place) ≡ Err Short
unfolding field_at field_front
unary_short bytes place e = rw (unary_is (drop place (all_bits bytes)), e) refl

-- The number that a word is the decimal of.
use Rattle.std.proofs.Common.{◌≡◌, ◌<◌, ◌^◌, ℕ, List, Option, Some, None, Bool, true, false, ◌&&◌, cond, refl, sym, ap, ◌∙◌, arith, nat_lt}
use Rattle.std.specs.Prelude.{if◌then◌else◌, Result, Ok, Err}
use Rattle.std.specs.Fmt.{decimal}
use Rattle.std.specs.Str.{bytes_eq}
use Rattle.std.specs.Str.Parse.{digits_value, ParsesUnsigned}
use Rattle.std.proofs.lemmas.Slice.Eq.{bytes_eq-Decides}
use Rattle.std.proofs.lemmas.Bool.Decides.{Decides-ltb}
use Rattle.std.proofs.lemmas.Fmt.{decimal_is_IsNumeral, parse-decimal}
use Rattle.iamf_tool.specs.Words.{number_of}

both : (a b : Bool) (v n : ℕ) → a ≡ true → b ≡ true → v ≡ n → (if a && b then Some v else None) ≡ Some n
both a b v n first second same = rw (first, second) (ap Some same)

neither : (a b : Bool) (v : ℕ) → (a ≡ true → b ≡ true → ⊥) → (if a && b then Some v else None) ≡ None
neither true true v fails = absurd (fails refl refl)
neither true false v fails = refl
neither false b v fails = refl

is_decimal : (word : List ℕ) (n : ℕ) → n < 2 ^ 32 → decimal n ≡ word → number_of word ≡ Some n
is_decimal word n small e =
    let value : digits_value 10 word ≡ n = ap (digits_value 10) (sym e) ∙ (decimal_is_IsNumeral n (omega arith)).1 in
    both (bytes_eq word (decimal (digits_value 10 word))) (nat_lt (digits_value 10 word) (2 ^ 32)) (digits_value 10 word) n
    ((bytes_eq-Decides word (decimal (digits_value 10 word))).1 (sym e ∙ ap decimal (sym value))) ((Decides-ltb (digits_value 10 word) (2 ^ 32)).1 (omega (arith, value, small))) value

is_no_decimal : (word : List ℕ) → ((n : ℕ) → n < 2 ^ 32 → decimal n ≡ word → ⊥) → number_of word ≡ None
is_no_decimal word none =
    neither (bytes_eq word (decimal (digits_value 10 word))) (nat_lt (digits_value 10 word) (2 ^ 32)) (digits_value 10 word)
    (λ first second. none (digits_value 10 word) ((Decides-ltb (digits_value 10 word) (2 ^ 32)).0 second) (sym ((bytes_eq-Decides word (decimal (digits_value 10 word))).0 first)))

-- a word that is not parsed is none
pub is_not_parsed : {E : Type 0} (word : List ℕ) (r : Result ℕ E) (e : E) → ParsesUnsigned 32 10 word r → r ≡ Err e → number_of word ≡ None
is_not_parsed word r e parses failed =
    is_no_decimal word (λ n small is. let parsed : r ≡ Ok n = parse-decimal 32 n word r small (omega arith) (sym is) parses in cc)

-- nor is one whose number is spelled otherwise
is_other_spelling : {E : Type 0} (word : List ℕ) (r : Result ℕ E) (n : ℕ) → ParsesUnsigned 32 10 word r → r ≡ Ok n → (decimal n ≡ word → ⊥) → number_of word ≡ None
is_other_spelling word r n parses read other =
    is_no_decimal word (λ m small is.
    let parsed : r ≡ Ok m = parse-decimal 32 m word r small (omega arith) (sym is) parses in
    let same : m ≡ n = cc in
    other (rw same at is))

small_if_parsed : {E : Type 0} (word : List ℕ) (r : Result ℕ E) (n : ℕ) → ParsesUnsigned 32 10 word r → r ≡ Ok n → n < 2 ^ 32
small_if_parsed word r n parses read = let ok = rw read at parses in omega (arith, ok.0.1, ok.1)

pub is_spelled : {E : Type 0} (word text : List ℕ) (r : Result ℕ E) (n : ℕ) → ParsesUnsigned 32 10 word r → r ≡ Ok n → text ≡ decimal n → true ≡ bytes_eq text word → number_of word ≡ Some n
is_spelled word text r n parses read spelled same = is_decimal word n (small_if_parsed word r n parses read) (sym spelled ∙ (bytes_eq-Decides text word).0 (sym same))

pub is_spelled_otherwise : {E : Type 0} (word text : List ℕ) (r : Result ℕ E) (n : ℕ) → ParsesUnsigned 32 10 word r → r ≡ Ok n → text ≡ decimal n → false ≡ bytes_eq text word → number_of word ≡ None
is_spelled_otherwise word text r n parses read spelled other =
    is_other_spelling word r n parses read (λ same. let one : true ≡ false = sym ((bytes_eq-Decides text word).1 (spelled ∙ same)) ∙ sym other in cc)

-- An escaped text is printed, and determines the text.
use Rattle.std.proofs.Common.{◌≡◌, ◌≢◌, ◌<◌, ℕ, ◌/◌, ◌%◌, true, false, inl, inr, List, [], ◌∷◌, ◌++◌, refl, sym, ap, ap₂, ◌∙◌, arith}
use Rattle.std.specs.Prelude.{All}
use Rattle.std.specs.List.{flat_map}
use Rattle.std.proofs.lemmas.Bool.{cases_Bool, cases_lt, lt-ltb, le-ltb}
use Rattle.std.proofs.lemmas.Bool.Decides.{nat_tests}
use Rattle.std.proofs.lemmas.List.Elements.{All-nil, All-cons, All-append}
use Rattle.spec_report.specs.Report.{hex_digit, is_escaped, escaped}
use Rattle.spec_report.specs.Laws.{EscapedIsPlain, EscapedIsOne}

-- a byte that is not printed as it is, and one that is

escaped_by : (byte : ℕ) → is_escaped byte ≡ true → escaped byte ≡ 92 ∷ hex_digit (byte / 16) ∷ hex_digit (byte % 16) ∷ []
escaped_by byte is = rw is refl

escaped_as : (byte : ℕ) → is_escaped byte ≡ false → escaped byte ≡ byte ∷ []
escaped_as byte is = rw is refl

-- ---- each byte of it is printed

abbrev IsPrinted : ℕ → Type 0
IsPrinted byte = (32 < byte) × (byte ≢ 127)

digit_printed : (n : ℕ) → n < 16 → IsPrinted (hex_digit n)
digit_printed n small = elim (cases_lt n 10) [
  | inl low ↦ (rw (lt-ltb n 10 low) (omega arith), λ e. let f = rw (lt-ltb n 10 low) at e in omega arith)
  | inr high ↦ (rw (le-ltb n 10 high) (omega arith), λ e. let f = rw (le-ltb n 10 high) at e in omega arith)
]

not_escaped : (byte : ℕ) → is_escaped byte ≡ false → (32 < byte) × (byte ≢ 127) × (byte ≢ 92)
not_escaped byte is = (grind (arith, nat_tests), λ e. grind (arith, nat_tests), λ e. grind (arith, nat_tests))

escaped_small : (byte : ℕ) → is_escaped byte ≡ true → byte < 128
escaped_small byte is = grind (arith, nat_tests)

byte_printed : (byte : ℕ) → All IsPrinted (escaped byte)
byte_printed byte = elim (cases_Bool (is_escaped byte)) [
  | inl is ↦
      let small : byte < 128 = escaped_small byte is in
      let backslash : IsPrinted 92 = (omega arith, λ e. omega (arith, e)) in
      rw (escaped_by byte is)
      (All-cons IsPrinted 92 (hex_digit (byte / 16) ∷ hex_digit (byte % 16) ∷ []) backslash (All-cons IsPrinted (hex_digit (byte / 16)) (hex_digit (byte % 16) ∷ []) (digit_printed (byte / 16) (omega (arith, small))) (All-cons IsPrinted (hex_digit (byte % 16)) [] (digit_printed (byte % 16) (omega arith)) (All-nil IsPrinted))))
  | inr is ↦ let n = not_escaped byte is in rw (escaped_as byte is) (All-cons IsPrinted byte [] (n.0, n.1) (All-nil IsPrinted))
]

pub escaped_plain : EscapedIsPlain
escaped_plain [] = All-nil IsPrinted
escaped_plain (x ∷ xs) = All-append IsPrinted (escaped x) (flat_map escaped xs) (byte_printed x) (escaped_plain xs)

-- ---- it determines the text

one_digit : (n m : ℕ) → hex_digit n ≡ hex_digit m → n ≡ m
one_digit n m e = grind (arith, nat_tests)

heads : (x y : ℕ) (xs ys : List ℕ) → x ∷ xs ≡ y ∷ ys → (x ≡ y) × (xs ≡ ys)
heads x y xs ys e = (cc, cc)

one_byte : (x y : ℕ) (xs ys : List ℕ) → escaped x ++ xs ≡ escaped y ++ ys → (x ≡ y) × (xs ≡ ys)
one_byte x y xs ys e = elim (cases_Bool (is_escaped x)) [
  | inl p ↦ elim (cases_Bool (is_escaped y)) [
    | inl q ↦
        let f : 92 ∷ hex_digit (x / 16) ∷ hex_digit (x % 16) ∷ xs ≡ 92 ∷ hex_digit (y / 16) ∷ hex_digit (y % 16) ∷ ys =
        ap (λ (b : List ℕ). b ++ xs) (sym (escaped_by x p)) ∙ e ∙ ap (λ (b : List ℕ). b ++ ys) (escaped_by y q) in
        let high = heads _ _ _ _ (heads 92 92 _ _ f).1 in
        let low = heads _ _ _ _ high.1 in
        (omega (arith, one_digit (x / 16) (y / 16) high.0, one_digit (x % 16) (y % 16) low.0), low.1)
    | inr q ↦
        let f : 92 ∷ hex_digit (x / 16) ∷ hex_digit (x % 16) ∷ xs ≡ y ∷ ys = ap (λ (b : List ℕ). b ++ xs) (sym (escaped_by x p)) ∙ e ∙ ap (λ (b : List ℕ). b ++ ys) (escaped_as y q) in
        absurd ((not_escaped y q).2 (sym (heads _ _ _ _ f).0))
  ]
  | inr p ↦ elim (cases_Bool (is_escaped y)) [
    | inl q ↦
        let f : x ∷ xs ≡ 92 ∷ hex_digit (y / 16) ∷ hex_digit (y % 16) ∷ ys = ap (λ (b : List ℕ). b ++ xs) (sym (escaped_as x p)) ∙ e ∙ ap (λ (b : List ℕ). b ++ ys) (escaped_by y q) in
        absurd ((not_escaped x p).2 (heads _ _ _ _ f).0)
    | inr q ↦
        let f : x ∷ xs ≡ y ∷ ys = ap (λ (b : List ℕ). b ++ xs) (sym (escaped_as x p)) ∙ e ∙ ap (λ (b : List ℕ). b ++ ys) (escaped_as y q) in
        heads x y xs ys f
  ]
]

empty_or : (y : ℕ) (ys : List ℕ) → [] ≡ escaped y ++ ys → ⊥
empty_or y ys e = elim (cases_Bool (is_escaped y)) [
  | inl q ↦ let f : [] ≡ 92 ∷ hex_digit (y / 16) ∷ hex_digit (y % 16) ∷ ys = e ∙ ap (λ (b : List ℕ). b ++ ys) (escaped_by y q) in cc
  | inr q ↦ let f : [] ≡ y ∷ ys = e ∙ ap (λ (b : List ℕ). b ++ ys) (escaped_as y q) in cc
]

pub escaped_one : EscapedIsOne
escaped_one [] [] e = refl
escaped_one [] (y ∷ ys) e = absurd (empty_or y (flat_map escaped ys) e)
escaped_one (x ∷ xs) [] e = absurd (empty_or x (flat_map escaped xs) (sym e))
escaped_one (x ∷ xs) (y ∷ ys) e =
    let same = one_byte x y (flat_map escaped xs) (flat_map escaped ys) e in
    ap₂ (λ (z : ℕ) (zs : List ℕ). z ∷ zs) same.0 (escaped_one xs ys same.1)

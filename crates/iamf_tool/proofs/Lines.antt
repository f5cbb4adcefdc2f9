-- The line of an OBU, put together from its parts.
use Rattle.std.proofs.Common.{◌≡◌, ℕ, List, [], ◌∷◌, ◌++◌, refl, ap, ◌∙◌, append_assoc, Option, Some, None}
use Rattle.std.specs.Prelude.{is_some}
use Rattle.std.specs.Option.{option_copied}
use Rattle.std.specs.Borrow.{Bor}
use Rattle.std.specs.Fmt.{decimal}
use Rattle.spec_obu.specs.Header.{Head}
use Rattle.spec_obu.specs.Listing.{line, mark}

regrouped : (old at kind len space r t x end : List ℕ)
    → (((old ++ (at ++ space)) ++ (kind ++ space)) ++ (len ++ space)) ++ (r ++ (t ++ (x ++ end))) ≡ old ++ (at ++ (space ++ kind) ++ (space ++ len) ++ (space ++ r) ++ t ++ x ++ end)
regrouped old at kind len space r t x end = simp append_assoc

assembled : (old at kind len : List ℕ) (redundant trimmed extended : ℕ)
    → (((old ++ (at ++ 32 ∷ [])) ++ (kind ++ 32 ∷ [])) ++ (len ++ 32 ∷ [])) ++ redundant ∷ trimmed ∷ extended ∷ 10 ∷ []
    ≡ old ++ (at ++ 32 ∷ kind ++ 32 ∷ len ++ 32 ∷ redundant ∷ [] ++ trimmed ∷ [] ++ extended ∷ [] ++ 10 ∷ [])
assembled old at kind len redundant trimmed extended = regrouped old at kind len (32 ∷ []) (redundant ∷ []) (trimmed ∷ []) (extended ∷ []) (10 ∷ [])

with_marks : (front : List ℕ) (r t x r' t' x' : List ℕ) → r ≡ r' → t ≡ t' → x ≡ x' → front ++ (32 ∷ r) ++ t ++ x ++ 10 ∷ [] ≡ front ++ (32 ∷ r') ++ t' ++ x' ++ 10 ∷ []
with_marks front r t x r' t' x' a b c = rw (a, b, c) refl

pub line_is : (old one two three all : List ℕ) (at len redundant trimmed extended : ℕ) (h : Head)
    → one ≡ old ++ (decimal at ++ 32 ∷ []) → two ≡ one ++ (decimal h.kind ++ 32 ∷ []) → three ≡ two ++ (decimal len ++ 32 ∷ [])
    → redundant ∷ [] ≡ mark 114 h.redundant → trimmed ∷ [] ≡ mark 116 (is_some h.trim) → extended ∷ [] ≡ mark 120 (is_some h.extension)
    → all ≡ three ++ redundant ∷ trimmed ∷ extended ∷ 10 ∷ [] → all ≡ old ++ line at h len
line_is old one two three all at len redundant trimmed extended h first second third r t x last =
    let parts : all ≡ (((old ++ (decimal at ++ 32 ∷ [])) ++ (decimal h.kind ++ 32 ∷ [])) ++ (decimal len ++ 32 ∷ [])) ++ redundant ∷ trimmed ∷ extended ∷ 10 ∷ [] = rw (last, third, second, first) refl in
    parts ∙ assembled old (decimal at) (decimal h.kind) (decimal len) redundant trimmed extended
    ∙ ap (λ (xs : List ℕ). old ++ xs) (with_marks (decimal at ++ 32 ∷ decimal h.kind ++ 32 ∷ decimal len) (redundant ∷ []) (trimmed ∷ []) (extended ∷ []) (mark 114 h.redundant) (mark 116 (is_some h.trim)) (mark 120 (is_some h.extension)) r t x)

pub is_some-copied : (x : Option (Bor (List ℕ))) → is_some x ≡ is_some (option_copied x)
is_some-copied None = refl
is_some-copied (Some x) = refl

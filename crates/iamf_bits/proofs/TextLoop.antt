-- Looking for the zero byte that ends a text, byte by byte, as a loop does.
use Rattle.std.proofs.Common.{◌≡◌, ℕ, suc, ◌+◌, ◌<◌, ◌≤◌, inl, inr, List, [], ◌∷◌, ◌++◌, length, get_or, take, drop, Ok, Err, IsUtf8, refl, sym, ap, subst, ◌∙◌, arith, drop-cons, append_assoc, length-append}
use Rattle.std.proofs.lemmas.List.{take_all, take_more, take-append-drop, length-take-le}
use Rattle.spec_bits.specs.declared.FieldFault.TheVariants.{Short, Text}
use Rattle.spec_bits.specs.Text.{IsText, HasNoZero}
use Rattle.spec_bits.specs.ByteReading.{text_at}
use Rattle.spec_bits.proofs.TextLaws.{text_again, text_fails_only}

-- what the loop keeps: no zero byte so far
pub record IsSearched (bytes : List ℕ) (i : ℕ) : Type 0 where
  pub within : i ≤ length bytes
  pub no_zero : HasNoZero (take i bytes)

pub search_starts : (bytes : List ℕ) → IsSearched bytes 0
search_starts bytes = record { within = omega arith; no_zero = tt }

HasNoZero-push : (xs : List ℕ) (x : ℕ) → HasNoZero xs → (x ≡ 0 → ⊥) → HasNoZero (xs ++ x ∷ [])
HasNoZero-push [] x none not = (not, tt)
HasNoZero-push (y ∷ ys) x none not = (none.0, HasNoZero-push ys x none.1 not)

pub search_goes_on : (bytes : List ℕ) (i : ℕ) → i < length bytes → (get_or bytes i 0 ≡ 0 → ⊥) → IsSearched bytes i → IsSearched bytes (i + 1)
search_goes_on bytes i here not s = record {
  within = omega arith;
  no_zero = rw (take_more bytes i 0 here) (HasNoZero-push (take i bytes) (get_or bytes i 0) s.no_zero not);
}

pub search_runs_out : (bytes : List ℕ) (i : ℕ) → i < 128 → length bytes ≤ i → IsSearched bytes i → text_at bytes ≡ Err Short
search_runs_out bytes i few past s = text_fails_only bytes Short (omega arith, subst HasNoZero (take_all i bytes past) s.no_zero)

pub search_is_long : (bytes : List ℕ) (i : ℕ) → i ≡ 128 → IsSearched bytes i → text_at bytes ≡ Err Text
search_is_long bytes i many s = text_fails_only bytes Text (inl (omega (arith, s.within), subst (λ (n : ℕ). HasNoZero (take n bytes)) many s.no_zero))

-- the bytes, with the zero byte by itself
parts : (bytes : List ℕ) (i : ℕ) → i < length bytes → get_or bytes i 0 ≡ 0 → bytes ≡ take i bytes ++ 0 ∷ drop (i + 1) bytes
parts bytes i here is =
    let n : i + 1 ≡ suc i = omega arith in
    sym (take-append-drop i bytes) ∙ ap (λ (ys : List ℕ). take i bytes ++ ys) (drop-cons bytes i 0 here ∙ ap (λ (x : ℕ). x ∷ drop (suc i) bytes) is ∙ ap (λ (k : ℕ). 0 ∷ drop k bytes) (sym n))

pub search_finds : (bytes : List ℕ) (i : ℕ) → i < 128 → i < length bytes → get_or bytes i 0 ≡ 0 → IsUtf8 (take i bytes) → IsSearched bytes i → text_at bytes ≡ Ok (take i bytes, drop (i + 1) bytes)
search_finds bytes i few here is utf8 s =
    let len : length (take i bytes) ≡ i = length-take-le i bytes s.within in
    let text : IsText (take i bytes) (take i bytes ++ 0 ∷ []) = record { bytes = refl; utf8 = utf8; no_zero = s.no_zero; short = omega (arith, length-append (take i bytes) (0 ∷ []), len) } in
    ap text_at (parts bytes i here is ∙ sym (append_assoc (take i bytes) (0 ∷ []) (drop (i + 1) bytes))) ∙ text_again (take i bytes ++ 0 ∷ []) (drop (i + 1) bytes) (take i bytes) text

pub search_is_no_text : (bytes : List ℕ) (i : ℕ) → i < 128 → i < length bytes → get_or bytes i 0 ≡ 0 → (IsUtf8 (take i bytes) → ⊥) → IsSearched bytes i → text_at bytes ≡ Err Text
search_is_no_text bytes i few here is not s =
    let len : length (take i bytes) ≡ i = length-take-le i bytes s.within in
    text_fails_only bytes Text (inr (take i bytes, drop (i + 1) bytes, parts bytes i here is, s.no_zero, omega arith, not))

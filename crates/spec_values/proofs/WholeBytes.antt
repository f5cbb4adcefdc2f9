-- Syntaxes whose fields, whatever they are, fill whole bytes.
use Rattle.std.proofs.Common.{◌≡◌, ℕ, zero, suc, ◌+◌, ◌*◌, ◌%◌, true, false, List, [], ◌∷◌, ◌++◌, length, refl, ap, arith, length-append}
use Rattle.spec_bits.specs.Bits.{Bits, zeros}
use Rattle.spec_bits.specs.Form.{Form, Value, Number, Signed, Leb128, String, Bytes, Unary, Reserved, Blocks, Spells}
use Rattle.spec_bits.proofs.BitsLaws.{length-all_bits, length-zeros}
use Rattle.spec_syntax.specs.Syntax.{Syntax, End, Choice, Check, Seen, Field, ◌>>=◌, each}
use Rattle.spec_syntax.specs.Payload.{FieldValue, Stands}

-- the place after a field that begins at a place, where a field of bytes counts for none
abbrev pub place_after : ℕ → (form : Form) → Value form → ℕ
place_after k (Number n) v = k + n
place_after k (Signed n) v = k + n
place_after k Leb128 v = k
place_after k String v = k
place_after k (Bytes n) v = k
place_after k Unary v = k + suc v
place_after k (Reserved n) v = k + n
place_after k Blocks v = k

-- after so many bits the fields of the syntax end where a byte does
abbrev pub FillsBytes : {F A : Type 0} → ℕ → Syntax F A → Type 0
FillsBytes k (End a) = k % 8 ≡ 0
FillsBytes k (Choice b s t) = FillsBytes k s × FillsBytes k t
FillsBytes k (Check b f s) = FillsBytes k s
FillsBytes k (Seen next) = (bits : Bits) → FillsBytes k (next bits)
FillsBytes k (Field form tests next) = (v : Value form) → FillsBytes (place_after k form v) (next v)

-- ---- what is spelled

spelled_place : (k : ℕ) (form : Form) (v : Value form) (bits : Bits) → Spells form v bits → (n : ℕ) × (k + length bits ≡ place_after k form v + 8 * n)
spelled_place k (Number m) v bits h = (0, omega (arith, h.0))
spelled_place k (Signed m) v bits h = (0, omega (arith, h.0))
spelled_place k Leb128 v bits h = (length h.0, omega (arith, ap length h.2, length-all_bits h.0))
spelled_place k String v bits h = (length h.0, omega (arith, ap length h.2, length-all_bits h.0))
spelled_place k (Bytes m) v bits h = (length v, omega (arith, ap length h.2, length-all_bits v))
spelled_place k Unary v bits h = (0, omega (arith, ap length h, length-append (zeros v) (true ∷ []), length-zeros v))
spelled_place k (Reserved m) v bits h = (0, omega (arith, h))
spelled_place k Blocks v bits h = (length v, omega (arith, ap length h.2, length-all_bits v))

pub fills_spelling : {F A : Type 0} (k : ℕ) (s : Syntax F A) (seen : Bits) (xs : List FieldValue) (r : A) (bits : Bits) → FillsBytes k s → Stands s seen xs r bits → (k + length bits) % 8 ≡ 0
fills_spelling k (End a) seen [] r bits fills h = omega (arith, fills, ap length h.1)
fills_spelling k (End a) seen (x ∷ xs) r bits fills h = absurd h
fills_spelling k (Choice true s t) seen xs r bits fills h = fills_spelling k s seen xs r bits fills.0 h
fills_spelling k (Choice false s t) seen xs r bits fills h = fills_spelling k t seen xs r bits fills.1 h
fills_spelling k (Check b f s) seen xs r bits fills h = fills_spelling k s seen xs r bits fills h.1
fills_spelling k (Seen next) seen xs r bits fills h = fills_spelling k (next seen) seen xs r bits (fills seen) h
fills_spelling k (Field form tests next) seen [] r bits fills h = absurd h
fills_spelling k (Field form tests next) seen (x ∷ xs) r bits fills h =
    let first = spelled_place k form h.0 h.1 h.5 in
    let others = fills_spelling (place_after k form h.0) (next h.0) (seen ++ h.1) xs r h.2 (fills h.0) h.7 in
    omega (arith, ap length h.4, length-append h.1 h.2, first.1, others)

-- ---- one part after another

place_at : (j k : ℕ) (form : Form) (v : Value form) → j % 8 ≡ k % 8 → place_after j form v % 8 ≡ place_after k form v % 8
place_at j k (Number n) v e = omega (arith, e)
place_at j k (Signed n) v e = omega (arith, e)
place_at j k Leb128 v e = e
place_at j k String v e = e
place_at j k (Bytes n) v e = e
place_at j k Unary v e = omega (arith, e)
place_at j k (Reserved n) v e = omega (arith, e)
place_at j k Blocks v e = e

-- only the place within a byte counts
pub fills_at : {F A : Type 0} (j k : ℕ) (s : Syntax F A) → j % 8 ≡ k % 8 → FillsBytes j s → FillsBytes k s
fills_at j k (End a) e h = omega (arith, e, h)
fills_at j k (Choice b s t) e h = (fills_at j k s e h.0, fills_at j k t e h.1)
fills_at j k (Check b f s) e h = fills_at j k s e h
fills_at j k (Seen next) e h = λ bits. fills_at j k (next bits) e (h bits)
fills_at j k (Field form tests next) e h = λ v. fills_at (place_after j form v) (place_after k form v) (next v) (place_at j k form v e) (h v)

bind_at : {F A B : Type 0} (k : ℕ) (s : Syntax F A) (g : A → Syntax F B) → FillsBytes k s → ((a : A) → FillsBytes 0 (g a)) → FillsBytes k (s >>= g)
bind_at k (End a) g h after = fills_at 0 k (g a) (omega (arith, h)) (after a)
bind_at k (Choice b s t) g h after = (bind_at k s g h.0 after, bind_at k t g h.1 after)
bind_at k (Check b f s) g h after = bind_at k s g h after
bind_at k (Seen next) g h after = λ bits. bind_at k (next bits) g (h bits) after
bind_at k (Field form tests next) g h after = λ v. bind_at (place_after k form v) (next v) g (h v) after

-- a part that fills bytes, and then another
pub fills_bind : {F A B : Type 0} (k : ℕ) (s : Syntax F A) (g : A → Syntax F B) → 0 ≡ k % 8 → FillsBytes 0 s → ((a : A) → FillsBytes 0 (g a)) → FillsBytes k (s >>= g)
fills_bind k s g e h after = bind_at k s g (fills_at 0 k s (omega (arith, e)) h) after

pub fills_each : {F A : Type 0} (part : ℕ → List A → Syntax F A) → ((m : ℕ) (before : List A) → FillsBytes 0 (part m before)) → (n : ℕ) (before : List A) → FillsBytes 0 (each n part before)
unfolding each
fills_each part fills zero before = refl
fills_each part fills (suc n) before = fills_bind 0 (part n before) (λ x. each n part (before ++ x ∷ [])) refl (fills n before) (λ x. fills_each part fills n (before ++ x ∷ []))

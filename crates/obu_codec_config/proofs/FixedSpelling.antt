-- Numbers, bytes and metadata blocks have one spelling each, so a syntax of these has one for each list of fields.
use Rattle.std.proofs.Common.{◌≡◌, ℕ, true, false, List, [], ◌∷◌, ◌++◌, sym, ap, ◌∙◌}
use Rattle.spec_bits.specs.Bits.{Bits, bits_of, number_of}
use Rattle.spec_bits.specs.Form.{Form, Value, Spells, Number, Signed, Leb128, String, Bytes, Unary, Reserved, Blocks, canonical}
use Rattle.spec_bits.proofs.BitsLaws.{bits_of-number_of}
use Rattle.spec_syntax.specs.Syntax.{Syntax, End, Choice, Check, Seen, Field, ◌>>=◌}
use Rattle.spec_syntax.specs.Payload.{FieldValue, Stands, canon}

abbrev pub HasOneSpelling : Form → Type 0
HasOneSpelling (Number k) = Unit {0}
HasOneSpelling (Bytes n) = Unit {0}
HasOneSpelling Blocks = Unit {0}
HasOneSpelling form = ⊥

abbrev pub IsFixed : {F A : Type 0} → Syntax F A → Type 0
IsFixed (End a) = Unit {0}
IsFixed (Choice b s t) = IsFixed s × IsFixed t
IsFixed (Check b f s) = IsFixed s
IsFixed (Seen next) = ⊥
IsFixed (Field form tests next) = HasOneSpelling form × ((v : Value form) → IsFixed (next v))

field_spelling : (form : Form) (v : Value form) (bits : Bits) → HasOneSpelling form → Spells form v bits → bits ≡ canonical form v
unfolding canonical
field_spelling (Number k) v bits one h = sym (bits_of-number_of bits) ∙ ap (λ (n : ℕ). bits_of n (number_of bits)) h.0 ∙ ap (bits_of k) h.1
field_spelling (Bytes n) v bits one h = h.2
field_spelling Blocks v bits one h = h.2
field_spelling (Signed k) v bits one h = absurd one
field_spelling Leb128 v bits one h = absurd one
field_spelling String v bits one h = absurd one
field_spelling Unary v bits one h = absurd one
field_spelling (Reserved k) v bits one h = absurd one

pub fixed_spelling : {F A : Type 0} (s : Syntax F A) (seen : Bits) (xs : List FieldValue) (r : A) (bits : Bits) → IsFixed s → Stands s seen xs r bits → bits ≡ canon xs
fixed_spelling (End a) seen [] r bits fixed h = h.1
fixed_spelling (End a) seen (x ∷ xs) r bits fixed h = absurd h
fixed_spelling (Choice true s t) seen xs r bits fixed h = fixed_spelling s seen xs r bits fixed.0 h
fixed_spelling (Choice false s t) seen xs r bits fixed h = fixed_spelling t seen xs r bits fixed.1 h
fixed_spelling (Check b f s) seen xs r bits fixed h = fixed_spelling s seen xs r bits fixed h.1
fixed_spelling (Seen next) seen xs r bits fixed h = absurd fixed
fixed_spelling (Field form tests next) seen [] r bits fixed h = absurd h
fixed_spelling (Field form tests next) seen (x ∷ xs) r bits fixed h =
    h.4 ∙ ap (λ (z : Bits). z ++ h.2) (field_spelling form h.0 h.1 fixed.0 h.5) ∙ ap (λ (z : Bits). canonical form h.0 ++ z) (fixed_spelling (next h.0) (seen ++ h.1) xs r h.2 (fixed.1 h.0) h.7)
    ∙ ap (λ (y : FieldValue). canonical y.form y.value ++ canon xs) (sym h.3)

pub fixed_bind : {F A B : Type 0} (s : Syntax F A) (g : A → Syntax F B) → IsFixed s → ((a : A) → IsFixed (g a)) → IsFixed (s >>= g)
fixed_bind (End a) g fixed after = after a
fixed_bind (Choice b s t) g fixed after = (fixed_bind s g fixed.0 after, fixed_bind t g fixed.1 after)
fixed_bind (Check b f s) g fixed after = fixed_bind s g fixed after
fixed_bind (Seen next) g fixed after = absurd fixed
fixed_bind (Field form tests next) g fixed after = (fixed.0, λ v. fixed_bind (next v) g (fixed.1 v) after)

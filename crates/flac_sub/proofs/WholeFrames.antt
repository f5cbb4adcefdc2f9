-- Frames, read one part after the other.
use Rattle.std.proofs.Common.{◌≡◌, ℕ, ◌<◌, ℤ, List, [], ◌∷◌, length, true, false, eqb, Result, Ok, Err, refl, sym, subst, ◌∙◌, arith, inl, inr}
use Rattle.std.proofs.lemmas.Bool.{eq-eqb, ne_eqb}
use Rattle.std.specs.Prelude.{OnOk, IfErr}
use Rattle.spec_bits.specs.Bits.{Bits, all_bits}
use Rattle.spec_bits.specs.Cursor.{Cursor, bits_left}
use Rattle.spec_syntax.specs.Syntax.{Syntax, End, ◌>>=◌}
use Rattle.spec_syntax.specs.Reading.{read, start_of, Answers}
use Rattle.spec_syntax.proofs.Reading.{bind_ok, bind_err}
use Rattle.spec_syntax.specs.Payload.{Payload}
use Rattle.spec_syntax.proofs.SyntaxLaws.{reads_exactly}
use Rattle.spec_flac.specs.declared.fault.FlacFault.{FlacFault}
use Rattle.spec_flac.specs.declared.fault.FlacFault.TheVariants as fault
use Rattle.spec_flac.specs.declared.shape.FlacShape.{FlacShape}
use Rattle.spec_flac.specs.Faults.{short}
use Rattle.spec_flac.specs.Header.{header}
use Rattle.spec_flac.specs.Frame.{frame, channels, one_channel, two_channels, frame_end, padding, footer, IsFrame, HasTail, IsFault, IsDecoded}

-- ---- the end

pub end_ok : (c d : Cursor) → read short padding c ≡ Ok (tt, d) → read short frame_end c ≡ read short footer d
unfolding frame_end
end_ok c d e = bind_ok short padding (λ _. footer) c d tt e

pub end_err : (c : Cursor) (f : FlacFault) → read short padding c ≡ Err f → read short frame_end c ≡ Err f
unfolding frame_end
end_err c f e = bind_err short padding (λ _. footer) c f e

-- ---- the frame

abbrev after_rows : List (List ℤ) → Syntax FlacFault (List (List ℤ))
after_rows rows = frame_end >>= λ _. End rows

pub no_header : (shape : FlacShape) (c : Cursor) (f : FlacFault) → read short (header shape) c ≡ Err f → read short (frame shape) c ≡ Err f
unfolding frame
no_header shape c f e = bind_err short (header shape) (λ code. channels shape code >>= after_rows) c f e

headed : (shape : FlacShape) (code : ℕ) (c d : Cursor) → read short (header shape) c ≡ Ok (code, d) → read short (frame shape) c ≡ read short (channels shape code >>= after_rows) d
unfolding frame
headed shape code c d e = bind_ok short (header shape) (λ k. channels shape k >>= after_rows) c d code e

no_rows : (shape : FlacShape) (code : ℕ) (c d : Cursor) (f : FlacFault) → read short (header shape) c ≡ Ok (code, d) → read short (channels shape code) d ≡ Err f → read short (frame shape) c ≡ Err f
no_rows shape code c d f e g = headed shape code c d e ∙ bind_err short (channels shape code) after_rows d f g

ended : (rows : List (List ℤ)) (c d : Cursor) (result : Result (Unit {0}) FlacFault) → Answers (λ _. (tt, d)) result (read short frame_end c) → Answers (λ _. (rows, d)) result (read short (after_rows rows) c)
ended rows c d (Ok u) e = bind_ok short frame_end (λ _. End rows) c d tt e
ended rows c d (Err f) e = bind_err short frame_end (λ _. End rows) c f e

rowed : (shape : FlacShape) (code : ℕ) (rows : List (List ℤ)) (c d e h : Cursor) (result : Result (Unit {0}) FlacFault) → read short (header shape) c ≡ Ok (code, d) → read short (channels shape code) d ≡ Ok (rows, e) → Answers (λ _. (tt, h)) result (read short frame_end e)
    → Answers (λ _. (rows, h)) result (read short (frame shape) c)
rowed shape code rows c d e h result one two three =
    let same : read short (frame shape) c ≡ read short (after_rows rows) e = headed shape code c d one ∙ bind_ok short (channels shape code) after_rows d e rows two in
    subst (Answers (λ _. (rows, h)) result) (sym same) (ended rows e h result three)

one_is : (shape : FlacShape) (code : ℕ) (c : Cursor) → shape.channels ≡ 1 → read short (channels shape code) c ≡ read short (one_channel shape) c
unfolding channels
one_is shape code c is = let t : eqb shape.channels 1 ≡ true = eq-eqb _ _ is in rw t refl

two_is : (shape : FlacShape) (code : ℕ) (c : Cursor) → shape.channels ≡ 2 → read short (channels shape code) c ≡ read short (two_channels shape code) c
unfolding channels
two_is shape code c is = let t : eqb shape.channels 1 ≡ false = ne_eqb _ _ (λ same. absurd (omega (arith, is, same))) in rw t refl

pub one_no_rows : (shape : FlacShape) (code : ℕ) (c d : Cursor) (f : FlacFault) → shape.channels ≡ 1 → read short (header shape) c ≡ Ok (code, d) → read short (one_channel shape) d ≡ Err f → read short (frame shape) c ≡ Err f
one_no_rows shape code c d f is e g = no_rows shape code c d f e (one_is shape code d is ∙ g)

pub two_no_rows : (shape : FlacShape) (code : ℕ) (c d : Cursor) (f : FlacFault) → shape.channels ≡ 2 → read short (header shape) c ≡ Ok (code, d) → read short (two_channels shape code) d ≡ Err f → read short (frame shape) c ≡ Err f
two_no_rows shape code c d f is e g = no_rows shape code c d f e (two_is shape code d is ∙ g)

pub one_whole : (shape : FlacShape) (code : ℕ) (rows : List (List ℤ)) (c d e h : Cursor) (result : Result (Unit {0}) FlacFault) → shape.channels ≡ 1 → read short (header shape) c ≡ Ok (code, d) → read short (one_channel shape) d ≡ Ok (rows, e)
    → Answers (λ _. (tt, h)) result (read short frame_end e) → Answers (λ _. (rows, h)) result (read short (frame shape) c)
one_whole shape code rows c d e h result is one two three = rowed shape code rows c d e h result one (one_is shape code d is ∙ two) three

pub two_whole : (shape : FlacShape) (code : ℕ) (rows : List (List ℤ)) (c d e h : Cursor) (result : Result (Unit {0}) FlacFault) → shape.channels ≡ 2 → read short (header shape) c ≡ Ok (code, d) → read short (two_channels shape code) d ≡ Ok (rows, e)
    → Answers (λ _. (tt, h)) result (read short frame_end e) → Answers (λ _. (rows, h)) result (read short (frame shape) c)
two_whole shape code rows c d e h result is one two three = rowed shape code rows c d e h result one (two_is shape code d is ∙ two) three

-- ---- the frame and no more

pub some_bits : (bits : Bits) → (bits ≡ [] → ⊥) → 0 < length bits
some_bits [] some = absurd (some refl)
some_bits (b ∷ bits) some = omega arith

pub is_frame : (shape : FlacShape) (bytes : List ℕ) (rows : List (List ℤ)) (c : Cursor) → read short (frame shape) (start_of bytes) ≡ Ok (rows, c) → bits_left c ≡ [] → IsFrame shape bytes rows
is_frame shape bytes rows c e none =
    let t = (reads_exactly short (frame shape)).reads bytes rows c e in
    record { fields = t.0; payload = subst (λ (z : Bits). Payload (frame shape) t.0 rows z (all_bits bytes)) none t.1 }

pub has_tail : (shape : FlacShape) (bytes : List ℕ) (rows : List (List ℤ)) (c : Cursor) → read short (frame shape) (start_of bytes) ≡ Ok (rows, c) → 0 < length (bits_left c) → HasTail shape bytes
has_tail shape bytes rows c e some =
    let t = (reads_exactly short (frame shape)).reads bytes rows c e in
    record { fields = t.0; rows = rows; tail = bits_left c; more = some; payload = t.1 }

pub is_fault : (shape : FlacShape) (bytes : List ℕ) (f : FlacFault) → read short (frame shape) (start_of bytes) ≡ Err f → IsFault shape bytes f
is_fault shape bytes f e = inl ((reads_exactly short (frame shape)).fails bytes f e)

pub decoded : (shape : FlacShape) (bytes : List ℕ) (rows : List (List ℤ)) (c : Cursor) (result : Result (Unit {0}) FlacFault) → read short (frame shape) (start_of bytes) ≡ Ok (rows, c)
    → OnOk result (bits_left c ≡ []) → IfErr result (λ f. (f ≡ fault.Tail) × (0 < length (bits_left c))) → IsDecoded result shape bytes rows
decoded shape bytes rows c (Ok u) e none some = is_frame shape bytes rows c e none
decoded shape bytes rows c (Err f) e none some = inr (some.0, has_tail shape bytes rows c e some.1)

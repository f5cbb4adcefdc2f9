-- The fault that reading finds is the first fault of the bytes.
use Rattle.std.proofs.Common.{◌≡◌, ◌↔◌, ℕ, ◌<◌, inl, inr, ℤ, List, [], ◌∷◌, length, Option, Some, None, Result, Ok, Err, refl, sym, ap, subst, ◌∙◌, arith}
use Rattle.std.proofs.lemmas.Option.{same_Some}
use Rattle.spec_bits.specs.Bits.{Bits, all_bits}
use Rattle.spec_bits.specs.Cursor.{Cursor, bits_left}
use Rattle.spec_syntax.specs.Payload.{FieldValue, Payload}
use Rattle.spec_syntax.specs.Reading.{read, start_of}
use Rattle.spec_syntax.proofs.SyntaxLaws.{reads_exactly}
use Rattle.spec_flac.specs.declared.fault.FlacFault.{FlacFault}
use Rattle.spec_flac.specs.declared.fault.FlacFault.TheVariants as fault
use Rattle.spec_flac.specs.declared.shape.FlacShape.{FlacShape}
use Rattle.spec_flac.specs.Faults.{short}
use Rattle.spec_flac.specs.Frame.{frame, IsFrame, HasTail, IsFault}
use Rattle.spec_flac.specs.FirstFault.{tail_fault, outcome_fault, first_fault}

abbrev Outcome : Type 0
Outcome = Result (List (List ℤ) × Cursor) FlacFault

abbrev outcome : FlacShape → List ℕ → Outcome
outcome shape bytes = read short (frame shape) (start_of bytes)

-- what bits after a frame are
tail_is : (shape : FlacShape) (bytes : List ℕ) (fields : List FieldValue) (rows : List (List ℤ)) (tail : Bits) (f : FlacFault) → Payload (frame shape) fields rows tail (all_bits bytes) → tail_fault tail ≡ Some f → IsFault shape bytes f
tail_is shape bytes fields rows [] f p e = absurd cc
tail_is shape bytes fields rows (b ∷ tail) f p e = inr (sym (same_Some fault.Tail f e), record { fields = fields; rows = rows; tail = b ∷ tail; more = omega arith; payload = p })

found_at : (shape : FlacShape) (bytes : List ℕ) (r : Outcome) (f : FlacFault) → outcome shape bytes ≡ r → outcome_fault r ≡ Some f → IsFault shape bytes f
found_at shape bytes (Err g) f e is = inl ((reads_exactly short (frame shape)).fails bytes f (e ∙ ap (λ (x : FlacFault). Err x) (same_Some g f is)))
found_at shape bytes (Ok r) f e is =
    let p = (reads_exactly short (frame shape)).reads bytes r.0 r.1 e in
    tail_is shape bytes p.0 r.0 (bits_left r.1) f p.1 is

some_tail : (tail : Bits) → 0 < length tail → tail_fault tail ≡ Some fault.Tail
some_tail [] more = absurd (omega (arith, more))
some_tail (b ∷ tail) more = refl

pub fault_found : (shape : FlacShape) (bytes : List ℕ) (f : FlacFault) → (first_fault shape bytes ≡ Some f) ↔ IsFault shape bytes f
unfolding first_fault
fault_found shape bytes f = (found_at shape bytes (outcome shape bytes) f refl, back) where
  back : IsFault shape bytes f → first_fault shape bytes ≡ Some f
  back (inl has) = ap outcome_fault ((reads_exactly short (frame shape)).only bytes f has)
  back (inr t) =
      let h : HasTail shape bytes = t.1 in
      let again = (reads_exactly short (frame shape)).again bytes h.fields h.rows h.tail h.payload in
      ap outcome_fault again.1 ∙ some_tail (bits_left again.0) (subst (λ (tail : Bits). 0 < length tail) (sym again.2) h.more) ∙ ap (λ (x : FlacFault). Some x) (sym t.0)

no_tail : (shape : FlacShape) (bytes : List ℕ) (fields : List FieldValue) (rows : List (List ℤ)) (tail : Bits) → Payload (frame shape) fields rows tail (all_bits bytes) → tail_fault tail ≡ None → (rows : List (List ℤ)) × IsFrame shape bytes rows
no_tail shape bytes fields rows [] p e = (rows, record { fields = fields; payload = p })
no_tail shape bytes fields rows (b ∷ tail) p e = absurd cc

none_at : (shape : FlacShape) (bytes : List ℕ) (r : Outcome) → outcome shape bytes ≡ r → outcome_fault r ≡ None → (rows : List (List ℤ)) × IsFrame shape bytes rows
none_at shape bytes (Err g) e is = absurd cc
none_at shape bytes (Ok r) e is =
    let p = (reads_exactly short (frame shape)).reads bytes r.0 r.1 e in
    no_tail shape bytes p.0 r.0 (bits_left r.1) p.1 is

pub none_found : (shape : FlacShape) (bytes : List ℕ) → (first_fault shape bytes ≡ None) ↔ ((rows : List (List ℤ)) × IsFrame shape bytes rows)
unfolding first_fault
none_found shape bytes = (none_at shape bytes (outcome shape bytes) refl, back) where
  back : ((rows : List (List ℤ)) × IsFrame shape bytes rows) → first_fault shape bytes ≡ None
  back is =
      let again = (reads_exactly short (frame shape)).again bytes is.1.fields is.0 [] is.1.payload in
      ap outcome_fault again.1 ∙ ap tail_fault again.2

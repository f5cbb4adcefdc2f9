-- What reading a field at a place says in the words of spellings.
use Rattle.std.proofs.Common.{◌≡◌, ℕ, inl, inr, ◌++◌, length, drop, Result, Ok, Err, refl, sym, ap, subst, ◌∙◌}
use Rattle.std.proofs.lemmas.List.{drop_at, drop-drop}
use Rattle.spec_bits.specs.declared.FieldFault.{FieldFault}
use Rattle.spec_bits.specs.Bits.{Bits, all_bits}
use Rattle.spec_bits.specs.Form.{Form, Value}
use Rattle.spec_bits.specs.Fault.{FormFault}
use Rattle.spec_bits.specs.Cursor.{Cursor, bits_left, moved, field_front, field_at}
use Rattle.spec_bits.proofs.Outcomes.{ok_is, bind_ok, bind_err}
use Rattle.spec_bits.proofs.FormLaws.{form_reads}
use Rattle.iamf_bits.specs.View.{MovesPast}

-- the value, and the place after so many bits
abbrev placed : (form : Form) → Cursor → Value form × ℕ → Result (Value form × Cursor) FieldFault
placed form c r = Ok (r.0, moved c r.1)

bits_left-moved : (c : Cursor) (front rest : Bits) (n : ℕ) → bits_left c ≡ front ++ rest → length front ≡ n → bits_left (moved c n) ≡ rest
bits_left-moved c front rest n parts len = sym (drop-drop n c.place (all_bits c.bytes)) ∙ ap (drop n) parts ∙ drop_at front rest n len

moves : (form : Form) (c : Cursor) (r : Value form × ℕ) → field_front form (bits_left c) ≡ Ok r → MovesPast form r.0 c (moved c r.1)
moves form c r e =
    let f = (form_reads form).reads (bits_left c) r.0 r.1 e in
    record { front = f.0; spells = f.4; parts = f.2 ∙ ap (λ (b : Bits). f.0 ++ b) (sym (bits_left-moved c f.0 f.1 r.1 f.2 f.3)); bytes = refl }

pub moves_past : (form : Form) (v : Value form) (c d : Cursor) → field_at form c ≡ Ok (v, d) → MovesPast form v c d
unfolding field_at
moves_past form v c d e =
    let a = bind_ok (field_front form (bits_left c)) (placed form c) (v, d) e in
    let made : Value form × Cursor = (a.0.0, moved c a.0.1) in
    subst (λ (y : Value form × Cursor). MovesPast form y.0 c y.1) (ok_is {F = FieldFault} made (v, d) a.2) (moves form c a.0 a.1)

pub has_fault : (form : Form) (f : FieldFault) (c : Cursor) → field_at form c ≡ Err f → FormFault form f (bits_left c)
unfolding field_at
has_fault form f c e = elim (bind_err (field_front form (bits_left c)) (placed form c) f e) [
  | inl fails ↦ (form_reads form).fails (bits_left c) f fails
  | inr read ↦ absurd (let no = read.2 in cc)
]

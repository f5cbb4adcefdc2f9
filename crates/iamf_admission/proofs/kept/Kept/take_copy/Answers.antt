use Rattle.std.proofs.Common.{◌≡◌, true, false, inl, refl, sym, ap, ◌∙◌}
use Rattle.spec_obu.specs.Header.{Head}
use Rattle.spec_sequence.specs.Reading.{values_of, is_repeated, Early}
use Rattle.obu_header.specs.View.{head_of}
use Rattle.iamf_admission.proofs.CopiesAdmitted.{copy_descriptor, copy_redundant, copied, unlike}
use Rattle.iamf_admission.proofs.OneMore.{stands_more, copy_grows}
use Rattle.iamf_admission.proofs.kept.Kept.take_copy.Goals as goal

pub returns-then-has : goal.returns-then-has
returns-then-has c = λ past st few.
    let view = c.args.obu.now in
    let k = c.args.self.now in
    let h : Head = head_of view.head in
    let copy = c.requires.copy in
    let descriptor = copy_descriptor h view.payload.now c.requires.spelled.0 c.requires.spelled.1 copy in
    let same : is_repeated past h view.payload.now ≡ true = sym (c.has.ensures past h st.copies refl descriptor) ∙ c.if-has.true in
    let t = copied past view st.keeps descriptor copy same in
    let redundant = ap (λ (x : Head). x.redundant) t.1.next.head ∙ copy_redundant h copy in (
      t.0,
      t.1,
      stands_more k k past view t.0 st t.1.next
          (copy_grows k past t.0 st few redundant (c.other_obus_law.ensures k.copies past t.0 st.copies (inl redundant)) (c.other_obus_law-2.ensures k.tally (values_of past) t.0.value st.tally (inl redundant))),
    )

pub returns : goal.returns
returns c = λ past st few.
    let view = c.args.obu.now in
    let h : Head = head_of view.head in
    let copy = c.requires.copy in
    let descriptor = copy_descriptor h view.payload.now c.requires.spelled.0 c.requires.spelled.1 copy in
    let none : is_repeated past h view.payload.now ≡ false = sym (c.has.ensures past h st.copies refl descriptor) ∙ c.if-has.false in
    (Early (unlike past h view.payload.now copy none), st)

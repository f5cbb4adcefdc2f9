use Rattle.std.proofs.Common.{◌++◌, ◌∷◌, [], ap, ◌∙◌}
use Rattle.spec_rules.specs.Descriptors.{frame_length}
use Rattle.spec_sequence.specs.Reading.{roles}
use Rattle.iamf_sequence.proofs.AdmittedContents.{said_is, small_kind, allowed_flags, typed, trimmed, is_short, still_valid, copy_view, plain_put, copy_put}
use Rattle.iamf_sequence.proofs.spelling.put_admitted.Goals as goal

pub write_obu_of-requires-clause-kind : goal.write_obu_of-requires-clause-kind
write_obu_of-requires-clause-kind c = let r = c.requires.admitted in small_kind r.0 r.1 c.args.admission.now c.args.view.now c.args.obu.now r.2 r.3 r.4

pub write_obu_of-requires-clause-allowed : goal.write_obu_of-requires-clause-allowed
write_obu_of-requires-clause-allowed c = let r = c.requires.admitted in allowed_flags r.0 r.1 c.args.admission.now c.args.view.now c.args.obu.now r.2 r.3 r.4

pub write_obu_of-requires-clause-obu_type : goal.write_obu_of-requires-clause-obu_type
write_obu_of-requires-clause-obu_type c =
    let r = c.requires.admitted in
    typed c.in-Some-content.content r.2 r.3 c.args.view.now r.4.next.taken.next (said_is c.in-Some-content.content c.args.obu.now r.2 r.3 c.in-Some-content.is r.4.next.taken.says)

pub write_obu_of-requires-clause-trims : goal.write_obu_of-requires-clause-trims
write_obu_of-requires-clause-trims c =
    let r = c.requires.admitted in
    trimmed c.in-Some-content.content r.2 r.3 c.args.view.now r.4.next.taken.next (said_is c.in-Some-content.content c.args.obu.now r.2 r.3 c.in-Some-content.is r.4.next.taken.says)

pub write_obu_of-requires-clause-valid : goal.write_obu_of-requires-clause-valid
write_obu_of-requires-clause-valid c =
    let r = c.requires.admitted in (
      frame_length (roles r.2),
      still_valid c.in-Some-content.content r.2 r.3 c.in-Some.definitions.now c.args.view.now.head.kind (said_is c.in-Some-content.content c.args.obu.now r.2 r.3 c.in-Some-content.is r.4.next.taken.says)
          (c.in-Some.ensures.stands (r.2 ++ r.3 ∷ []) r.4.after) (ap (λ h. h.kind) r.4.next.taken.next.head),
    )

pub write_obu_of-requires-clause-short : goal.write_obu_of-requires-clause-short
write_obu_of-requires-clause-short c =
    let r = c.requires.admitted in
    is_short r.0 r.1 c.args.admission.now c.args.view.now c.args.obu.now r.2 r.3 c.in-Some-content.content r.4 (said_is c.in-Some-content.content c.args.obu.now r.2 r.3 c.in-Some-content.is r.4.next.taken.says)

pub put_obu-requires-clause-view : goal.put_obu-requires-clause-view
put_obu-requires-clause-view c =
    let r = c.requires.admitted in (
      r.3.value,
      copy_view r.0 r.1 c.args.admission.now c.args.view.now c.args.obu.now r.2 r.3 _ _ r.4 c.in-None.is (c.from-frame_length.ensures ∙ c.frame_length.ensures (r.2 ++ r.3 ∷ []) r.4.after) (c.in-Some.ensures.stands (r.2 ++ r.3 ∷ []) r.4.after),
    )

pub returns-in-Some-content-clause-bits : goal.returns-in-Some-content-clause-bits
returns-in-Some-content-clause-bits c =
    plain_put c.write_obu_of.result c.args.out.now.bits c.write_obu_of.new.out.bits c.args.admission.now c.args.view.now c.args.obu.now c.in-Some-content.content c.in-Some-content.is c.write_obu_of.ensures.bits

pub returns-in-None-clause-bits : goal.returns-in-None-clause-bits
returns-in-None-clause-bits c =
    copy_put c.put_obu.result c.args.out.now.bits c.put_obu.new.out.bits c.args.admission.now c.args.view.now c.args.obu.now c.from-frame_length.result c.in-Some.definitions.now c.in-None.is
    (λ bytes at l e one. (c.from-frame_length.ensures ∙ c.frame_length.ensures (l ++ e ∷ []) one.after, c.in-Some.ensures.stands (l ++ e ∷ []) one.after))
    c.put_obu.ensures.bits

use Rattle.std.proofs.Common.{◌≡◌, ℕ, List, [], ◌∷◌, ◌++◌, length, length-append, take, refl, sym, ap, subst, ◌∙◌, arith}
use Rattle.std.proofs.Math.Seq.{take-length}
use Rattle.spec_bits.specs.Bits.{AreBytes}
use Rattle.spec_sequence.specs.Reading.{Admitted}
use Rattle.iamf_sequence.specs.declared.refusal.DecodeError.{DecodeError}
use Rattle.iamf_sequence.specs.Places.{IsRefused}
use Rattle.iamf_sequence.specs.Walking.{IsAtPlace, IsOneMore}
use Rattle.iamf_sequence.proofs.AdmittedRoles.{roles_admitted}
use Rattle.iamf_sequence.proofs.Advancing.{admitted_more, header_refused, not_taken_refused, end_refused}
use Rattle.iamf_sequence.proofs.walking.walk.Goals as goal

pub loop-at-init : goal.loop-at-init
loop-at-init g c = record {
  number = omega (arith, c.new-admission.ensures.count);
  within = omega arith;
  stands = ([], refl, c.new-admission.ensures, c.requires.stands);
}

pub returns-in-Err-clause-refused : goal.returns-in-Err-clause-refused
returns-in-Err-clause-refused g c =
    let s = c.loop-at.invariant.stands in
    subst (λ (e : DecodeError). IsRefused c.args.buffer.now e) (sym c.refused.ensures) (header_refused c.args.buffer.now c.loop-at.at s.0 c.in-Err.fault c.loop-at-test.true s.1 c.in-Err.ensures.fault)

pub take-requires-clause-room : goal.take-requires-clause-room
take-requires-clause-room g c = omega (arith, c.loop-at.invariant.number, c.loop-at-test.true, c.requires.short)

pub take-requires-clause-spelled : goal.take-requires-clause-spelled
take-requires-clause-spelled g c = (_, c.in-Ok.ensures.header)

pub returns-in-Err-take-clause-refused : goal.returns-in-Err-take-clause-refused
returns-in-Err-take-clause-refused g c =
    let s = c.loop-at.invariant.stands in
    subst (λ (e : DecodeError). IsRefused c.args.buffer.now e) (sym c.not_taken.ensures)
    (not_taken_refused c.args.buffer.now c.loop-at.at s.0 c.in-Ok.view c.in-Err-take.error c.take.new.self c.loop-at-test.true s.1 c.in-Ok.ensures.header (c.in-Err-take.ensures.takes s.0 s.2))

pub take-requires-in-loop-at : goal.take-requires-in-loop-at
take-requires-in-loop-at g c κs =
    let s = c.loop-at.invariant.stands in
    let t = c.in-Ok-take.ensures.takes s.0 s.2 in
    let are = subst AreBytes c.as_bytes_below_256-bytes.ensures.same c.as_bytes_below_256-bytes.ensures.below in
    let next : IsAtPlace c.args.buffer.now c.loop-at.at c.in-Ok.view c.in-Ok-take.obu s.0 t.0 = record { place = c.in-Ok.ensures.at; onward = c.in-Ok.ensures.begins; within = c.in-Ok.ensures.within; header = c.in-Ok.ensures.header; taken = t.1 } in
    ((refl, tt), (c.args.buffer.now, c.loop-at.at, s.0, t.0, s.3, record { are = are; admitted = roles_admitted c.loop-at.admission s.0 s.2; next = next; after = t.2 }))

pub loop-at-preserved : goal.loop-at-preserved
loop-at-preserved g c =
    let s = c.loop-at.invariant.stands in
    let t = c.in-Ok-take.ensures.takes s.0 s.2 in
    let are = subst AreBytes c.as_bytes_below_256-bytes.ensures.same c.as_bytes_below_256-bytes.ensures.below in
    let next : IsAtPlace c.args.buffer.now c.loop-at.at c.in-Ok.view c.in-Ok-take.obu s.0 t.0 = record { place = c.in-Ok.ensures.at; onward = c.in-Ok.ensures.begins; within = c.in-Ok.ensures.within; header = c.in-Ok.ensures.header; taken = t.1 } in
    let one : IsOneMore c.args.buffer.now c.loop-at.at c.take.new.self c.in-Ok.view c.in-Ok-take.obu s.0 t.0 = record { are = are; admitted = roles_admitted c.loop-at.admission s.0 s.2; next = next; after = t.2 } in
    record {
      number = omega (arith, t.2.count, s.2.count, length-append s.0 (t.0 ∷ []), c.loop-at.invariant.number, c.in-Ok.ensures.begins);
      within = c.in-Ok.ensures.within;
      stands = (s.0 ++ t.0 ∷ [], admitted_more c.args.buffer.now c.loop-at.at c.in-Ok.view c.in-Ok-take.obu s.0 t.0 s.1 next, t.2, c.in-Ok-take-2.ensures {u = tt} c.args.buffer.now c.loop-at.at s.0 t.0 s.3 one);
    }

pub returns-in-Some-clause-refused : goal.returns-in-Some-clause-refused
returns-in-Some-clause-refused g c =
    let s = c.loop-at.invariant.stands in
    let at_end : c.loop-at.at ≡ length c.args.buffer.now = omega (arith, c.loop-at.invariant.within, c.loop-at-test.false) in
    let admitted = subst (λ (b : List ℕ). Admitted b s.0) (ap (λ n. take n c.args.buffer.now) at_end ∙ take-length c.args.buffer.now) s.1 in
    subst (λ (e : DecodeError). IsRefused c.args.buffer.now e) (sym c.refused-in-Some.ensures) (end_refused c.args.buffer.now s.0 c.in-Some.fault admitted (sym (c.end_fault.ensures.stands s.0 s.2) ∙ c.in-Some.is))

pub returns-in-None-clause-walks : goal.returns-in-None-clause-walks
returns-in-None-clause-walks g c =
    let s = c.loop-at.invariant.stands in
    let at_end : c.loop-at.at ≡ length c.args.buffer.now = omega (arith, c.loop-at.invariant.within, c.loop-at-test.false) in
    let admitted = subst (λ (b : List ℕ). Admitted b s.0) (ap (λ n. take n c.args.buffer.now) at_end ∙ take-length c.args.buffer.now) s.1 in (
      s.0,
      record { read = record { admitted = admitted; whole = sym (c.end_fault.ensures.stands s.0 s.2) ∙ c.in-None.is }; stands = s.2 },
      subst (λ (n : ℕ). g.G.Gather.stands c.loop-at.gather c.args.buffer.now n s.0) at_end s.3,
    )

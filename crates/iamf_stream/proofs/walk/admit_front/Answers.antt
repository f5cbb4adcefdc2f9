use Rattle.std.proofs.Common.{sym, subst}
use Rattle.iamf_sequence.specs.declared.refusal.DecodeError.{DecodeError}
use Rattle.iamf_stream.specs.Steps.{Fails}
use Rattle.iamf_stream.proofs.Passing.{room_for_obu, passed_obu, settled_header, fails_obu}
use Rattle.iamf_stream.proofs.walk.admit_front.Goals as goal

pub admit-requires-clause-room : goal.admit-requires-clause-room
admit-requires-clause-room c = room_for_obu _ _ _ c.requires.some c.requires.room

pub returns-in-Ok : goal.returns-in-Ok
returns-in-Ok c = λ stream p. passed_obu _ _ _ _ _ _ p c.in-Obu.ensures c.in-Ok.ensures.admits

pub returns-in-Err : goal.returns-in-Err
returns-in-Err c = λ stream p.
    subst (λ (e : DecodeError). Fails e stream) (sym c.not_admitted.ensures) (fails_obu _ c.admit.new.self _ _ _ _ _ p c.in-Obu.ensures c.in-Err.ensures.admits)

pub returns-in-Fault : goal.returns-in-Fault
returns-in-Fault c = λ stream p.
    subst (λ (e : DecodeError). Fails e stream) (sym c.refused.ensures) (settled_header _ _ _ _ _ p c.in-Fault.ensures)

use Rattle.std.proofs.Common.{refl}
use Rattle.spec_bodies.specs.SequenceBody.{units, descriptors, HasSequenceBody}
use Rattle.iamf_mux.proofs.muxing.file_parts.Goals as goal

pub returns-in-Ok-write_front-clause-units : goal.returns-in-Ok-write_front-clause-units
returns-in-Ok-write_front-clause-units c =
    let b = c.in-Ok.ensures.body in
    let body : HasSequenceBody c.args.buffer.now (descriptors b.obus) (units b.obus) = record { obus = b.obus; bytes_are = b.bytes_are; are = b.are; descriptors_are = refl; units_are = refl } in
    (descriptors b.obus, units b.obus, body, b.gathered.units_are)

use Rattle.iamf_sequence.proofs.WrittenObus.{small_kind, allowed_flags, short_obu, view_put, no_fault}
use Rattle.iamf_sequence.proofs.encoding.put_obu.Goals as goal

pub write_obu_of-requires-clause-kind : goal.write_obu_of-requires-clause-kind
write_obu_of-requires-clause-kind c = small_kind c.args.frame_length c.args.definitions.now c.args.view.now c.requires.view.0 c.requires.view.1

pub write_obu_of-requires-clause-allowed : goal.write_obu_of-requires-clause-allowed
write_obu_of-requires-clause-allowed c = allowed_flags c.args.frame_length c.args.definitions.now c.args.view.now c.requires.view.0 c.requires.view.1

pub write_obu_of-requires-clause-short : goal.write_obu_of-requires-clause-short
write_obu_of-requires-clause-short c = short_obu c.args.frame_length c.args.definitions.now c.args.view.now c.requires.view.0 c.in-Ok.content c.requires.view.1 c.in-Ok.ensures.reads

pub unreachable-requires : goal.unreachable-requires
unreachable-requires c =
    let reads = rw c.in-Fault.is at c.in-Err.ensures.reads in
    no_fault c.args.frame_length c.args.definitions.now c.args.view.now c.requires.view.0 c.in-Fault.field-0 c.requires.view.1 reads

pub returns-in-Ok-clause-bits : goal.returns-in-Ok-clause-bits
returns-in-Ok-clause-bits c =
    view_put c.write_obu_of.result c.args.frame_length c.args.definitions.now c.args.view.now c.in-Ok.content c.args.out.now.bits c.write_obu_of.new.out.bits c.in-Ok.ensures.reads c.write_obu_of.ensures.bits

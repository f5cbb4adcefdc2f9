-- A command that ends on the bytes of a whole input ends so with the reading of it.
use Rattle.std.proofs.Common.{◌≡◌, ◌^◌, ℕ, List}
use Rattle.iamf_io.specs.Whole.{TakesAll}
use Rattle.iamf_tool.specs.declared.command.Command.{Command}
use Rattle.iamf_tool.specs.declared.status.Status.{Status}
use Rattle.iamf_tool.specs.declared.status.Status.TheVariants.{Done, Refused, Usage, Memory, ReadFault, WriteFault, TooLarge}
use Rattle.iamf_tool.specs.Ends.{Ran, Concludes, Ends}

pub concluded : (status : Status) (c : Command) (r : Ran) (b : List ℕ) → TakesAll r.source.before r.source.after b (2 ^ 30) → r.source.count_after ≡ r.source.count_before → Concludes status c b r.out r.notes → Ends status c r
concluded Done c r b all same h = record { bytes = b; within = all.within; taken = all.taken; end = all.end; same = same; is = h }
concluded Refused c r b all same h = record { bytes = b; within = all.within; taken = all.taken; end = all.end; same = same; is = h }
concluded WriteFault c r b all same h = record { bytes = b; within = all.within; taken = all.taken; end = all.end; same = same; is = h }
concluded Memory c r b all same h = record { same = same; noted = h }
concluded Usage c r b all same h = absurd h
concluded ReadFault c r b all same h = absurd h
concluded TooLarge c r b all same h = absurd h

-- Nothing is kept of no OBU.
use Rattle.std.proofs.Common.{refl}
use Rattle.iamf_sequence.proofs.Keeping.{keeps_none}
use Rattle.iamf_sequence.proofs.contents.Contents.new.Goals as goal

pub returns : goal.returns
returns c = keeps_none _ refl refl c.new.ensures.items c.new-2.ensures.items c.new-3.ensures.items

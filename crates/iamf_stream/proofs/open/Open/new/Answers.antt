use Rattle.std.proofs.Common.{refl}
use Rattle.iamf_stream.proofs.Pieces.{stands_new}
use Rattle.iamf_stream.proofs.open.Open.new.Goals as goal

pub returns : goal.returns
returns c = stands_new _ c.new.ensures refl c.new-2.ensures.items refl

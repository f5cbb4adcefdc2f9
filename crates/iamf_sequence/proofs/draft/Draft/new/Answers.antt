use Rattle.std.proofs.Common.{refl}
use Rattle.iamf_sequence.proofs.draft.Draft.new.Goals as goal

pub returns : goal.returns
returns c = λ bytes. record { contents = c.new.ensures; views = rw c.new-2.ensures.items tt; tiles = rw c.new-2.ensures.items refl; numbers = rw c.new-2.ensures.items refl }

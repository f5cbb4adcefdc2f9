use Rattle.spec_boxes.proofs.TilingLaws.{parts_tile}
use Rattle.spec_boxes.proofs.parts_tile.Goals as goal

pub returns : goal.returns
returns c = parts_tile

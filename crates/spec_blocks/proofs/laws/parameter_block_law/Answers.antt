use Rattle.spec_blocks.proofs.BlockFields.{block_syntax}
use Rattle.spec_blocks.proofs.laws.parameter_block_law.Goals as goal

pub returns : goal.returns
returns c = block_syntax

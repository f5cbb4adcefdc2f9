use Rattle.obu_data.specs.BlockView.{view_block}
use Rattle.obu_data.proofs.Blocks.{block_fits}
use Rattle.obu_data.proofs.parameter_block.write_block.Goals as goal

pub put_block-requires-clause-fits : goal.put_block-requires-clause-fits
put_block-requires-clause-fits c = block_fits c.args.definitions.now (view_block c.args.block.now) c.requires

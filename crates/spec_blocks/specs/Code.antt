-- The numbers of the refusals.
use Rattle.std.specs.Prelude.{ℕ}
use Rattle.spec_blocks.specs.declared.fault.BlockFault.{BlockFault}
use Rattle.spec_blocks.specs.declared.fault.BlockFault.TheVariants as block

abbrev pub block_code : BlockFault → ℕ
block_code (block.Field f) = 10
block_code block.Animation = 26
block_code block.Subblocks = 27
block_code block.ReconFlags = 28

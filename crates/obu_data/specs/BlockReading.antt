-- What reading a parameter block answers.
use Rattle.std.specs.Prelude.{◌≡◌, ℕ, List, [], Option, Some, None, Result, Ok, Err}
use Rattle.spec_bits.specs.Bits.{all_bits}
use Rattle.spec_bits.specs.Cursor.{Cursor, bits_left, bytes_left}
use Rattle.spec_blocks.specs.declared.fault.BlockFault.{BlockFault}
use Rattle.spec_syntax.specs.Payload.{Payload, Faults}
use Rattle.spec_blocks.specs.declared.fault.BlockFault.TheVariants as fault
use Rattle.spec_blocks.specs.Shape.{Shape, Definition}
use Rattle.spec_blocks.specs.ParameterBlock.{BlockFields, parameter_block}
use Rattle.spec_blocks.specs.BlockFieldLists.{block_fields}
use Rattle.iamf_bits.specs.declared.unread.Unread.{Unread}
use Rattle.iamf_bits.specs.declared.unread.Unread.TheVariants.{Fault, Memory}
use Rattle.obu_data.specs.declared.parameter_block.ParameterBlock.{ParameterBlock}
use Rattle.obu_data.specs.BlockView.{view_block, bytes_after, IsOpaque, IsKnown}

-- The payload is the block's fields and the bytes after them; or this is its first fault, unless memory ran out.
abbrev pub SpellsBlock : List Definition → List ℕ → Result ParameterBlock (Unread BlockFault) → Type 0
SpellsBlock definitions payload (Ok block) = Payload (parameter_block definitions) (block_fields (view_block block)) (view_block block) (all_bits (bytes_after block)) (all_bits payload)
SpellsBlock definitions payload (Err (Fault f)) = Faults (λ e. fault.Field e) (parameter_block definitions) [] f (all_bits payload)
SpellsBlock definitions payload (Err (Memory e)) = Unit {0}

-- A block of an id in no definition is opaque and has no tail, and no other block is opaque.
abbrev pub FollowsShape : Option Shape → ParameterBlock → Type 0
FollowsShape None block = IsOpaque block.content × (block.tail.now ≡ [])
FollowsShape (Some shape) block = IsKnown block.content

-- the same by reading: the block, and all bytes after its fields; or the first fault, unless memory ran out
abbrev pub ReadsBlock : Result ParameterBlock (Unread BlockFault) → Result (BlockFields × Cursor) BlockFault → Type 0
ReadsBlock (Ok block) read = (c : Cursor) × (read ≡ Ok (view_block block, c)) × (bits_left c ≡ all_bits (bytes_after block)) × (bytes_left c ≡ bytes_after block)
ReadsBlock (Err (Fault f)) read = read ≡ Err f
ReadsBlock (Err (Memory e)) read = Unit {0}

use Rattle.std.proofs.Common.{◌≡◌, ◌/◌, List, ℕ, length}
use Rattle.spec_bits.specs.Cursor.{IsOnByte, bytes_left}
use Rattle.obu_codec_config.proofs.Walking.{Walked}
use Rattle.obu_codec_config.proofs.stream_info.read_blocks.Given as goal

abbrev pub invariant-block : goal.invariant-block
invariant-block l = IsOnByte l.view × (l.start ≡ l.fn.view.place / 8) × ((front : List ℕ) × Walked l.fn.view l.view front)

abbrev pub decreases-block : goal.decreases-block
decreases-block l = length (bytes_left l.view)

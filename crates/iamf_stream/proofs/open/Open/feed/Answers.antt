use Rattle.std.proofs.Common.{ℕ, List, ◌++◌, take, arith}
use Rattle.iamf_stream.proofs.Pieces.{room_for_rest, goes_on, takes_whole}
use Rattle.iamf_stream.proofs.open.Open.feed.Goals as goal

pub pass-requires-clause-room : goal.pass-requires-clause-room
pass-requires-clause-room c = room_for_rest c.complete.new.self c.requires.0 c.args.piece.now c.in-Ok.at c.requires.2 (c.in-Ok.ensures c.requires.0 c.requires.1).takes.stands

pub returns-then-at-piece : goal.returns-then-at-piece
returns-then-at-piece c = λ stream st. goes_on c.pass.new.self c.pass.result c.in-Ok.at c.args.piece.now stream (c.pass.ensures (stream ++ take c.in-Ok.at c.args.piece.now) (c.in-Ok.ensures stream st).takes.stands)

pub returns-else-at-piece : goal.returns-else-at-piece
returns-else-at-piece c = λ stream st. takes_whole c.complete.new.self c.in-Ok.at c.args.piece.now stream c.if-at-piece.false (c.in-Ok.ensures stream st).takes.stands

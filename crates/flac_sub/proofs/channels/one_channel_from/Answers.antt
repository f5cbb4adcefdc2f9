use Rattle.std.proofs.Common.{length}
use Rattle.flac_sub.proofs.TwoRows.{one_answers}
use Rattle.flac_sub.proofs.channels.one_channel_from.Goals as goal

pub returns : goal.returns
returns c = record { gives = one_answers c.args.shape c.from.result (length c.args.row.now) _ c.args.reader.now _ _ c.from.ensures c.requires.row c.subframe_from.ensures.gives }

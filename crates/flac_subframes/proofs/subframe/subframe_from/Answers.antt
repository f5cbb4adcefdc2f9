use Rattle.std.proofs.Common.{length}
use Rattle.flac_subframes.proofs.WholeSubframes.{no_kind, no_wasted, no_content, whole}
use Rattle.flac_subframes.proofs.subframe.subframe_from.Goals as goal

pub returns-in-Err-clause-gives : goal.returns-in-Err-clause-gives
returns-in-Err-clause-gives c = no_kind c.args.depth (length c.args.row.now) c.args.reader.now c.in-Err.fault c.in-Err.ensures.gives

pub returns-in-Err-wasted_from-clause-gives : goal.returns-in-Err-wasted_from-clause-gives
returns-in-Err-wasted_from-clause-gives c = no_wasted c.args.depth (length c.args.row.now) c.in-Ok.kind c.args.reader.now c.kind_from.new.reader c.in-Err-wasted_from.fault c.in-Ok.ensures.gives c.in-Err-wasted_from.ensures.gives

pub returns-in-Ok-content_from-clause-gives : goal.returns-in-Ok-content_from-clause-gives
returns-in-Ok-content_from-clause-gives c =
    whole c.args.depth (length c.args.row.now) c.in-Ok.kind c.in-Ok-wasted_from.wasted c.args.reader.now c.kind_from.new.reader c.wasted_from.new.reader c.content_from.new.reader c.content_from.new.row c.scale.new.row c.in-Ok.ensures.gives c.in-Ok-wasted_from.ensures.gives c.in-Ok-content_from.ensures.gives c.scale.ensures.scaled

pub returns-in-Err-content_from-clause-gives : goal.returns-in-Err-content_from-clause-gives
returns-in-Err-content_from-clause-gives c =
    no_content c.args.depth (length c.args.row.now) c.in-Ok.kind c.in-Ok-wasted_from.wasted c.args.reader.now c.kind_from.new.reader c.wasted_from.new.reader c.in-Err-content_from.fault c.in-Ok.ensures.gives c.in-Ok-wasted_from.ensures.gives c.in-Err-content_from.ensures.gives

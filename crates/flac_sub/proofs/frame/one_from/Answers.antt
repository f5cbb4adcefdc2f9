use Rattle.flac_sub.proofs.WholeFrames.{no_header, one_no_rows, one_whole}
use Rattle.flac_sub.proofs.frame.one_from.Goals as goal

pub returns-in-Err : goal.returns-in-Err
returns-in-Err c = record { gives = no_header c.args.shape c.args.reader.now c.in-Err.fault c.in-Err.ensures.gives }

pub returns-in-Ok-one_channel_from : goal.returns-in-Ok-one_channel_from
returns-in-Ok-one_channel_from c = record { gives = one_whole c.args.shape c.in-Ok.code _ c.args.reader.now c.header_from.new.reader c.one_channel_from.new.reader _ _ c.requires.channels c.in-Ok.ensures.gives c.in-Ok-one_channel_from.ensures.gives c.end_from.ensures.gives }

pub returns-in-Err-one_channel_from : goal.returns-in-Err-one_channel_from
returns-in-Err-one_channel_from c = record { gives = one_no_rows c.args.shape c.in-Ok.code c.args.reader.now c.header_from.new.reader c.in-Err-one_channel_from.fault c.requires.channels c.in-Ok.ensures.gives c.in-Err-one_channel_from.ensures.gives }

use Rattle.flac_sub.proofs.WholeFrames.{no_header, two_no_rows, two_whole}
use Rattle.flac_sub.proofs.frame.two_from.Goals as goal

pub returns-in-Err : goal.returns-in-Err
returns-in-Err c = record { gives = no_header c.args.shape c.args.reader.now c.in-Err.fault c.in-Err.ensures.gives }

pub returns-in-Ok-two_channels_from : goal.returns-in-Ok-two_channels_from
returns-in-Ok-two_channels_from c = record { gives = two_whole c.args.shape c.in-Ok.code _ c.args.reader.now c.header_from.new.reader c.two_channels_from.new.reader _ _ c.requires.channels c.in-Ok.ensures.gives c.in-Ok-two_channels_from.ensures.gives c.end_from.ensures.gives }

pub returns-in-Err-two_channels_from : goal.returns-in-Err-two_channels_from
returns-in-Err-two_channels_from c = record { gives = two_no_rows c.args.shape c.in-Ok.code c.args.reader.now c.header_from.new.reader c.in-Err-two_channels_from.fault c.requires.channels c.in-Ok.ensures.gives c.in-Err-two_channels_from.ensures.gives }

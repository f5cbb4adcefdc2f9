use Rattle.std.proofs.Common.{length, arith, ◌∙◌}
use Rattle.spec_syntax.proofs.Reading.{answers_same}
use Rattle.flac_sub.proofs.TwoRows.{two_then, two_no_first, two_no_second, then_left, then_same}
use Rattle.flac_sub.proofs.channels.two_channels_from.Goals as goal

pub returns-in-Err : goal.returns-in-Err
returns-in-Err c = record { gives = two_no_first c.args.shape c.args.code (length c.args.first.now) c.first_depth.result c.args.reader.now c.in-Err.fault c.requires.first c.first_depth.ensures.is c.in-Err.ensures.gives }

pub returns-in-Err-subframe_from : goal.returns-in-Err-subframe_from
returns-in-Err-subframe_from c = record { gives = two_no_second c.args.shape c.args.code (length c.args.first.now) (length c.args.second.now) c.first_depth.result c.second_depth.result c.subframe_from.new.row c.args.reader.now c.subframe_from.new.reader c.in-Err-subframe_from.fault c.requires.first c.requires.second c.first_depth.ensures.is c.second_depth.ensures.is c.in-Ok.ensures.gives c.in-Err-subframe_from.ensures.gives }

pub returns-then-code-lt8 : goal.returns-then-code-lt8
returns-then-code-lt8 c = record {
  gives =
      two_then c.args.shape c.args.code (length c.args.first.now) (length c.args.second.now) c.first_depth.result c.second_depth.result c.subframe_from.new.row c.subframe_from-2.new.row c.args.reader.now c.subframe_from.new.reader c.subframe_from-2.new.reader c.requires.first c.requires.second c.first_depth.ensures.is c.second_depth.ensures.is c.in-Ok.ensures.gives c.in-Ok-subframe_from.ensures.gives
      ∙ then_same c.args.shape c.args.code c.subframe_from.new.row c.subframe_from-2.new.row c.subframe_from-2.new.reader c.if-code-lt8.true;
}

pub returns : goal.returns
returns c = record {
  gives = answers_same _ _ _ _ (
      two_then c.args.shape c.args.code (length c.args.first.now) (length c.args.second.now) c.first_depth.result c.second_depth.result c.subframe_from.new.row c.subframe_from-2.new.row c.args.reader.now c.subframe_from.new.reader c.subframe_from-2.new.reader c.requires.first c.requires.second c.first_depth.ensures.is c.second_depth.ensures.is c.in-Ok.ensures.gives c.in-Ok-subframe_from.ensures.gives
      ∙ then_left c.args.shape c.args.code c.from.result c.subframe_from.new.row c.subframe_from-2.new.row c.subframe_from-2.new.reader c.from.ensures (omega arith)) (c.decorrelated.ensures c.subframe_from-2.new.reader);
}

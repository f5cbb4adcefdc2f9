use Rattle.flac_header.proofs.HeaderParts.{front_no_kinds, front_no_number, front_whole}
use Rattle.flac_header.proofs.header.front_from.Goals as goal

pub returns-in-Err-kinds_from-clause-gives : goal.returns-in-Err-kinds_from-clause-gives
returns-in-Err-kinds_from-clause-gives c = front_no_kinds _ c.args.reader.now c.codes_from.new.reader c.in-Err-kinds_from.fault c.in-Ok.ensures.gives c.in-Err-kinds_from.ensures.gives

pub returns-in-Ok-coded_number_from-clause-gives : goal.returns-in-Ok-coded_number_from-clause-gives
returns-in-Ok-coded_number_from-clause-gives c = front_whole _ _ c.args.reader.now c.codes_from.new.reader c.kinds_from.new.reader c.coded_number_from.new.reader c.in-Ok.ensures.gives c.in-Ok-kinds_from.ensures.gives c.in-Ok-coded_number_from.ensures.gives

pub returns-in-Err-coded_number_from-clause-gives : goal.returns-in-Err-coded_number_from-clause-gives
returns-in-Err-coded_number_from-clause-gives c = front_no_number _ _ c.args.reader.now c.codes_from.new.reader c.kinds_from.new.reader c.in-Err-coded_number_from.fault c.in-Ok.ensures.gives c.in-Ok-kinds_from.ensures.gives c.in-Err-coded_number_from.ensures.gives

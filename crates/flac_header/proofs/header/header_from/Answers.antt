use Rattle.flac_header.proofs.HeaderParts.{header_no_numbers, header_no_crc, header_whole}
use Rattle.flac_header.proofs.header.header_from.Goals as goal

pub returns-in-Err-numbers_from-clause-gives : goal.returns-in-Err-numbers_from-clause-gives
returns-in-Err-numbers_from-clause-gives c = header_no_numbers c.args.shape _ c.args.reader.now c.front_from.new.reader c.in-Err-numbers_from.fault c.in-Ok.ensures.gives c.in-Err-numbers_from.ensures.gives

pub returns-in-Ok-crc_from-clause-gives : goal.returns-in-Ok-crc_from-clause-gives
returns-in-Ok-crc_from-clause-gives c = header_whole c.args.shape _ c.args.reader.now c.front_from.new.reader c.numbers_from.new.reader c.crc_from.new.reader c.in-Ok.ensures.gives c.in-Ok-numbers_from.ensures.gives c.in-Ok-crc_from.ensures.gives

pub returns-in-Err-crc_from-clause-gives : goal.returns-in-Err-crc_from-clause-gives
returns-in-Err-crc_from-clause-gives c = header_no_crc c.args.shape _ c.args.reader.now c.front_from.new.reader c.numbers_from.new.reader c.in-Err-crc_from.fault c.in-Ok.ensures.gives c.in-Ok-numbers_from.ensures.gives c.in-Err-crc_from.ensures.gives

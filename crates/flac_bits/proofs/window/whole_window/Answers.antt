use Rattle.flac_bits.proofs.Moved.{fresh}
use Rattle.flac_bits.proofs.window.whole_window.Goals as goal

pub returns-clause-is : goal.returns-clause-is
returns-clause-is c = fresh c.args.bytes.now c.word.result c.args.at c.args.used c.requires.used c.requires.within c.word.ensures

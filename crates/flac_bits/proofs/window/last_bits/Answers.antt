use Rattle.std.proofs.Common.{◌+◌, ◌*◌, arith, refl}
use Rattle.flac_bits.proofs.Moved.{empty, last}
use Rattle.flac_bits.proofs.LastBytes.{last_top}
use Rattle.flac_bits.proofs.window.last_bits.Goals as goal

pub returns-then-left-eq0-clause-is : goal.returns-then-left-eq0-clause-is
returns-then-left-eq0-clause-is c = empty c.args.bytes.now c.args.at c.requires.within

pub returns-clause-is : goal.returns-clause-is
returns-clause-is c =
    let at = c.args.at in
    let used = c.args.used in
    last c.args.bytes.now _ at used c.requires.within c.requires.last (omega arith) (last_top c.args.bytes.now at used (8 * at + used) c.number.result c.requires.within c.requires.last refl (omega arith) c.number.ensures)

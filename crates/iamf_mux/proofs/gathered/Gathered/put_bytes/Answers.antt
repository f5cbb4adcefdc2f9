use Rattle.std.proofs.Common.{◌+◌, arith}
use Rattle.mp4_file.specs.Slices.{joined}
use Rattle.iamf_mux.specs.Gathering.{slices_of}
use Rattle.iamf_mux.specs.Ranges.{parts}
use Rattle.iamf_mux.proofs.Ranges.{past_more}
use Rattle.iamf_mux.proofs.Runs.{goes_on, begins}
use Rattle.iamf_mux.proofs.gathered.Gathered.put_bytes.Goals as goal

pub returns-then-at-self-clause-put : goal.returns-then-at-self-clause-put
returns-then-at-self-clause-put c =
    let g = c.args.self.now in
    goes_on (joined g.descriptors.items) g.unit_lengths.items (joined g.units.items) g.bytes.now g.start g.end c.args.at c.args.end c.if-at-self.true g.within.0 c.requires.onward

pub returns-clause-put : goal.returns-clause-put
returns-clause-put c =
    let g = c.close.new.self in
    begins (slices_of c.args.self.now) (joined g.descriptors.items) g.unit_lengths.items (joined g.units.items) g.bytes.now c.args.self.now.bytes.now g.start g.end c.args.at c.args.end c.in_ok-close.ensures.kept c.in_ok-close.ensures.closed c.close.ensures.same

pub returns-clause-sliced : goal.returns-clause-sliced
returns-clause-sliced c =
    let old = c.args.self.now in
    let g = c.close.new.self in
    let all = c.in_ok-close.ensures.sliced c.requires.sliced.0 in
    (past_more g.bytes.now 0 (parts g.units.items) (g.end + 1) c.args.at all (omega (arith, c.close.ensures.end, c.requires.sliced.1, c.if-at-self.false)), omega arith)

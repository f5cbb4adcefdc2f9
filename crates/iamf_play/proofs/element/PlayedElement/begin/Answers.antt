use Rattle.std.proofs.Common.{sym}
use Rattle.iamf_play.proofs.PartSteps.{units_of, unit_in, unit_among, begun_is, begun_part}
use Rattle.iamf_play.proofs.element.PlayedElement.begin.Goals as goal

pub begin-requires-clause-next : goal.begin-requires-clause-next
begin-requires-clause-next c = let part = c.requires.part in sym (begun_is c.args.sequence.now part.0 part.1 c.args.u c.args.self.now part.2)

pub begin-requires-clause-unit : goal.begin-requires-clause-unit
begin-requires-clause-unit c = let part = c.requires.part in unit_in c.args.sequence.now part.0 part.1 c.args.u c.args.u c.args.self.now part.2 part.3

pub fill-requires-clause-begun : goal.fill-requires-clause-begun
fill-requires-clause-begun c = let part = c.requires.part in unit_among c.args.sequence.now part.0 part.1 c.args.u c.args.u c.args.self.now part.2 part.3

pub fill-requires-clause-ready : goal.fill-requires-clause-ready
fill-requires-clause-ready c = let part = c.requires.part in (part.0, part.2.ready, part.2.short)

pub returns : goal.returns
returns c = λ r m is.
    begun_part c.args.sequence.now r m c.args.u c.args.self.now (record { channels = c.begin.new.self; gains = c.fill.new.self }) is c.begin.ensures c.fill.ensures.gain (c.fill.ensures.fills r (units_of c.args.sequence.now r m c.args.u c.args.self.now is) is.ready)

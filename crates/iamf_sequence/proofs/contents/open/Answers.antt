-- A unit of nothing is consistent.
use Rattle.iamf_sequence.proofs.Changing.{consistent_more}
use Rattle.iamf_sequence.proofs.contents.open.Goals as goal

pub returns-clause-consistent : goal.returns-clause-consistent
returns-clause-consistent c = consistent_more _ _ c.new.result c.in_ok-push.ensures.items c.new.ensures.consistent

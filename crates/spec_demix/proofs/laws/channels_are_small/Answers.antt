use Rattle.spec_demix.proofs.Layered.{fitting_list_is_small, walk_is_small}
use Rattle.spec_demix.proofs.laws.channels_are_small.Goals as goal

pub returns-clause-fitting : goal.returns-clause-fitting
returns-clause-fitting c = fitting_list_is_small

pub returns-clause-fixed : goal.returns-clause-fixed
returns-clause-fixed c = walk_is_small

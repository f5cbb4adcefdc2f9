use Rattle.spec_demix.proofs.Layered.{some_list_fits, only_one_list_fits}
use Rattle.spec_demix.proofs.laws.one_list_fits.Goals as goal

pub returns-clause-some : goal.returns-clause-some
returns-clause-some c = some_list_fits

pub returns-clause-only : goal.returns-clause-only
returns-clause-only c = only_one_list_fits

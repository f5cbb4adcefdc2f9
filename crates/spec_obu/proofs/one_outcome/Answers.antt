use Rattle.spec_obu.proofs.OneOutcome.{listed_or_refused, excluded, one_listing, one_refusal}
use Rattle.spec_obu.proofs.one_outcome.Goals as goal

pub returns-clause-either : goal.returns-clause-either
returns-clause-either c = listed_or_refused

pub returns-clause-excludes : goal.returns-clause-excludes
returns-clause-excludes c = excluded

pub returns-clause-listing : goal.returns-clause-listing
returns-clause-listing c = one_listing

pub returns-clause-refusal : goal.returns-clause-refusal
returns-clause-refusal c = one_refusal

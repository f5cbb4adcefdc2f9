use Rattle.std.proofs.Common.{sym, ◌∙◌}
use Rattle.iamf_mux.proofs.ToldNumbers.{rate_stays, rate_comes}
use Rattle.iamf_mux.proofs.numbers.rate_after.Goals as goal

pub returns-in-Some : goal.returns-in-Some
returns-in-Some c = λ past e told said. rate_stays c.in-Some.rate past e (sym c.in-Some.is ∙ told)

pub returns-in-None : goal.returns-in-None
returns-in-None c = λ past e told said. rate_comes c.rate_told.result past e (sym c.in-None.is ∙ told) (c.rate_told.ensures past e said)

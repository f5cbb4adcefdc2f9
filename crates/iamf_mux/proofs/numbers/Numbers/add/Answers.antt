use Rattle.std.proofs.Common.{subst}
use Rattle.std.specs.Prelude.{Option}
use Rattle.iamf_obu.specs.declared.content.Content.{Content}
use Rattle.iamf_admission.specs.Taking.{Says}
use Rattle.iamf_mux.proofs.ToldNumbers.{copy_told}
use Rattle.iamf_mux.proofs.numbers.Numbers.add.Goals as goal

pub returns-in-Some-clause-added : goal.returns-in-Some-clause-added
returns-in-Some-clause-added c = λ past e are admitted says number. c.add_said.ensures.added past e are admitted (subst (λ (o : Option Content). Says o past e) c.in-Some.is says) number

pub returns-in_default-clause-added : goal.returns-in_default-clause-added
returns-in_default-clause-added c = λ past e are admitted says number. copy_told c.args.self.now past e (subst (λ (o : Option Content). Says o past e) c.in_default.is says) are

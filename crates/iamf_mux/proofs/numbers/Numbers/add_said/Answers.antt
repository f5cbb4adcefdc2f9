use Rattle.std.proofs.Common.{refl, sym, ◌∙◌}
use Rattle.iamf_mux.proofs.ToldNumbers.{data_told, quiet_told}
use Rattle.iamf_mux.proofs.numbers.Numbers.add_said.Goals as goal

pub returns-in-Some-clause-added : goal.returns-in-Some-clause-added
returns-in-Some-clause-added c = λ past e are admitted said number.
    data_told c.args.self.now _ c.args.content.now c.in-Some.unit c.start_told.result past e are admitted said (sym c.in-Some.is ∙ number) (c.rate_after-self.ensures past e are.rate said) c.add.ensures.added (c.start_told.ensures past e said)

pub returns-in_default-clause-added : goal.returns-in_default-clause-added
returns-in_default-clause-added c = λ past e are admitted said number.
    quiet_told c.args.self.now _ past e are (sym c.in_default.is ∙ number) (c.rate_after-self.ensures past e are.rate said) refl

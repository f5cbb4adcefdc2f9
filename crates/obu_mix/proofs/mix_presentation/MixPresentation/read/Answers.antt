use Rattle.obu_mix.specs.MixReading.{AnswersMix}
use Rattle.obu_mix.proofs.Answering.{answers_mix, answers_valid}
use Rattle.obu_mix.proofs.mix_presentation.MixPresentation.read.Goals as goal

pub returns-clause-exact : goal.returns-clause-exact
returns-clause-exact c = answers_mix c.read_from.result c.args.payload.now (rw c.whole.ensures at c.read_from.ensures)

pub returns-clause-valid : goal.returns-clause-valid
returns-clause-valid c =
    let answers : AnswersMix c.read_from.result c.args.payload.now = answers_mix c.read_from.result c.args.payload.now (rw c.whole.ensures at c.read_from.ensures) in
    answers_valid c.read_from.result c.args.payload.now answers

use Rattle.std.proofs.Common.{arith}
use Rattle.std.specs.Prelude.{◌==◌}
use Rattle.std.proofs.lemmas.Bool.{ne_eqb, eq-eqb}
use Rattle.spec_descriptors.specs.MixPresentation.{MixPresentationFields}
use Rattle.spec_sequence.specs.Parts.{mix_presentations}
use Rattle.spec_sequence.specs.Reading.{values_of}
use Rattle.obu_mix.specs.MixView.{view_mix}
use Rattle.iamf_elements.proofs.Searches.{any_next, find_here, find_end}
use Rattle.iamf_select.proofs.lookup.mix_of.Goals as goal

pub loop-i-preserved : goal.loop-i-preserved
loop-i-preserved c =
    any_next (λ (m : MixPresentationFields). m.mix_presentation_id == c.args.id) (mix_presentations (values_of c.args.sequence.now.entries)) c.loop-i.i (view_mix c.mix-mix.result.now) c.loop-i.invariant
    c.mix-mix.ensures.says (ne_eqb c.mix-mix.result.now.id c.args.id c.if-mix-id.false)

pub returns-then-mix-id : goal.returns-then-mix-id
returns-then-mix-id c =
    find_here (λ (m : MixPresentationFields). m.mix_presentation_id == c.args.id) (mix_presentations (values_of c.args.sequence.now.entries)) c.loop-i.i (view_mix c.mix-mix.result.now) c.loop-i.invariant
    c.mix-mix.ensures.says (eq-eqb c.mix-mix.result.now.id c.args.id c.if-mix-id.true)

pub returns : goal.returns
returns c =
    find_end (λ (m : MixPresentationFields). m.mix_presentation_id == c.args.id) (mix_presentations (values_of c.args.sequence.now.entries)) c.loop-i.i (omega arith) c.loop-i.invariant

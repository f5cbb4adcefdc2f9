use Rattle.std.proofs.Common.{arith}
use Rattle.std.specs.Prelude.{◌==◌}
use Rattle.std.proofs.lemmas.Bool.{ne_eqb, eq-eqb}
use Rattle.spec_descriptors.specs.AudioElement.{AudioElementFields}
use Rattle.spec_sequence.specs.Parts.{audio_elements}
use Rattle.spec_sequence.specs.Reading.{values_of}
use Rattle.obu_descriptors.specs.ElementView.{view_element}
use Rattle.iamf_elements.proofs.Searches.{any_next, find_here, find_end}
use Rattle.iamf_select.proofs.lookup.element_of.Goals as goal

pub loop-i-preserved : goal.loop-i-preserved
loop-i-preserved c =
    any_next (λ (e : AudioElementFields). e.audio_element_id == c.args.id) (audio_elements (values_of c.args.sequence.now.entries)) c.loop-i.i (view_element c.element-element.result.now) c.loop-i.invariant
    c.element-element.ensures.says (ne_eqb c.element-element.result.now.id c.args.id c.if-element-id.false)

pub returns-then-element-id-clause-found : goal.returns-then-element-id-clause-found
returns-then-element-id-clause-found c =
    find_here (λ (e : AudioElementFields). e.audio_element_id == c.args.id) (audio_elements (values_of c.args.sequence.now.entries)) c.loop-i.i (view_element c.element-element.result.now) c.loop-i.invariant
    c.element-element.ensures.says (eq-eqb c.element-element.result.now.id c.args.id c.if-element-id.true)

pub returns-clause-found : goal.returns-clause-found
returns-clause-found c =
    find_end (λ (e : AudioElementFields). e.audio_element_id == c.args.id) (audio_elements (values_of c.args.sequence.now.entries)) c.loop-i.i (omega arith) c.loop-i.invariant

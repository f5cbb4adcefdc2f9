use Rattle.std.proofs.Common.{◌≡◌, false, true, refl, ◌∙◌, ap, length, arith, eq-eqb}
use Rattle.std.specs.Prelude.{◌==◌}
use Rattle.spec_layouts.specs.Transmitted.{pairs_of, singles_of}
use Rattle.spec_syntax.proofs.Reading.{read_bind}
use Rattle.spec_descriptors.specs.Layers.{layer_of, output_gain, are_other}
use Rattle.obu_element_config.proofs.Counts.{counts_pass}
use Rattle.obu_element_config.proofs.layer.read_after_layout.Goals as goal

pub returns-in-Err-clause-reads : goal.returns-in-Err-clause-reads
unfolding layer_of
returns-in-Err-clause-reads c =
    let substreams = c.in_ok-substreams.field-0 in
    let coupled = c.in_ok-coupled.field-0 in
    let same : are_other c.args.before c.args.now substreams coupled ≡ false =
    counts_pass (length (pairs_of c.args.before c.args.now)) (length (singles_of c.args.before c.args.now)) substreams coupled
    (omega (arith, c.from.ensures, c.pairs.ensures, ap length c.requires.pairs, c.if-from-pairs.false)) c.if-substreams-coupled.false
    (omega (arith, c.from-2.ensures, c.singles.ensures, ap length c.requires.singles, c.if-from-singles.false)) in
    let there : c.in_ok-has_gain.has_gain == 1 ≡ true = eq-eqb _ 1 c.if-has_gain-eq1.true in
    rw (c.in_ok-has_gain.ensures.takes, c.in_ok-has_recon.ensures.takes, c.in_ok-skip_bits.ensures.takes, c.in_ok-substreams.ensures.takes, c.in_ok-coupled.ensures.takes, same, there)
    (read_bind _ output_gain _ _ ∙ rw c.in-Err.ensures refl)

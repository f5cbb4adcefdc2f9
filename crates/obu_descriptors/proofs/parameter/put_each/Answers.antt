use Rattle.std.proofs.Common.{append_assoc, subst, sym, refl}
use Rattle.spec_descriptors.specs.ElementFields.{parameter_fields}
use Rattle.obu_descriptors.specs.declared.parameter.Param.{Param}
use Rattle.spec_syntax.specs.Fitting.{AllFit}
use Rattle.obu_descriptors.specs.ParameterView.{view_param}
use Rattle.spec_syntax.proofs.Fitting.{fit_mapped}
use Rattle.spec_syntax.proofs.Writing.{canon_mapped_more}
use Rattle.obu_descriptors.proofs.parameter.put_each.Goals as goal

pub put_param-requires-clause-fits : goal.put_param-requires-clause-fits
put_param-requires-clause-fits c =
    subst (λ (p : Param). AllFit (parameter_fields (view_param p))) (sym c.param-item.is)
    (fit_mapped parameter_fields view_param c.args.params.now c.loop-param.param-index c.param-item.result c.loop-param-test.true c.requires.fits)

pub loop-param-preserved : goal.loop-param-preserved
loop-param-preserved c =
    let more = rw (← c.param-item.is) at (canon_mapped_more parameter_fields view_param c.args.params.now c.loop-param.param-index c.param-item.result c.loop-param-test.true) in
    (c.in_ok-put_param.ensures.used, rw (c.in_ok-put_param.ensures.bits, c.loop-param.invariant.1, more, append_assoc) refl)

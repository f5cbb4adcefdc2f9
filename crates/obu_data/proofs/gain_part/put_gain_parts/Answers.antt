use Rattle.spec_blocks.specs.BlockFieldLists.{gain_fields}
use Rattle.obu_data.specs.BlockView.{view_gain_part}
use Rattle.spec_syntax.proofs.Writing.{put_more}
use Rattle.spec_syntax.proofs.Fitting.{fit_at}
use Rattle.obu_data.proofs.gain_part.put_gain_parts.Goals as goal

pub put_gain_part-requires-clause-fits : goal.put_gain_part-requires-clause-fits
put_gain_part-requires-clause-fits c = fit_at (λ part. gain_fields (view_gain_part part)) c.args.parts.now c.loop-part.part-index _ c.loop-part-test.true c.requires.fits

pub loop-part-preserved : goal.loop-part-preserved
loop-part-preserved c = (
  c.in_ok-put_gain_part.ensures.1,
  put_more (λ part. gain_fields (view_gain_part part)) c.args.parts.now c.loop-part.part-index _ _ _ _ c.loop-part-test.true c.loop-part.invariant.1 c.in_ok-put_gain_part.ensures.0,
)

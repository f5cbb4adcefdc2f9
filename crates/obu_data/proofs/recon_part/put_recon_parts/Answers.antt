use Rattle.spec_blocks.specs.BlockFieldLists.{recon_fields}
use Rattle.obu_data.specs.BlockView.{view_recon_part}
use Rattle.spec_syntax.proofs.Writing.{put_item}
use Rattle.spec_syntax.proofs.Fitting.{fit_item}
use Rattle.obu_data.proofs.recon_part.put_recon_parts.Goals as goal

pub put_recon_part-requires-clause-fits : goal.put_recon_part-requires-clause-fits
put_recon_part-requires-clause-fits c = fit_item (λ part. recon_fields (view_recon_part part)) c.args.parts.now c.loop-part.part-index c.part-item.result c.loop-part-test.true c.part-item.is c.requires.fits

pub loop-part-preserved : goal.loop-part-preserved
loop-part-preserved c = (
  c.in_ok-put_recon_part.ensures.1,
  put_item (λ part. recon_fields (view_recon_part part)) c.args.parts.now c.loop-part.part-index c.part-item.result _ _ _ c.loop-part-test.true c.part-item.is c.loop-part.invariant.1 c.in_ok-put_recon_part.ensures.0,
)

use Rattle.std.proofs.Common.{map, sym, ◌∙◌, arith}
use Rattle.std.proofs.lemmas.List.{length-map, map_push}
use Rattle.spec_syntax.proofs.Reading.{each_goes_on, each_done}
use Rattle.spec_blocks.specs.ParameterBlock.{timed_gain_in}
use Rattle.obu_data.specs.BlockView.{view_gain_part}
use Rattle.obu_data.proofs.Lists.{zip_push, sum_push}
use Rattle.obu_data.proofs.gain_part.timed_parts_of.Goals as goal

pub loop-preserved : goal.loop-preserved
loop-preserved c =
    let inv = c.loop.invariant in
    let durations = c.in_ok-push.ensures in
    let parts = c.in_ok-push-2.ensures in
    let same = inv.1 ∙ sym (length-map c.loop.parts.items view_gain_part) in (
      c.in-Ok.ensures.1,
      omega (arith, inv.1, durations.len, parts.len),
      rw (durations.ok, sum_push c.loop.durations.items c.in-Ok.timed.0) (omega (arith, inv.2, c.from-total.ensures)),
      omega (arith, inv.3, c.from-total.ensures),
      rw (durations.ok, parts.ok, map_push, zip_push c.loop.durations.items (map view_gain_part c.loop.parts.items) c.in-Ok.timed.0 (view_gain_part c.in-Ok.timed.1) same)
          (each_goes_on _ timed_gain_in _ _ _ _ _ _ _ c.loop-test.true c.in-Ok.ensures.0 inv.4),
    )

pub returns-clause-reads : goal.returns-clause-reads
returns-clause-reads c = (each_done _ timed_gain_in _ _ _ _ _ c.loop-test.false c.loop.invariant.4, c.loop.invariant.0)

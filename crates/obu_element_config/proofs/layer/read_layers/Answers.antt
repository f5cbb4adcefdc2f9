use Rattle.std.proofs.Common.{sym, arith}
use Rattle.spec_syntax.proofs.Reading.{each_goes_on, each_done}
use Rattle.spec_descriptors.specs.Layers.{layer_in, scalable_config}
use Rattle.obu_element_config.proofs.Lists.{last_layout_push}
use Rattle.std.proofs.lemmas.List.{map_push}
use Rattle.obu_element_config.proofs.layer.read_layers.Goals as goal

pub loop-i-preserved : goal.loop-i-preserved
loop-i-preserved c =
    let inv = c.loop-i.invariant in (
      c.in-Ok.ensures.1,
      rw c.in_ok-push.ensures.ok (sym (last_layout_push c.loop-i.layers.items c.in-Ok.layer)),
      omega (arith, c.in_ok-push.ensures.len),
      rw (c.in_ok-push.ensures.ok, map_push) (each_goes_on _ layer_in _ _ _ _ _ _ _ c.loop-i-test.true (rw inv.1 at c.in-Ok.ensures.0) inv.3),
    )

pub returns-clause-reads : goal.returns-clause-reads
unfolding scalable_config
returns-clause-reads c = (
  rw (c.in_ok-count.ensures.takes, c.in_ok-skip_bits.ensures.takes) (grind (arith, each_done _ layer_in _ _ _ _ _ c.loop-i-test.false c.loop-i.invariant.3)),
  c.loop-i.invariant.0,
)

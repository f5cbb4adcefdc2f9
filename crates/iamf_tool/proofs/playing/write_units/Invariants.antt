use Rattle.std.proofs.Common.{◌≡◌}
use Rattle.std.specs.List.{flat_map, range_with_len}
use Rattle.spec_play.specs.Mixes.{Rendition}
use Rattle.spec_play.specs.Playing.{unit_bytes}
use Rattle.iamf_select.specs.PlanView.{IsSelected}
use Rattle.iamf_tool.specs.Ends.{side, Wrote}
use Rattle.iamf_tool.proofs.playing.write_units.Given as goal

abbrev pub invariant-loop-u : goal.invariant-loop-u
invariant-loop-u g l = record {
  plan : l.player.plan ≡ l.fn.player.plan;
  played : l.player.played ≡ l.u;
  wrote : (r : Rendition) → IsSelected l.fn.player.plan r → Wrote (side g.W.Sink.held g.W.Sink.faults l.fn.out l.out) (flat_map (unit_bytes r) (range_with_len 0 l.u));
}

use Rattle.std.proofs.Common.{◌≡◌, ◌++◌, ℕ, List, length, sym, subst, ap, ◌∙◌, append_assoc}
use Rattle.std.specs.Prelude.{replicate}
use Rattle.std.specs.List.{flat_map, range_with_len}
use Rattle.std.specs.Io.KnownBytes.{Appends}
use Rattle.spec_waves.specs.Wave.{header_bytes, pad}
use Rattle.spec_play.specs.Mixes.{Rendition}
use Rattle.spec_play.specs.Waves.{wave_shape}
use Rattle.spec_play.specs.Playing.{unit_bytes, fixed_wave}
use Rattle.iamf_select.specs.PlanView.{PlanValue, IsSelected}
use Rattle.iamf_tool.specs.Ends.{side, Wrote, WroteFront}
use Rattle.iamf_tool.proofs.Pieces.{between, wrote_more, failed_more, failed_after, flushed, is_failed}
use Rattle.iamf_tool.proofs.playing.write_wave.Goals as goal

abbrev units : Rendition → List ℕ
units r = flat_map (unit_bytes r) (range_with_len 0 (length r.units))

abbrev padding : Rendition → List ℕ
padding r = replicate (pad (wave_shape r)) 0

regrouped : (r : Rendition) → (header_bytes (wave_shape r) ++ units r) ++ padding r ≡ fixed_wave r
regrouped r = append_assoc (header_bytes (wave_shape r)) (units r) (padding r)

pub returns-in_err-write_units : goal.returns-in_err-write_units
returns-in_err-write_units g c = λ r selected.
    let head : Wrote (side g.W.Sink.held g.W.Sink.faults c.args.out.now c.write_all.new.sink) (header_bytes (wave_shape r)) =
    record { grown = subst (λ (xs : List ℕ). Appends (g.W.Sink.held c.args.out.now) (g.W.Sink.held c.write_all.new.sink) xs) (c.wave_head.ensures r selected) c.in_ok-write_all.ensures.all; same = c.in_ok-write_all.ensures.cause.kept } in
    let front = failed_after (g.W.Sink.held c.args.out.now) (g.W.Sink.held c.write_all.new.sink) (g.W.Sink.held c.write_units.new.out) (g.W.Sink.faults c.args.out.now) (g.W.Sink.faults c.write_all.new.sink) (g.W.Sink.faults c.write_units.new.out) (header_bytes (wave_shape r)) (units r) head (c.in_err-write_units.ensures.wrote r selected) in
    is_failed c.from_residual-in_err-write_units.result (side g.W.Sink.held g.W.Sink.faults c.args.out.now c.write_units.new.out) (fixed_wave r) c.from_residual-in_err-write_units.ensures.0
    (subst (λ (xs : List ℕ). WroteFront (side g.W.Sink.held g.W.Sink.faults c.args.out.now c.write_units.new.out) xs) (regrouped r) (failed_more (g.W.Sink.held c.args.out.now) (g.W.Sink.held c.write_units.new.out) (g.W.Sink.faults c.args.out.now) (g.W.Sink.faults c.write_units.new.out) (header_bytes (wave_shape r) ++ units r) (padding r) front))

pub returns-in_err-write_pad : goal.returns-in_err-write_pad
returns-in_err-write_pad g c = λ r selected.
    let head : Wrote (side g.W.Sink.held g.W.Sink.faults c.args.out.now c.write_all.new.sink) (header_bytes (wave_shape r)) =
    record { grown = subst (λ (xs : List ℕ). Appends (g.W.Sink.held c.args.out.now) (g.W.Sink.held c.write_all.new.sink) xs) (c.wave_head.ensures r selected) c.in_ok-write_all.ensures.all; same = c.in_ok-write_all.ensures.cause.kept } in
    let both = wrote_more (g.W.Sink.held c.args.out.now) (g.W.Sink.held c.write_all.new.sink) (g.W.Sink.held c.write_units.new.out) (g.W.Sink.faults c.args.out.now) (g.W.Sink.faults c.write_all.new.sink) (g.W.Sink.faults c.write_units.new.out) (header_bytes (wave_shape r)) (units r) head (c.in_ok-write_units.ensures.wrote r selected) in
    let still : IsSelected c.write_units.new.player.plan r = subst (λ (p : PlanValue). IsSelected p r) (sym c.write_units.ensures.plan) selected in
    let front = failed_after (g.W.Sink.held c.args.out.now) (g.W.Sink.held c.write_units.new.out) (g.W.Sink.held c.write_pad.new.out) (g.W.Sink.faults c.args.out.now) (g.W.Sink.faults c.write_units.new.out) (g.W.Sink.faults c.write_pad.new.out) (header_bytes (wave_shape r) ++ units r) (padding r) both (c.in_err-write_pad.ensures r still) in
    is_failed c.from_residual-in_err-write_pad.result (side g.W.Sink.held g.W.Sink.faults c.args.out.now c.write_pad.new.out) (fixed_wave r) c.from_residual-in_err-write_pad.ensures.0
    (subst (λ (xs : List ℕ). WroteFront (side g.W.Sink.held g.W.Sink.faults c.args.out.now c.write_pad.new.out) xs) (regrouped r) front)

pub returns : goal.returns
returns g c = λ r selected.
    let head : Wrote (side g.W.Sink.held g.W.Sink.faults c.args.out.now c.write_all.new.sink) (header_bytes (wave_shape r)) =
    record { grown = subst (λ (xs : List ℕ). Appends (g.W.Sink.held c.args.out.now) (g.W.Sink.held c.write_all.new.sink) xs) (c.wave_head.ensures r selected) c.in_ok-write_all.ensures.all; same = c.in_ok-write_all.ensures.cause.kept } in
    let both = wrote_more (g.W.Sink.held c.args.out.now) (g.W.Sink.held c.write_all.new.sink) (g.W.Sink.held c.write_units.new.out) (g.W.Sink.faults c.args.out.now) (g.W.Sink.faults c.write_all.new.sink) (g.W.Sink.faults c.write_units.new.out) (header_bytes (wave_shape r)) (units r) head (c.in_ok-write_units.ensures.wrote r selected) in
    let still : IsSelected c.write_units.new.player.plan r = subst (λ (p : PlanValue). IsSelected p r) (sym c.write_units.ensures.plan) selected in
    let all = wrote_more (g.W.Sink.held c.args.out.now) (g.W.Sink.held c.write_units.new.out) (g.W.Sink.held c.write_pad.new.out) (g.W.Sink.faults c.args.out.now) (g.W.Sink.faults c.write_units.new.out) (g.W.Sink.faults c.write_pad.new.out) (header_bytes (wave_shape r) ++ units r) (padding r) both (c.in_ok-write_pad.ensures r still) in
    let whole : Wrote (side g.W.Sink.held g.W.Sink.faults c.args.out.now c.write_pad.new.out) (fixed_wave r) = subst (λ (xs : List ℕ). Wrote (side g.W.Sink.held g.W.Sink.faults c.args.out.now c.write_pad.new.out) xs) (regrouped r) all in
    flushed c.flush.result (g.W.Sink.held c.args.out.now) (g.W.Sink.held c.write_pad.new.out) (g.W.Sink.held c.flush.new.self) (g.W.Sink.faults c.args.out.now) (g.W.Sink.faults c.write_pad.new.out) (g.W.Sink.faults c.flush.new.self) (fixed_wave r) whole c.flush.ensures.bytes c.flush.ensures.cause

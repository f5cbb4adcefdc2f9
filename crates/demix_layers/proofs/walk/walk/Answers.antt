use Rattle.std.proofs.Common.{arith, suc, ◌≡◌, ◌+◌, length, ap, ◌∙◌, sym}
use Rattle.spec_gains.specs.Modes.{coefficients_of}
use Rattle.spec_demix.specs.Sent.{sent_at, bed_of}
use Rattle.spec_demix.specs.ExactWalk.{exact_first, exact_after}
use Rattle.demix_channels.proofs.SeenLayers.{seen, are_modest}
use Rattle.demix_channels.proofs.Standing.{sent_within}
use Rattle.demix_layers.proofs.WalkLemmas.{bed_sent, walk_next, first_is, next_is, before_is, now_is}
use Rattle.demix_layers.proofs.walk.walk.Goals as goal

pub bed-begun-requires-clause-within : goal.bed-begun-requires-clause-within
bed-begun-requires-clause-within c =
    let layers = c.args.layers.now in
    let e = c.sent_first-first.ensures ∙ first_is layers c.demix_layer.result (omega arith) c.demix_layer.ensures.value in
    rw e (sent_within (seen layers) c.args.target (length c.args.coded.now) 0 c.requires.chain (are_modest layers c.args.target c.requires.gains) c.requires.room (omega arith))

pub bed_begins-all-requires-clause-sent : goal.bed_begins-all-requires-clause-sent
bed_begins-all-requires-clause-sent c =
    let layers = c.args.layers.now in
    let e = c.sent_first-first.ensures ∙ first_is layers c.demix_layer.result (omega arith) c.demix_layer.ensures.value in
    let w = sent_within (seen layers) c.args.target (length c.args.coded.now) 0 c.requires.chain (are_modest layers c.args.target c.requires.gains) c.requires.room (omega arith) in
    rw (c.bed-begun.ensures, e) (bed_sent c.args.coded.now (sent_at (seen layers) 0) w c.requires.samples)

pub loop-i-init : goal.loop-i-init
loop-i-init c =
    let layers = c.args.layers.now in
    let e = c.sent_first-first.ensures ∙ first_is layers c.demix_layer.result (omega arith) c.demix_layer.ensures.value in
    record {
      value = c.bed_begins-all.ensures.value
          ∙ ap (λ sent. exact_first (coefficients_of c.args.params.mode) sent) (c.bed-begun.ensures ∙ ap (λ sent. bed_of c.args.coded.now sent) e);
      within = c.bed_begins-all.ensures.within;
    }

pub bed-sent-requires-clause-within : goal.bed-sent-requires-clause-within
bed-sent-requires-clause-within c =
    let layers = c.args.layers.now in
    let i = c.loop-i.i in
    let n : i + 1 ≡ suc i = omega arith in
    let e = c.sent_next-next.ensures ∙ next_is layers i c.kind-before.result c.demix_layer-new.result c.channel_count.result (omega arith) c.kind-before.ensures.value (rw n at c.demix_layer-new.ensures.value) c.channel_count.ensures in
    rw e (sent_within (seen layers) c.args.target (length c.args.coded.now) (suc i) c.requires.chain (are_modest layers c.args.target c.requires.gains) c.requires.room (omega arith))

pub bed_step-all-requires-clause-sent : goal.bed_step-all-requires-clause-sent
bed_step-all-requires-clause-sent c =
    let layers = c.args.layers.now in
    let i = c.loop-i.i in
    let n : i + 1 ≡ suc i = omega arith in
    let e = c.sent_next-next.ensures ∙ next_is layers i c.kind-before.result c.demix_layer-new.result c.channel_count.result (omega arith) c.kind-before.ensures.value (rw n at c.demix_layer-new.ensures.value) c.channel_count.ensures in
    let w = sent_within (seen layers) c.args.target (length c.args.coded.now) (suc i) c.requires.chain (are_modest layers c.args.target c.requires.gains) c.requires.room (omega arith) in
    rw (c.bed-sent.ensures, e) (bed_sent c.args.coded.now (sent_at (seen layers) (suc i)) w c.requires.samples)

pub loop-i-preserved : goal.loop-i-preserved
loop-i-preserved c =
    let layers = c.args.layers.now in
    let coded = c.args.coded.now in
    let mode = coefficients_of c.args.params.mode in
    let i = c.loop-i.i in
    let n : i + 1 ≡ suc i = omega arith in
    let new = rw n at c.demix_layer-new.ensures.value in
    let e = c.sent_next-next.ensures ∙ next_is layers i c.kind-before.result c.demix_layer-new.result c.channel_count.result (omega arith) c.kind-before.ensures.value new c.channel_count.ensures in
    let b = before_is layers i c.kind-before.result (omega arith) c.kind-before.ensures.value in
    let k = now_is layers (suc i) c.kind.result c.demix_layer-new.result (omega arith) c.kind.ensures.value new in
    record {
      value = c.bed_step-all.ensures.value
          ∙ ap (λ all. exact_after c.kind-before.result c.kind.result mode c.args.params.weight all c.bed-sent.result) c.loop-i.invariant.value
          ∙ (rw (c.bed-sent.ensures, e, b, k, n) (sym (rw n at (walk_next (seen layers) mode c.args.params.weight coded i))));
      within = c.bed_step-all.ensures.within;
    }

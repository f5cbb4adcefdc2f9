use Rattle.std.proofs.Common.{arith, ◌≡◌, ◌<◌, ◌≤◌, ◌+◌, length, ◌∙◌, sym, ap, ◌++◌, ◌∷◌, []}
use Rattle.std.proofs.lemmas.List.{length-set, length-take-le, take_more_set}
use Rattle.demix_channels.proofs.SeenLayers.{seen}
use Rattle.mix_fixed.proofs.KeptLayers.{few, one_more, kernel_is, target_kept}
use Rattle.mix_fixed.proofs.kernel.Kernel.new.Goals as goal

pub bounds-kept-i : goal.bounds-kept-i
bounds-kept-i c = let f = few (seen c.args.layers.now) c.args.target c.requires.chain in omega arith

pub loop-i-preserved : goal.loop-i-preserved
loop-i-preserved c =
    let i = c.loop-i.i in
    let f = few (seen c.args.layers.now) c.args.target c.requires.chain in
    let h : i < length c.loop-i.kept = rw c.loop-i.invariant.long (omega arith) in
    record {
      long = length-set c.loop-i.kept i c.demix_layer.result ∙ c.loop-i.invariant.long;
      kept = take_more_set c.loop-i.kept i c.demix_layer.result h
          ∙ ap (λ front. front ++ c.demix_layer.result ∷ []) c.loop-i.invariant.kept
          ∙ (rw c.demix_layer.ensures.value (sym (one_more c.args.layers.now i _ (omega arith))));
    }

pub invariant_of-result : goal.invariant_of-result
invariant_of-result c =
    let e : c.loop-i.i ≡ c.args.target + 1 = omega arith in
    let k = rw e at c.loop-i.invariant.kept in (
      rw k (kernel_is c.args.layers.now c.args.target c.origins_of-origins.result c.requires.target c.requires.chain c.requires.gains (rw k at c.origins_of-origins.ensures)),
      record { scaled_is = c.scaled_bed-scaled.ensures; most_is = c.most_of.ensures },
    )

pub returns-clause-channels : goal.returns-clause-channels
returns-clause-channels c =
    let e : c.loop-i.i ≡ c.args.target + 1 = omega arith in
    let k = rw e at c.loop-i.invariant.kept in
    rw k (target_kept c.args.layers.now c.args.target c.requires.target)

pub origins_of-origins-requires : goal.origins_of-origins-requires
origins_of-origins-requires c =
    let f = few (seen c.args.layers.now) c.args.target c.requires.chain in
    let room : c.args.target + 1 ≤ length c.loop-i.kept = rw c.loop-i.invariant.long (omega arith) in
    rw (length-take-le (c.args.target + 1) c.loop-i.kept room) (omega arith)

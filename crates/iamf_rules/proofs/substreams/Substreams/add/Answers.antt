use Rattle.std.proofs.Common.{◌≡◌, sym, take, arith}
use Rattle.std.proofs.lemmas.Grind.{common_steps}
use Rattle.iamf_rules.proofs.Slots.{has_some-step, has_none}
use Rattle.iamf_rules.proofs.substreams.Substreams.add.Goals as goal

pub loop-i-init : goal.loop-i-init
loop-i-init c = λ fresh. has_none c.args.self.now.slots c.args.ids.now _

pub returns : goal.returns
returns c = λ fresh.
    let all : take c.loop-i.i c.args.ids.now ≡ c.args.ids.now = grind (arith, common_steps) in
    rw all at (c.loop-i.invariant fresh)

pub loop-i-preserved : goal.loop-i-preserved
loop-i-preserved c = λ fresh.
    let e = c.in_ok-add_one.ensures {u = tt} in
    has_some-step c.args.self.now.slots c.loop-i.self.slots c.add_one.new.self.slots c.args.ids.now _ c.loop-i.i c.loop-i-test.true fresh (c.loop-i.invariant fresh)
    (rw (sym c.channel_at.ensures) e.slots) e.count

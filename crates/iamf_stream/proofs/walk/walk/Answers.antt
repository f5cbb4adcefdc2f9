use Rattle.std.proofs.Common.{List, ℕ, arith}
use Rattle.iamf_stream.specs.Standing.{Passed}
use Rattle.iamf_stream.proofs.Walking.{step_at, walk_on, walk_waits, walk_ends, within_stream}
use Rattle.iamf_stream.proofs.walk.walk.Goals as goal

pub overflow_add-at : goal.overflow_add-at
overflow_add-at c =
    let stream : List ℕ = c.requires.0 in
    let passed : Passed c.args.admission.now c.args.place c.args.bytes.now stream = c.requires.1 in
    let on = walk_on c.admit_front.new.admission c.in-Ok.done _ c.args.place c.loop-at.at c.args.bytes.now stream c.in-Admitted.is c.loop-at.invariant.within (step_at _ c.admit_front.new.admission c.in-Ok.done _ c.loop-at.at c.args.bytes.now stream c.in-Ok.ensures (c.loop-at.invariant.passed stream passed)) in
    omega (arith, on.1, c.requires.2, within_stream _ _ _ _ _ passed on.1)

pub loop-at-smaller : goal.loop-at-smaller
loop-at-smaller c =
    let stream : List ℕ = c.requires.0 in
    let on = walk_on c.admit_front.new.admission c.in-Ok.done _ c.args.place c.loop-at.at c.args.bytes.now stream c.in-Admitted.is c.loop-at.invariant.within (step_at _ c.admit_front.new.admission c.in-Ok.done _ c.loop-at.at c.args.bytes.now stream c.in-Ok.ensures (c.loop-at.invariant.passed stream c.requires.1)) in
    omega (arith, on.0, on.1, c.loop-at-test.true)

pub loop-at-preserved : goal.loop-at-preserved
loop-at-preserved c = record {
  within = (walk_on c.admit_front.new.admission c.in-Ok.done _ c.args.place c.loop-at.at c.args.bytes.now c.requires.0 c.in-Admitted.is c.loop-at.invariant.within (step_at _ c.admit_front.new.admission c.in-Ok.done _ c.loop-at.at c.args.bytes.now c.requires.0 c.in-Ok.ensures (c.loop-at.invariant.passed c.requires.0 c.requires.1))).1;
  passed = λ stream p. (walk_on c.admit_front.new.admission c.in-Ok.done _ c.args.place c.loop-at.at c.args.bytes.now stream c.in-Admitted.is c.loop-at.invariant.within (step_at _ c.admit_front.new.admission c.in-Ok.done _ c.loop-at.at c.args.bytes.now stream c.in-Ok.ensures (c.loop-at.invariant.passed stream p))).2;
}

pub returns-in-Partial-clause-walks : goal.returns-in-Partial-clause-walks
returns-in-Partial-clause-walks c = λ stream p.
    walk_waits _ _ _ _ _ _ _ c.in-Partial.is c.loop-at.invariant.within (step_at _ c.admit_front.new.admission c.in-Ok.done _ c.loop-at.at c.args.bytes.now stream c.in-Ok.ensures (c.loop-at.invariant.passed stream p))

pub returns-clause-walks : goal.returns-clause-walks
returns-clause-walks c = λ stream p. walk_ends _ _ _ _ _ c.loop-at.invariant.within c.loop-at-test.false (c.loop-at.invariant.passed stream p)

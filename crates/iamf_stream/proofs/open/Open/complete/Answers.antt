use Rattle.std.proofs.Common.{◌++◌, take, arith, length-append}
use Rattle.iamf_stream.proofs.Pieces.{room_for_rest, takes_on, fails_on}
use Rattle.iamf_stream.proofs.open.Open.complete.Goals as goal

pub fill-requires-clause-room : goal.fill-requires-clause-room
fill-requires-clause-room c = room_for_rest c.loop-at.self c.requires.0 c.args.piece.now c.loop-at.at c.requires.2 (c.loop-at.invariant.stands c.requires.0 c.requires.1)

pub overflow_add-at : goal.overflow_add-at
overflow_add-at c =
    let on = takes_on c.fill.new.self c.in-Ok.count c.loop-at.at c.args.piece.now c.requires.0 c.loop-at.invariant.within (c.in-Ok.ensures (c.requires.0 ++ take c.loop-at.at c.args.piece.now) (c.loop-at.invariant.stands c.requires.0 c.requires.1)) in
    omega (arith, on.1, c.requires.2, length-append c.requires.0 c.args.piece.now)

pub loop-at-smaller : goal.loop-at-smaller
loop-at-smaller c =
    let on = takes_on c.fill.new.self c.in-Ok.count c.loop-at.at c.args.piece.now c.requires.0 c.loop-at.invariant.within (c.in-Ok.ensures (c.requires.0 ++ take c.loop-at.at c.args.piece.now) (c.loop-at.invariant.stands c.requires.0 c.requires.1)) in
    omega (arith, on.0, on.1, c.loop-at-test.true)

pub loop-at-preserved : goal.loop-at-preserved
loop-at-preserved c = record {
  within = (takes_on c.fill.new.self c.in-Ok.count c.loop-at.at c.args.piece.now c.requires.0 c.loop-at.invariant.within (c.in-Ok.ensures (c.requires.0 ++ take c.loop-at.at c.args.piece.now) (c.loop-at.invariant.stands c.requires.0 c.requires.1))).1;
  stands = λ stream st. (takes_on c.fill.new.self c.in-Ok.count c.loop-at.at c.args.piece.now stream c.loop-at.invariant.within (c.in-Ok.ensures (stream ++ take c.loop-at.at c.args.piece.now) (c.loop-at.invariant.stands stream st))).2;
}

pub returns-in-Err : goal.returns-in-Err
returns-in-Err c = λ stream st. fails_on c.in-Err.error c.loop-at.at c.args.piece.now stream (c.in-Err.ensures (stream ++ take c.loop-at.at c.args.piece.now) (c.loop-at.invariant.stands stream st))

-- What a binary search finds among frames whose substreams rise.
use Rattle.std.proofs.Common.{rules}
use Rattle.std.proofs.lemmas.List.Sorted.{answers_always}
use Rattle.iamf_sequence.proofs.Frames.{key, found_at, found_none}
use Rattle.iamf_sequence.proofs.unit.frame_in.Goals as goal

pub returns-in-Ok : goal.returns-in-Ok
returns-in-Ok c = found_at c.args.substream c.args.frames.now c.in-Ok.i _ c.in-Ok.ensures.bound (c.in-Ok.ensures.position key (answers_always _ _ _ (λ f a r g h. search rules)))

pub returns-in-Err : goal.returns-in-Err
returns-in-Err c = found_none c.args.substream c.args.frames.now c.in-Err.field-0 (c.in-Err.ensures.position key (answers_always _ _ _ (λ f a r g h. search rules)))

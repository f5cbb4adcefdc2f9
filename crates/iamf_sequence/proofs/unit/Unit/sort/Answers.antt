-- A stable sort of frames of distinct substreams finds the same frames.
use Rattle.std.proofs.Common.{rules, refl}
use Rattle.std.proofs.lemmas.List.Sorted.{answers_always}
use Rattle.iamf_sequence.specs.declared.unit.Unit as temporal
use Rattle.iamf_sequence.proofs.Frames.{key, sort_says}
use Rattle.iamf_sequence.proofs.unit.Unit.sort.Goals as goal

pub returns : goal.returns
returns c =
    let new : temporal.Unit = record { trim = c.args.self.now.trim; frames = c.sort_by_key.new.self; blocks = c.args.self.now.blocks } in
    sort_says c.sort_by_key.result _ _ c.args.self.now new refl refl c.sort_by_key.ensures.permutation (answers_always _ _ _ (λ f a r g h. search rules)) c.sort_by_key.ensures.sorted
    (c.sort_by_key.ensures.stable key (answers_always _ _ _ (λ f a r g h. search rules)))

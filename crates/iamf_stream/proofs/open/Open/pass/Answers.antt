use Rattle.std.proofs.Common.{◌≡◌, ℕ, List, ◌++◌, drop, refl, ap, ◌∙◌, arith}
use Rattle.std.proofs.lemmas.Grind.{common_steps}
use Rattle.iamf_stream.proofs.Walking.{rest_all}
use Rattle.iamf_stream.proofs.Pieces.{stands_after, place_fits, passed_piece}
use Rattle.iamf_stream.proofs.open.Open.pass.Goals as goal

pub overflow_add-self : goal.overflow_add-self
overflow_add-self c = omega (arith, place_fits _ _ _ _ _ (c.in-Ok.ensures.walks (c.requires.room.0 ++ c.args.piece.now) (passed_piece c.args.self.now c.args.piece.now c.requires.room.0 c.requires.none c.requires.room.1)), c.requires.room.2)

pub returns-in-Ok-extend_from_slice : goal.returns-in-Ok-extend_from_slice
returns-in-Ok-extend_from_slice c = λ stream st.
    let items : c.extend_from_slice.new.self.items ≡ drop c.in-Ok.walked.admitted c.args.piece.now = c.in-Ok-extend_from_slice.ensures.ok ∙ rw c.clear.ensures.items (rest_all c.args.piece.now c.in-Ok.walked.admitted) in
    stands_after _ c.in-Ok.walked _ c.args.piece.now (stream ++ c.args.piece.now) (c.in-Ok.ensures.walks (stream ++ c.args.piece.now) (passed_piece c.args.self.now c.args.piece.now stream c.requires.none st)) refl items refl

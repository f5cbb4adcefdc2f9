use Rattle.std.proofs.Common.{[], ◌∷◌, arith, refl}
use Rattle.flac_checksums.proofs.Folding.{one_more_word}
use Rattle.flac_checksums.proofs.fold.step.Goals as goal

pub returns : goal.returns
returns c =
    let s = c.args.words in
    one_more_word s.a s.b s.o s.p c.args.word (s.c ∷ s.d ∷ s.e ∷ s.f ∷ s.g ∷ s.h ∷ s.i ∷ s.j ∷ s.k ∷ s.l ∷ s.m ∷ s.n ∷ []) refl (omega arith) (omega arith) (omega arith) (omega arith)

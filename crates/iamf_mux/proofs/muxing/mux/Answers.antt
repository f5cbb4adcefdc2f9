use Rattle.std.proofs.Common.{ℕ, List, sym, subst}
use Rattle.std.proofs.lemmas.Result.{IfOk-weaker}
use Rattle.spec_bodies.specs.SequenceFile.{IsFileOf}
use Rattle.iamf_sequence.proofs.ReadAgain.{only_memory}
use Rattle.iamf_mux.proofs.Movies.{file_holds_body}
use Rattle.iamf_mux.proofs.muxing.mux.Goals as goal

pub memory-requires : goal.memory-requires
memory-requires c = only_memory c.bytes.result.now c.args.sequence.now.entries c.in-Err.error c.bytes.ensures.reads c.in-Err.ensures.refused

pub returns-in-Ok-clause-holds : goal.returns-in-Ok-clause-holds
returns-in-Ok-clause-holds c =
    let v = c.args.sequence.now in
    let whole = c.movie.ensures.file c.bytes.result.now c.in-Ok.ensures.body in
    IfOk-weaker c.write_movie.result _ _
    (λ f is. file_holds_body v.bytes f.items c.requires (subst (λ (b : List ℕ). IsFileOf b f.items) c.bytes.ensures.same (subst (λ (b : List ℕ). IsFileOf c.bytes.result.now b) (sym is) whole))) c.write_movie.ensures.file

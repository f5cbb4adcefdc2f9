use Rattle.std.proofs.Common.{List, ℕ, subst, sym, ap, arith, length, Result, Ok, Err}
use Rattle.std.specs.Prelude.{IfOk}
use Rattle.spec_boxes.specs.Laws.{Holds}
use Rattle.spec_files.specs.Laws.{IsSmall}
use Rattle.spec_files.proofs.FileLaw.{file_holds}
use Rattle.mp4_file.specs.declared.movie.Movie.{Movie}
use Rattle.mp4_file.specs.Views.{movie_of}
use Rattle.mp4_file.proofs.UnitCounts.{count_is, data_is}
use Rattle.mp4_file.proofs.file.write_movie.Goals as goal

small_of : (m : Movie) → IsSmall (movie_of m)
small_of m = record { bytes = omega (arith, m.bytes, ap length (data_is m)); units = omega (arith, m.units, count_is m) }

if_ok : {A F : Type 0} (r : Result A F) (P Q : A → Type 0) → IfOk r P → ((x : A) → P x → Q x) → IfOk r Q
if_ok (Ok x) P Q h k = k x h
if_ok (Err e) P Q h k = tt

pub returns-clause-holds : goal.returns-clause-holds
returns-clause-holds c =
    let m = movie_of c.args.movie.now in
    if_ok c.put_file.result _ _ c.put_file.ensures (λ v h body. subst (λ (f : List ℕ). Holds f m.descriptors m.units) (sym h) (file_holds m (small_of c.args.movie.now) body))

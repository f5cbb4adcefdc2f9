use Rattle.std.proofs.Common.{arith, refl, ◌++◌}
use Rattle.std.specs.Prelude.{◌==◌}
use Rattle.spec_files.specs.Pieces.{word}
use Rattle.spec_files.specs.MovieFile.{count}
use Rattle.spec_files.proofs.Measured.{length-stbl, length-stts, length-stsc, length-stsz, length-stco, length-rows}
use Rattle.mp4_file.specs.Views.{movie_of}
use Rattle.mp4_file.proofs.sizes.stbl_len.Goals as goal

pub returns-clause-exact : goal.returns-clause-exact
returns-clause-exact c =
    λ place.
    let m = movie_of c.args.movie.now in
    let times = word 0 ++ word 0 in
    let chunks = word 0 ++ (word 0 ++ word 0) in
    omega (
      arith,
      length-stbl m place,
      length-stts m,
      length-stsc m,
      length-stsz m,
      length-stco m place,
      c.stsd_len.ensures.exact,
      c.stsz_len.ensures.exact,
      c.table_len.ensures.exact times refl,
      c.table_len-2.ensures.exact chunks refl,
      c.table_len-3.ensures.exact (word 0) refl,
      length-rows (count m == 0) times,
      length-rows (count m == 0) chunks,
      length-rows (count m == 0) (word 0),
    )

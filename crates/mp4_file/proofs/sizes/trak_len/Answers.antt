use Rattle.std.proofs.Common.{arith}
use Rattle.std.specs.Prelude.{◌==◌, ◌*◌}
use Rattle.spec_files.specs.MovieFile.{count}
use Rattle.spec_files.proofs.Measured.{length-trak, edit_len}
use Rattle.mp4_file.specs.Views.{movie_of}
use Rattle.mp4_file.proofs.sizes.trak_len.Goals as goal

pub returns-clause-exact : goal.returns-clause-exact
returns-clause-exact c =
    λ place.
    let m = movie_of c.args.movie.now in
    omega (arith, length-trak m place, edit_len (m.kept == count m * m.frame_length) m, c.edts_len.ensures.exact, c.mdia_len.ensures.exact place)

use Rattle.std.proofs.Common.{arith}
use Rattle.spec_files.proofs.Measured.{length-mdia}
use Rattle.mp4_file.specs.Views.{movie_of}
use Rattle.mp4_file.proofs.sizes.mdia_len.Goals as goal

pub returns-clause-exact : goal.returns-clause-exact
returns-clause-exact c = λ place. omega (arith, length-mdia (movie_of c.args.movie.now) place, c.minf_len.ensures.exact place)

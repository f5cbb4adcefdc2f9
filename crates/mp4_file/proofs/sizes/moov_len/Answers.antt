use Rattle.std.proofs.Common.{arith}
use Rattle.spec_files.proofs.Measured.{length-moov}
use Rattle.mp4_file.specs.Views.{movie_of}
use Rattle.mp4_file.proofs.sizes.moov_len.Goals as goal

pub returns-clause-exact : goal.returns-clause-exact
returns-clause-exact c = λ place. omega (arith, length-moov (movie_of c.args.movie.now) place, c.trak_len.ensures.exact place)

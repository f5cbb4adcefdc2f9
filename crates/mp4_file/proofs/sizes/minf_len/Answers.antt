use Rattle.std.proofs.Common.{arith}
use Rattle.spec_files.proofs.Measured.{length-minf}
use Rattle.mp4_file.specs.Views.{movie_of}
use Rattle.mp4_file.proofs.sizes.minf_len.Goals as goal

pub returns-clause-exact : goal.returns-clause-exact
returns-clause-exact c = λ place. omega (arith, length-minf (movie_of c.args.movie.now) place, c.stbl_len.ensures.exact place)

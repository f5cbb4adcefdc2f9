use Rattle.std.proofs.Common.{arith}
use Rattle.spec_files.proofs.Measured.{length-stsd}
use Rattle.mp4_file.specs.Views.{movie_of}
use Rattle.mp4_file.proofs.sizes.stsd_len.Goals as goal

pub returns-clause-exact : goal.returns-clause-exact
returns-clause-exact c = omega (arith, length-stsd (movie_of c.args.movie.now), c.entry_len.ensures.exact)

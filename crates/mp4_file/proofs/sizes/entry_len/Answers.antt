use Rattle.std.proofs.Common.{arith}
use Rattle.spec_files.proofs.Measured.{length-entry}
use Rattle.mp4_file.specs.Views.{movie_of}
use Rattle.mp4_file.proofs.sizes.entry_len.Goals as goal

pub returns-clause-exact : goal.returns-clause-exact
returns-clause-exact c = omega (arith, length-entry (movie_of c.args.movie.now), c.iacb_len.ensures.exact)

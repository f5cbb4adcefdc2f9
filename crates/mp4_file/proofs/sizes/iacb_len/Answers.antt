use Rattle.std.proofs.Common.{arith}
use Rattle.spec_files.proofs.Measured.{length-iacb}
use Rattle.mp4_file.specs.Views.{movie_of}
use Rattle.mp4_file.proofs.sizes.iacb_len.Goals as goal

pub returns-clause-exact : goal.returns-clause-exact
returns-clause-exact c =
    let number = rw c.descriptors_len-descriptors.ensures.exact at c.leb_len.ensures.exact in
    omega (arith, length-iacb (movie_of c.args.movie.now), number, c.descriptors_len-descriptors.ensures.exact)

use Rattle.std.proofs.Common.{ap}
use Rattle.spec_files.specs.MovieFile.{file}
use Rattle.iamf_mux.proofs.Movies.{movie_whole, movie_small, movie_is}
use Rattle.iamf_mux.proofs.body.Body.movie.Goals as goal

pub invariant_of-result : goal.invariant_of-result
invariant_of-result c =
    let b = c.args.self.now in
    let h = c.requires in
    let small = movie_small b h.0 h.1 c.deref.result.now c.deref-2.result.now c.deref-3.result.now c.deref.ensures.value c.deref-2.ensures.value c.deref-3.ensures.value in
    record { whole = movie_whole b h.0 h.1 c.deref-2.result.now c.deref-3.result.now c.deref-2.ensures.value c.deref-3.ensures.value; bytes = small.0; units = small.1 }

pub returns-clause-file : goal.returns-clause-file
returns-clause-file c = λ bytes is. record {
  obus = is.obus;
  bytes_are = is.bytes_are;
  are = is.are;
  written_is = ap file (movie_is c.args.self.now bytes is c.deref.result.now c.deref-2.result.now c.deref-3.result.now c.deref.ensures.value c.deref-2.ensures.value c.deref-3.ensures.value);
}

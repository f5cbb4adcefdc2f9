-- What is seen of a movie.
use Rattle.spec_files.specs.MovieFile as written
use Rattle.mp4_file.specs.declared.movie.Movie.{Movie}
use Rattle.mp4_file.specs.Slices.{joined, cut}

abbrev pub movie_of : Movie → written.Movie
movie_of m = record {
  descriptors = joined m.descriptors.now;
  units = cut m.unit_lengths.now (joined m.data.now);
  frame_length = m.frame_length;
  sample_rate = m.sample_rate;
  trimmed = m.trimmed;
  kept = m.kept;
}

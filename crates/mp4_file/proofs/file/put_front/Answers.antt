use Rattle.std.proofs.Common.{append_assoc, ap, ◌+◌}
use Rattle.std.specs.Prelude.{codes}
use Rattle.spec_files.specs.MovieFile.{all_units}
use Rattle.mp4_file.specs.Views.{movie_of}
use Rattle.mp4_file.proofs.UnitCounts.{data_is}
use Rattle.mp4_file.proofs.Boxes.{box_is, file_is}
use Rattle.mp4_file.proofs.file.put_front.Goals as goal

pub returns : goal.returns
returns c =
    let m = movie_of c.args.movie.now in
    rw (c.in_ok-put_head.ensures, c.in_ok-put_moov.ensures, c.in_ok-put_ftyp.ensures)
    (rw (file_is m c.front_len.result c.front_len.ensures.exact, box_is (codes "mdat") (all_units m) (8 + c.data_len.result) (ap (λ n. 8 + n) c.data_len.ensures.exact), data_is c.args.movie.now) (simp append_assoc))

-- A track has as many samples as its tables say.
use Rattle.std.proofs.Common.{◌≡◌, ℕ, List, length, map, true, sym, ◌∙◌}
use Rattle.std.proofs.lemmas.List.{length-map}
use Rattle.spec_boxes.specs.Tables.{runs_of, agree}
use Rattle.spec_boxes.specs.Tracks.{sample_bytes}
use Rattle.spec_boxes.proofs.Counts.{count_is}
use Rattle.mp4_boxes.specs.declared.stsz.Sizes.{Sizes}
use Rattle.mp4_boxes.specs.declared.stco.Places.{Places}
use Rattle.mp4_boxes.specs.declared.stsc.Runs.{Runs}
use Rattle.mp4_boxes.specs.TableViews.{span_list}

pub counted : (f : List ℕ) (s : Sizes) (p : Places) (r : Runs) → agree (runs_of r.count r.bytes.now 8) p.count s.count ≡ true → s.count ≡ length (map (sample_bytes f) (span_list s p r))
counted f s p r h = sym (length-map (span_list s p r) (sample_bytes f) ∙ count_is p.wide p.count p.bytes.now (runs_of r.count r.bytes.now 8) s.common s.count s.bytes.now h)

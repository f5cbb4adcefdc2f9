-- What is seen of a table.
use Rattle.std.specs.Prelude.{List}
use Rattle.spec_boxes.specs.Tables.{SampleSizes, size_list, ChunkPlaces, place_list, Run, runs_of, chunk_counts}
use Rattle.spec_boxes.specs.Spans.{Span, spans}
use Rattle.mp4_boxes.specs.declared.stsz.Sizes.{Sizes}
use Rattle.mp4_boxes.specs.declared.stco.Places.{Places}
use Rattle.mp4_boxes.specs.declared.stsc.Runs.{Runs}

abbrev pub sizes_of : Sizes → SampleSizes
sizes_of s = record { count = s.count; sizes = size_list s.common s.count s.bytes.now }

abbrev pub places_of : Places → ChunkPlaces
places_of s = record { count = s.count; places = place_list s.wide s.count s.bytes.now }

abbrev pub run_list : Runs → List Run
run_list r = runs_of r.count r.bytes.now 8

-- where the samples lie
abbrev pub span_list : Sizes → Places → Runs → List Span
span_list s p r = spans (place_list p.wide p.count p.bytes.now) (chunk_counts (runs_of r.count r.bytes.now 8) p.count) (size_list s.common s.count s.bytes.now)

-- The audio track of a file, read box by box, or the first rule that fails.
use Rattle.std.specs.Prelude.{ℕ, ◌+◌, Bool, if◌then◌else◌, List, [], ◌∷◌, length, map, slice_range, Result, Ok}
use Rattle.spec_bits.specs.ByteReading.{◌>>=◌}
use Rattle.spec_boxes.specs.declared.fault.BoxFault.TheVariants.{Chunk, Sample}
use Rattle.spec_boxes.specs.declared.fault.BoxRefusal.{BoxRefusal}
use Rattle.spec_boxes.specs.Boxes.{Box, refuse, ◌>>◌}
use Rattle.spec_boxes.specs.Paths.{found_at}
use Rattle.spec_boxes.specs.Tables.{chunk_counts}
use Rattle.spec_boxes.specs.TablesAt.{Tables, tables_at}
use Rattle.spec_boxes.specs.Spans.{Span, spans, fit}
use Rattle.spec_boxes.specs.Edits.{edits_at}
use Rattle.spec_boxes.specs.Groups.{groups_at}
use Rattle.spec_boxes.specs.ObuLists.{are_obus, in_sample}
use Rattle.spec_boxes.specs.Configuration.{config_at}

-- The samples.
abbrev pub sample_bytes : List ℕ → Span → List ℕ
sample_bytes f s = slice_range f s.0 (s.0 + s.1)

abbrev pub samples_at : List ℕ → List Span → Result (Unit {0}) BoxRefusal
samples_at f [] = Ok tt
samples_at f (s ∷ rest) = if are_obus in_sample (sample_bytes f s) then samples_at f rest else refuse s.0 Sample

abbrev pub spans_of : Tables → List Span
spans_of t = spans t.places.places (chunk_counts t.runs t.places.count) t.sizes.sizes

-- a track: its box, its configuration and its samples
pub record Track : Type 0 where
  pub trak : Box
  pub config : List ℕ
  pub samples : List (List ℕ)

-- All rules, in order.
unfoldable pub track_at : Bool → List ℕ → Result Track BoxRefusal
track_at whole f = do
  way ← found_at whole f
  tables ← tables_at f way.stbl.at way.in_stbl
  edits_at f way.in_trak
  groups_at f tables.sizes.count way.in_stbl
  config ← config_at f way.entry
  if fit (length f) (length f) (spans_of tables) then Ok tt else refuse tables.boxes.chunks.at Chunk
  samples_at f (spans_of tables)
  Ok (record { trak = way.trak; config = config; samples = map (sample_bytes f) (spans_of tables) })

-- The rules on the tables, in their order.
use Rattle.std.specs.Prelude.{ℕ, List, Result, Ok}
use Rattle.spec_boxes.specs.declared.fault.BoxRefusal.{BoxRefusal}
use Rattle.spec_bits.specs.ByteReading.{◌>>=◌}
use Rattle.spec_boxes.specs.Boxes.{Box, ◌>>◌}
use Rattle.spec_boxes.specs.Tables.{payload, TableBoxes, SampleSizes, ChunkPlaces, Run, tables_in, has_version, one_description, sizes_at, places_at, stts_at, runs_at}

pub record Tables : Type 0 where
  pub boxes : TableBoxes
  pub sizes : SampleSizes
  pub places : ChunkPlaces
  pub runs : List Run

unfoldable pub tables_at : List ℕ → ℕ → List Box → Result Tables BoxRefusal
tables_at f place bs = do
  t ← tables_in place bs
  has_version t.stsd (payload f t.stsd)
  has_version t.stts (payload f t.stts)
  has_version t.stsc (payload f t.stsc)
  has_version t.stsz (payload f t.stsz)
  has_version t.chunks (payload f t.chunks)
  one_description t.stsd (payload f t.stsd)
  sizes ← sizes_at t.stsz (payload f t.stsz)
  places ← places_at t.chunks (payload f t.chunks)
  stts_at t.stts (payload f t.stts) sizes.count
  runs ← runs_at t.stsc (payload f t.stsc) places.count sizes.count
  Ok (record { boxes = t; sizes = sizes; places = places; runs = runs })

-- What is seen of a place among the samples.
use Rattle.std.specs.Prelude.{◌≡◌, ℕ, ◌+◌, ◌*◌, ◌<◌, ◌≤◌, List, [], ◌∷◌, ◌++◌, length, take, drop, slice_range}
use Rattle.mp4_boxes.specs.declared.cursor.Cursor.{Cursor}
use Rattle.mp4_boxes.specs.declared.cursor.Step.{Step}
use Rattle.mp4_boxes.specs.declared.cursor.Step.TheVariants.{End, Sample, Outside}
use Rattle.spec_boxes.specs.Bytes.{word_at}
use Rattle.spec_boxes.specs.Tables.{counts_from}
use Rattle.spec_boxes.specs.Spans.{Span, lay, spans, sizes_from, places_from, runs_from}

abbrev pub sizes_left : Cursor → List ℕ
sizes_left c = sizes_from c.sizes.common c.sizes.count c.sizes.bytes.now c.sample

abbrev pub places_left : Cursor → List ℕ
places_left c = places_from c.places.wide c.places.count c.places.bytes.now c.chunk

abbrev pub counts_left : Cursor → List ℕ
counts_left c = counts_from (c.chunk + 1) c.each (runs_from c.runs.count c.runs.bytes.now c.run) c.places.count

-- the samples that are left
abbrev pub spans_left : Cursor → List Span
spans_left c = lay c.place (take c.left (sizes_left c)) ++ spans (places_left c) (counts_left c) (drop c.left (sizes_left c))

-- what a step does
abbrev pub Steps : Cursor → Step → Cursor → Type 0
Steps old End new = spans_left old ≡ []
Steps old (Sample at bytes) new = (spans_left old ≡ (at, length bytes.now) ∷ spans_left new) × (at + length bytes.now ≤ length old.file.now) × (bytes.now ≡ slice_range old.file.now at (at + length bytes.now))
Steps old Outside new = (at : ℕ) × (size : ℕ) × (rest : List Span) × (spans_left old ≡ (at, size) ∷ rest) × (length old.file.now < at + size)

-- the next run begins with the chunk
pub record Turns (c : Cursor) (chunk : ℕ) : Type 0 where
  pub more : c.run < c.runs.count
  pub first : word_at c.runs.bytes.now (8 + 12 * c.run) ≡ chunk

-- a sample is passed
abbrev pub Onward : Cursor → Step → Cursor → Type 0
Onward old End new = Unit {0}
Onward old (Sample at bytes) new = (new.sample ≡ old.sample + 1) × (new.sizes.count ≡ old.sizes.count) × (old.sample < old.sizes.count)
Onward old Outside new = Unit {0}

-- What writing the payload of an OBU gives.
use Rattle.std.specs.Prelude.{◌≡◌, ℕ, ◌≤◌, ◌^◌, List, ◌++◌, length}
use Rattle.spec_bits.specs.Bits.{Bits, all_bits}
use Rattle.spec_syntax.specs.Payload.{canon}
use Rattle.spec_obu.specs.Header.{Head}
use Rattle.spec_values.specs.Content as said
use Rattle.spec_blocks.specs.Shape.{Definition}
use Rattle.spec_values.specs.Content.{Context, fields_of}
use Rattle.spec_values.specs.Value.{ObuValue}
use Rattle.spec_values.specs.Canonical.{canonical_obu}
use Rattle.iamf_obu.specs.declared.content.Content.{Content}
use Rattle.iamf_obu.specs.declared.content.Content.TheVariants.{SequenceHeader, CodecConfig, AudioElement, MixPresentation, ParameterBlock, TemporalDelimiter, AudioFrame, Reserved}
use Rattle.obu_data.specs.BlockView.{bytes_after}
use Rattle.iamf_obu.specs.ContentView.{Holds}

abbrev pub context : ℕ → List Definition → Context
context frame_length definitions = record { frame_length = frame_length; definitions = definitions }

abbrev pub value_of : Head → said.Content → List ℕ → ObuValue
value_of head c tail = record { head = head; content = c; tail = tail }

-- the canonical spelling of the OBU with this head and this content is no longer than an OBU may be
abbrev pub IsShort : Head → Content → Type 0
IsShort head content = (c : said.Content) (tail : List ℕ) → Holds content c tail → length (canonical_obu (value_of head c tail)) ≤ 2 ^ 21

-- the bits are put after the ones so far
abbrev pub PutsObu : Head → Content → Bits → Bits → Type 0
PutsObu head content old new = (c : said.Content) (tail : List ℕ) → Holds content c tail → new ≡ old ++ all_bits (canonical_obu (value_of head c tail))

-- the bytes after the fields, and after the tags of a mix presentation
abbrev pub rest_bytes : Content → List ℕ
rest_bytes (SequenceHeader h) = h.tail.now
rest_bytes (CodecConfig r) = r.tail.now
rest_bytes (AudioElement e) = e.value.tail.now
rest_bytes (MixPresentation m) = m.value.tail.now
rest_bytes (ParameterBlock b) = bytes_after b
rest_bytes (TemporalDelimiter bytes) = bytes.now
rest_bytes (AudioFrame f) = f.bytes.now
rest_bytes (Reserved bytes) = bytes.now

-- The bytes are the canonical fields of the content and then its tail, in an OBU of the type, in two parts.
abbrev pub SpellsPayload : ℕ → Content → List ℕ → List ℕ → Type 0
SpellsPayload kind content front rest = (c : said.Content) (tail : List ℕ) → Holds content c tail → all_bits (front ++ rest) ≡ canon (fields_of kind c) ++ all_bits tail

-- The bytes are what comes before the rest, but of a frame.
abbrev pub SpellsFront : Content → List ℕ → Type 0
SpellsFront (AudioFrame f) front = Unit {0}
SpellsFront content front = (kind : ℕ) → SpellsPayload kind content front (rest_bytes content)

-- RFC 9639, section 9.1 (frame header).
use Rattle.std.specs.Prelude.{ℕ, ◌+◌, ◌-◌, ◌*◌, ◌/◌, ◌^◌, not, List, [], ◌∷◌, if◌then◌else◌, nat_lt, ◌==◌, slice_index}
use Rattle.spec_bits.specs.Form.{Number}
use Rattle.spec_syntax.specs.Syntax.{Syntax, End, Choice, field, check, seen, refuse, in_turn, ◌>>=◌, ◌>>◌}
use Rattle.spec_checksums.specs.Polynomials.{crc_8_of}
use Rattle.spec_flac.specs.declared.fault.FlacField.TheVariants as number
use Rattle.spec_flac.specs.declared.fault.FlacFault.{FlacFault}
use Rattle.spec_flac.specs.declared.fault.FlacFault.TheVariants as fault
use Rattle.spec_flac.specs.declared.shape.FlacShape.{FlacShape}

-- ---- 9.1.1 to 9.1.4

pub record Codes : Type 0 where
  pub block_size : ℕ
  pub sample_rate : ℕ

unfoldable pub codes : Syntax FlacFault Codes
codes = do
  sync_code ← field (Number 14) (refuse fault.Header (λ v. not (v == 0x3ffe)) ∷ [])
  reserved ← field (Number 1) (refuse fault.Header (λ v. not (v == 0)) ∷ [])
  blocking_strategy ← field (Number 1) []
  block_size_bits ← field (Number 4) (refuse fault.Header (λ v. v == 0) ∷ [])
  sample_rate_bits ← field (Number 4) (refuse fault.Header (λ v. v == 15) ∷ [])
  End (record { block_size = block_size_bits; sample_rate = sample_rate_bits })

pub record Kinds : Type 0 where
  pub channels : ℕ
  pub bit_depth : ℕ

unfoldable pub kinds : Syntax FlacFault Kinds
kinds = do
  channels_bits ← field (Number 4) (refuse fault.Header (λ v. nat_lt 10 v) ∷ [])
  bit_depth_bits ← field (Number 3) (refuse fault.Header (λ v. v == 3) ∷ [])
  reserved ← field (Number 1) (refuse fault.Header (λ v. not (v == 0)) ∷ [])
  End (record { channels = channels_bits; bit_depth = bit_depth_bits })

-- ---- 9.1.5: the coded number, whose value is not used

-- how many bytes follow a first byte
abbrev pub more_bytes : ℕ → ℕ
more_bytes v =
    if nat_lt v 128 then 0
    else if nat_lt v 224 then 1
    else if nat_lt v 240 then 2
    else if nat_lt v 248 then 3
    else if nat_lt v 252 then 4
    else if nat_lt v 254 then 5
    else 6

unfoldable pub further_byte : Syntax FlacFault (Unit {0})
further_byte = do
  byte ← field (Number 8) (refuse fault.Header (λ v. not (v / 64 == 2)) ∷ [])
  End tt

unfoldable pub further : ℕ → Syntax FlacFault (Unit {0})
further count = in_turn count (λ _ _. further_byte) tt

unfoldable pub coded_number : Syntax FlacFault (Unit {0})
coded_number = do
  first ← field (Number 8) (refuse fault.Header (λ v. v / 64 == 2) ∷ refuse fault.Header (λ v. v == 255) ∷ [])
  further (more_bytes first)

-- ---- 9.1.1 and 9.1.6: the block size

abbrev pub block_size_of : ℕ → ℕ
block_size_of code = if code == 1 then 192 else if nat_lt code 6 then 576 * 2 ^ (code - 2) else 2 ^ code

unfoldable pub block_size : ℕ → Syntax FlacFault ℕ
block_size code =
    Choice (code == 6) (do
      uncommon ← field (Number 8) []
      End (uncommon + 1))
    (Choice (code == 7) (do
      uncommon ← field (Number 16) []
      End (uncommon + 1))
    (End (block_size_of code)))

-- ---- 9.1.2 and 9.1.7: the sample rate

abbrev pub rates : List ℕ
rates = 0 ∷ 88200 ∷ 176400 ∷ 192000 ∷ 8000 ∷ 16000 ∷ 22050 ∷ 24000 ∷ 32000 ∷ 44100 ∷ 48000 ∷ 96000 ∷ []

unfoldable pub sample_rate : FlacShape → ℕ → Syntax FlacFault ℕ
sample_rate shape code =
    Choice (code == 0) (End shape.rate)
    (Choice (code == 12) (do
      uncommon ← field (Number 8) []
      End (uncommon * 1000))
    (Choice (code == 13) (field (Number 16) [])
    (Choice (code == 14) (do
      uncommon ← field (Number 16) []
      End (uncommon * 10))
    (End (slice_index rates code)))))

-- ---- the numbers of the shape

abbrev pub channels_of : ℕ → ℕ
channels_of code = if nat_lt code 8 then code + 1 else 2

abbrev pub depths : List ℕ
depths = 0 ∷ 8 ∷ 12 ∷ 0 ∷ 16 ∷ 20 ∷ 24 ∷ 32 ∷ []

abbrev pub depth_of : FlacShape → ℕ → ℕ
depth_of shape code = if code == 0 then shape.depth else slice_index depths code

unfoldable pub matches : FlacShape → ℕ → ℕ → Kinds → Syntax FlacFault (Unit {0})
matches shape size rate kinds = do
  check (fault.Mismatch number.Length size shape.length) (not (size == shape.length))
  check (fault.Mismatch number.Rate rate shape.rate) (not (rate == shape.rate))
  check (fault.Mismatch number.Channels (channels_of kinds.channels) shape.channels) (not (channels_of kinds.channels == shape.channels))
  check (fault.Mismatch number.Depth (depth_of shape kinds.bit_depth) shape.depth) (not (depth_of shape kinds.bit_depth == shape.depth))

-- ---- 9.1.8

unfoldable pub header_crc : Syntax FlacFault (Unit {0})
header_crc = do
  before ← seen
  crc ← field (Number 8) (refuse fault.Crc8 (λ v. not (v == crc_8_of before)) ∷ [])
  End tt

-- the codes, and the coded number
pub record Front : Type 0 where
  pub codes : Codes
  pub kinds : Kinds

unfoldable pub front : Syntax FlacFault Front
front = do
  codes ← codes
  kinds ← kinds
  coded_number
  End (record { codes = codes; kinds = kinds })

-- the numbers that the codes do not hold, and their tests
unfoldable pub numbers : FlacShape → Front → Syntax FlacFault (Unit {0})
numbers shape front = do
  size ← block_size front.codes.block_size
  rate ← sample_rate shape front.codes.sample_rate
  matches shape size rate front.kinds

-- the header, and its channels bits
unfoldable pub header : FlacShape → Syntax FlacFault ℕ
header shape = do
  front ← front
  numbers shape front
  header_crc
  End front.kinds.channels

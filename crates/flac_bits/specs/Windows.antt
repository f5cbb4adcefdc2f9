-- Bits of a buffer on top of a word.
use Rattle.std.specs.Prelude.{◌≡◌, ℕ, ◌+◌, ◌-◌, ◌*◌, ◌^◌, ◌≤◌, ◌⊎◌, List, length, take, drop, Option, Some, None}
use Rattle.spec_bits.specs.Bits.{Bits, number_of, all_bits}
use Rattle.flac_bits.specs.Ones.{first_one}
use Rattle.flac_bits.specs.Places.{capped}
use Rattle.flac_bits.specs.declared.window.Window.{Window}
use Rattle.flac_bits.specs.declared.window.Zeros.{Zeros}

-- so many of the bits stand on top of a word of 64 bits, zeros after them
pub record IsTop (word count : ℕ) (bits : Bits) : Type 0 where
  pub few : count ≤ 64
  pub inside : count ≤ length bits
  pub value : word ≡ number_of (take count bits) * 2 ^ (64 - count)

-- the place of the first bit in a window, in bits from the start of the bytes
abbrev pub place_of : Window → ℕ
place_of w = 8 * w.next - w.count

-- the window holds the bits of the bytes from its place on, up to a byte
pub record IsWindow (bytes : List ℕ) (w : Window) : Type 0 where
  pub within : w.next ≤ length bytes
  pub behind : w.count ≤ 8 * w.next
  pub top : IsTop w.word w.count (drop (place_of w) (all_bits bytes))

-- the window holds as many bits as it can
abbrev pub IsFull : List ℕ → Window → Type 0
IsFull bytes w = (57 ≤ w.count) ⊎ (w.next ≡ length bytes)

-- The window after the bits, which were so many.
pub record IsAfter (w next : Window) (count : ℕ) : Type 0 where
  pub place : (bytes : List ℕ) → IsWindow bytes w → place_of next ≡ place_of w + count
  pub is : (bytes : List ℕ) → IsWindow bytes w → IsWindow bytes next

-- how many zeros stand before the next one, and the window after it
abbrev pub PassesOne : Option Zeros → List ℕ → ℕ → Type 0
PassesOne None bytes place = first_one (drop place (all_bits bytes)) ≡ None
PassesOne (Some z) bytes place = (n : ℕ) × (first_one (drop place (all_bits bytes)) ≡ Some n) × (z.count ≡ capped n) × (place_of z.window ≡ place + n + 1) × IsWindow bytes z.window

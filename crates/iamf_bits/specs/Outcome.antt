-- What readers of parts of payloads answer.
use Rattle.std.specs.Prelude.{◌≡◌, Result, Ok, Err}
use Rattle.spec_bits.specs.Cursor.{Cursor, IsOnByte}
use Rattle.iamf_bits.specs.declared.unread.Unread.{Unread}
use Rattle.iamf_bits.specs.declared.unread.Unread.TheVariants.{Fault, Memory}

-- the value and the place after it, on a byte, or the first fault
abbrev pub TakesPart : {V W F : Type 0} → (V → W) → Result V F → Cursor → Result (W × Cursor) F → Type 0
TakesPart view (Ok v) new read = (read ≡ Ok (view v, new)) × IsOnByte new
TakesPart view (Err f) new read = read ≡ Err f

-- the same where memory is taken, unless it ran out
abbrev pub ReadsPart : {V W F : Type 0} → (V → W) → Result V (Unread F) → Cursor → Result (W × Cursor) F → Type 0
ReadsPart view (Ok v) new read = (read ≡ Ok (view v, new)) × IsOnByte new
ReadsPart view (Err (Fault f)) new read = read ≡ Err f
ReadsPart view (Err (Memory e)) new read = Unit {0}

-- the same want of memory, or what a function gives of the fault
abbrev pub map_unread : {F G : Type 0} → (F → G) → Unread F → Unread G
map_unread of (Fault f) = Fault (of f)
map_unread of (Memory e) = Memory e

-- the same of a function that is called
abbrev pub Maps : {M F G : Type 0} → (M → F → G → Type 0) → M → Unread F → Unread G → Type 0
Maps gives of (Fault f) (Fault g) = gives of f g
Maps gives of (Memory e) (Memory d) = e ≡ d
Maps gives of _ _ = ⊥

-- it is a fault, and one of these
abbrev pub HoldsFault : {F : Type 0} → (F → Type 0) → Unread F → Type 0
HoldsFault is (Fault f) = is f
HoldsFault is (Memory e) = ⊥

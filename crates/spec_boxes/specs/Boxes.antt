-- Boxes: a box in a part of a file, and the boxes that tile a part.
use Rattle.std.specs.Prelude.{◌≡◌, ℕ, zero, suc, ◌+◌, ◌-◌, ◌==◌, nat_lt, Bool, ◌||◌, if◌then◌else◌, List, [], ◌∷◌, Result, Ok, Err}
use Rattle.spec_boxes.specs.declared.fault.BoxFault.{BoxFault}
use Rattle.spec_boxes.specs.declared.fault.BoxFault.TheVariants.{BoxSize}
use Rattle.spec_boxes.specs.declared.fault.BoxRefusal.{BoxRefusal}
use Rattle.spec_bits.specs.ByteReading.{◌>>=◌}
use Rattle.spec_boxes.specs.Bytes.{word_at, long_at, kind_at}

-- A box in a file: it begins at `at`, its payload at `start`, and both end at `end`.
pub record Box : Type 0 where
  pub at : ℕ
  pub start : ℕ
  pub end : ℕ
  pub kind : List ℕ

infixl 10 ◌>>◌
abbrev pub ◌>>◌ : {B F : Type 0} → Result (Unit {0}) F → Result B F → Result B F
(Ok x) >> r = r
(Err e) >> r = Err e

-- what a call answered is what reading gives
abbrev pub Gives : {A B F : Type 0} → (A → B) → Result A F → Result B F → Type 0
Gives view (Ok x) read = read ≡ Ok (view x)
Gives view (Err f) read = read ≡ Err f

abbrev pub refuse : {A : Type 0} → ℕ → BoxFault → Result A BoxRefusal
refuse at fault = Err (record { at = at; fault = fault })

-- a box whose header and size are known
abbrev pub sized : List ℕ → ℕ → ℕ → ℕ → ℕ → Result Box BoxRefusal
sized f at header size end =
    if nat_lt size header || nat_lt (end - at) size then refuse at BoxSize
    else Ok (record { at = at; start = at + header; end = at + size; kind = kind_at f (at + 4) })

-- the box at a place of a part that ends at `end`
unfoldable pub box_at : Bool → List ℕ → ℕ → ℕ → Result Box BoxRefusal
box_at top f at end =
    if nat_lt (end - at) 8 then refuse at BoxSize
    else if word_at f at == 1 then (if nat_lt (end - at) 16 then refuse at BoxSize else sized f at 16 (long_at f (at + 8)) end)
    else if word_at f at == 0 then (if top then sized f at 8 (end - at) end else refuse at BoxSize)
    else sized f at 8 (word_at f at) end

-- at most n boxes, end to end
abbrev pub boxes : ℕ → Bool → List ℕ → ℕ → ℕ → Result (List Box) BoxRefusal
boxes zero top f at end = Ok []
boxes (suc n) top f at end = if nat_lt at end then (box_at top f at end >>= λ b. boxes n top f b.end end >>= λ bs. Ok (b ∷ bs)) else Ok []

-- The boxes that cover a part end to end, or the first place where no box is. Each has a byte at least.
unfoldable pub tiles : Bool → List ℕ → ℕ → ℕ → Result (List Box) BoxRefusal
tiles top f at end = boxes (end - at) top f at end

-- the boxes, where there are
abbrev pub boxes_in : Result (List Box) BoxRefusal → List Box
boxes_in (Ok bs) = bs
boxes_in (Err e) = []

-- a call says whether boxes were read
abbrev pub Covers : Result (Unit {0}) BoxRefusal → Result (List Box) BoxRefusal → Type 0
Covers (Ok _) read = read ≡ Ok (boxes_in read)
Covers (Err e) read = read ≡ Err e

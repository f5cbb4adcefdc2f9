-- Where the bytes of a file lie, and the boxes in it that were written.
use Rattle.std.proofs.Common.{◌≡◌, ℕ, suc, ◌+◌, ◌-◌, ◌*◌, ◌/◌, ◌%◌, ◌^◌, ◌<◌, ◌≤◌, Bool, true, false, cond, nat_lt, List, [], ◌∷◌, ◌++◌, length, get_or, Option, Some, None, Result, Ok, refl, sym, ap, subst, ◌∙◌, arith, append_assoc, length-append}
use Rattle.std.specs.Prelude.{◌==◌, ◌&&◌, slice_range, find, filter}
use Rattle.std.proofs.lemmas.Bool.{le-ltb, ne_eqb, eqb-true}
use Rattle.std.proofs.lemmas.List.{append-nil}
use Rattle.std.proofs.Math.Seq.{drop-append_seam, take-append_seam}
use Rattle.spec_boxes.specs.declared.fault.BoxRefusal.{BoxRefusal}
use Rattle.spec_boxes.specs.Bytes.{word_at, kind_at}
use Rattle.spec_bits.specs.ByteReading.{◌>>=◌}
use Rattle.spec_boxes.specs.Boxes.{Box, box_at, tiles}
use Rattle.spec_boxes.specs.Parts.{kind_is, either_is, exactly_one, children}
use Rattle.spec_boxes.specs.Tables.{payload}
use Rattle.spec_boxes.proofs.Tiles.{tiles_end, tiles_next}
use Rattle.spec_files.specs.Pieces.{word, Piece, box, written, piece_is, piece_either, fours}

-- the bytes of a file from a place on begin with these
pub record Lies (f : List ℕ) (at : ℕ) (bytes : List ℕ) : Type 0 where
  pub before : List ℕ
  pub after : List ℕ
  pub is : f ≡ before ++ (bytes ++ after)
  pub here : at ≡ length before

pub lies_whole : (f xs : List ℕ) → f ≡ xs → Lies f 0 xs
lies_whole f xs is = record { before = []; after = []; is = is ∙ sym (append-nil xs); here = refl }

pub lies_left : (f : List ℕ) (at : ℕ) (xs ys : List ℕ) → Lies f at (xs ++ ys) → Lies f at xs
lies_left f at xs ys l = record { before = l.before; after = ys ++ l.after; is = l.is ∙ ap (λ (z : List ℕ). l.before ++ z) (append_assoc xs ys l.after); here = l.here }

pub lies_right : (f : List ℕ) (at : ℕ) (xs ys : List ℕ) (to : ℕ) → to ≡ at + length xs → Lies f at (xs ++ ys) → Lies f to ys
lies_right f at xs ys to there l = record {
  before = l.before ++ xs;
  after = l.after;
  is = l.is ∙ ap (λ (z : List ℕ). l.before ++ z) (append_assoc xs ys l.after) ∙ sym (append_assoc l.before xs (ys ++ l.after));
  here = there ∙ ap (λ (k : ℕ). k + length xs) l.here ∙ sym (length-append l.before xs);
}

pub lies_within : (f : List ℕ) (at : ℕ) (bytes : List ℕ) → Lies f at bytes → at + length bytes ≤ length f
lies_within f at bytes l = omega (arith, ap length l.is, length-append l.before (bytes ++ l.after), length-append bytes l.after, l.here)

pub lies_slice : (f : List ℕ) (at end : ℕ) (bytes : List ℕ) → end ≡ at + length bytes → Lies f at bytes → slice_range f at end ≡ bytes
lies_slice f at end bytes past l =
    let e : end - at ≡ length bytes = omega arith in
    rw (e, l.is, l.here, drop-append_seam l.before (bytes ++ l.after)) (take-append_seam bytes l.after)

behind : (pre ys : List ℕ) (i : ℕ) → get_or (pre ++ ys) (length pre + i) 0 ≡ get_or ys i 0
behind [] ys i = let e : 0 + i ≡ i = omega arith in rw e refl
behind (x ∷ pre) ys i = let e : suc (length pre) + i ≡ suc (length pre + i) = omega arith in rw e (behind pre ys i)

behind_0 : (pre ys : List ℕ) → get_or (pre ++ ys) (length pre) 0 ≡ get_or ys 0 0
behind_0 [] ys = refl
behind_0 (x ∷ pre) ys = behind_0 pre ys

digits : (x : ℕ) → x < 2 ^ 32 → x / 0x1000000 % 256 * 0x1000000 + x / 0x10000 % 256 * 0x10000 + x / 0x100 % 256 * 0x100 + x % 256 ≡ x
digits x small = omega arith

pub word_read : (pre post : List ℕ) (x : ℕ) → x < 2 ^ 32 → word_at (pre ++ (word x ++ post)) (length pre) ≡ x
word_read pre post x small =
    rw (behind_0 pre (word x ++ post), behind pre (word x ++ post) 1, behind pre (word x ++ post) 2, behind pre (word x ++ post) 3) (digits x small)

-- a number that lies at a place is read there
pub word_lies : (f post : List ℕ) (at x : ℕ) → x < 2 ^ 32 → Lies f at (word x ++ post) → word_at f at ≡ x
word_lies f post at x small l = rw (l.is, l.here, append_assoc (word x) post l.after) (word_read l.before (post ++ l.after) x small)

four_bytes : (k post : List ℕ) → length k ≡ 4 → get_or (k ++ post) 0 0 ∷ get_or (k ++ post) 1 0 ∷ get_or (k ++ post) 2 0 ∷ get_or (k ++ post) 3 0 ∷ [] ≡ k
four_bytes [] post four = absurd (omega arith)
four_bytes (a ∷ []) post four = absurd (omega arith)
four_bytes (a ∷ b ∷ []) post four = absurd (omega arith)
four_bytes (a ∷ b ∷ c ∷ []) post four = absurd (omega arith)
four_bytes (a ∷ b ∷ c ∷ d ∷ []) post four = refl
four_bytes (a ∷ b ∷ c ∷ d ∷ e ∷ k) post four = absurd (omega arith)

kind_read : (pre k post : List ℕ) → length k ≡ 4 → kind_at (pre ++ (k ++ post)) (length pre) ≡ k
kind_read pre k post four =
    rw (behind_0 pre (k ++ post), behind pre (k ++ post) 1, behind pre (k ++ post) 2, behind pre (k ++ post) 3) (four_bytes k post four)

pub kind_lies : (f k post : List ℕ) (at : ℕ) → length k ≡ 4 → Lies f at (k ++ post) → kind_at f at ≡ k
kind_lies f k post at four l = rw (l.is, l.here, append_assoc k post l.after) (kind_read l.before k (post ++ l.after) four)

-- the box that a piece makes
abbrev pub placed : ℕ → Piece → Box
placed at p = record { at = at; start = at + 8; end = at + (8 + length p.body); kind = p.kind }

abbrev pub placed_all : ℕ → List Piece → List Box
placed_all at [] = []
placed_all at (p ∷ ps) = placed at p ∷ placed_all (at + (8 + length p.body)) ps

pub length-box : (kind body : List ℕ) → length kind ≡ 4 → length (box kind body) ≡ 8 + length body
length-box kind body four = omega (arith, length-append kind body)

pub box_read : (top : Bool) (f : List ℕ) (at end : ℕ) (p : Piece) → length p.kind ≡ 4 → Lies f at (box p.kind p.body) → 8 + length p.body < 2 ^ 32 → at + (8 + length p.body) ≤ end
    → box_at top f at end ≡ Ok (placed at p)
unfolding box_at
box_read top f at end p four l small room =
    let w : word_at f at ≡ 8 + length p.body = word_lies f (p.kind ++ p.body) at (8 + length p.body) small l in
    let k : kind_at f (at + 4) ≡ p.kind = kind_lies f p.kind p.body (at + 4) four (lies_right f at (word (8 + length p.body)) (p.kind ++ p.body) (at + 4) refl l) in
    let enough : nat_lt (end - at) 8 ≡ false = le-ltb _ _ (omega arith) in
    let one : (8 + length p.body == 1) ≡ false = ne_eqb _ _ (λ h. omega arith) in
    let none : (8 + length p.body == 0) ≡ false = ne_eqb _ _ (λ h. omega arith) in
    let head : nat_lt (8 + length p.body) 8 ≡ false = le-ltb _ _ (omega arith) in
    let all : nat_lt (end - at) (8 + length p.body) ≡ false = le-ltb _ _ (omega arith) in
    rw (enough, w, one, none, head, all, k) refl

-- a box of the file that a piece made
pub record IsBox (f : List ℕ) (b : Box) (p : Piece) : Type 0 where
  pub kind : b.kind ≡ p.kind
  pub lies : Lies f b.start p.body
  pub end : b.end ≡ b.start + length p.body

abbrev pub AreBoxes : List ℕ → List Box → List Piece → Type 0
AreBoxes f [] [] = Unit {0}
AreBoxes f (b ∷ bs) (p ∷ ps) = IsBox f b p × AreBoxes f bs ps
AreBoxes f [] (p ∷ ps) = ⊥
AreBoxes f (b ∷ bs) [] = ⊥

and_true : (a b : Bool) → (a && b) ≡ true → (a ≡ true) × (b ≡ true)
and_true true b h = (refl, h)
and_true false b h = cc

pub placed_is : (f : List ℕ) (at : ℕ) (p : Piece) → length p.kind ≡ 4 → Lies f at (box p.kind p.body) → IsBox f (placed at p) p
placed_is f at p four l =
    let after_size : Lies f (at + 4) (p.kind ++ p.body) = lies_right f at (word (8 + length p.body)) (p.kind ++ p.body) (at + 4) refl l in
    record {
      kind = refl;
      lies = lies_right f (at + 4) p.kind p.body (at + 8) (omega arith) after_size;
      end = omega arith;
    }

pub placed_are : (f : List ℕ) (at : ℕ) (ps : List Piece) → fours ps ≡ true → Lies f at (written ps) → AreBoxes f (placed_all at ps) ps
placed_are f at [] four l = tt
placed_are f at (p ∷ ps) four l =
    let a = and_true _ _ four in
    let k : length p.kind ≡ 4 = eqb-true (length p.kind) 4 a.0 in (
      placed_is f at p k (lies_left f at (box p.kind p.body) (written ps) l),
      placed_are f (at + (8 + length p.body)) ps a.1 (lies_right f at (box p.kind p.body) (written ps) (at + (8 + length p.body)) (ap (λ (n : ℕ). at + n) (sym (length-box p.kind p.body k))) l),
    )

-- boxes that were written end to end tile the part that they take
pub tiles_written : (top : Bool) (f : List ℕ) (ps : List Piece) (at end : ℕ)
    → fours ps ≡ true → Lies f at (written ps) → end ≡ at + length (written ps) → length (written ps) < 2 ^ 32
    → tiles top f at end ≡ Ok (placed_all at ps)
tiles_written top f [] at end four l past small = tiles_end top f at end (omega arith)
tiles_written top f (p ∷ ps) at end four l past small =
    let a = and_true _ _ four in
    let k : length p.kind ≡ 4 = eqb-true (length p.kind) 4 a.0 in
    let n : length (box p.kind p.body ++ written ps) ≡ 8 + length p.body + length (written ps) = omega (arith, length-append (box p.kind p.body) (written ps), length-box p.kind p.body k) in
    let read : box_at top f at end ≡ Ok (placed at p) = box_read top f at end p k (lies_left f at (box p.kind p.body) (written ps) l) (omega (arith, n)) (omega (arith, n)) in
    let less : at < end = omega (arith, n) in
    let rest = tiles_written top f ps (at + (8 + length p.body)) end a.1
    (lies_right f at (box p.kind p.body) (written ps) (at + (8 + length p.body)) (ap (λ (j : ℕ). at + j) (sym (length-box p.kind p.body k))) l) (omega (arith, n)) (omega (arith, n)) in
    tiles_next top f at end (placed at p) less read ∙ ap (λ (x : Result (List Box) BoxRefusal). x >>= λ bs. Ok (placed at p ∷ bs)) rest

pub payload_is : (f : List ℕ) (b : Box) (p : Piece) → IsBox f b p → payload f b ≡ p.body
payload_is f b p is = lies_slice f b.start b.end p.body is.end is.lies

-- the boxes in a box, after some bytes of it
pub record Inside (f : List ℕ) (b : Box) (skip : ℕ) (ps : List Piece) : Type 0 where
  pub boxes : List Box
  pub is : children f b skip ≡ Ok boxes
  pub are : AreBoxes f boxes ps

pub inside : (f : List ℕ) (b : Box) (p : Piece) (head : List ℕ) (ps : List Piece) (skip : ℕ) → IsBox f b p → p.body ≡ head ++ written ps → skip ≡ length head → length f < 2 ^ 32 → fours ps ≡ true → Inside f b skip ps
inside f b p head ps skip is body skipped small four =
    let l : Lies f b.start (head ++ written ps) = rw body at is.lies in
    let r : Lies f (b.start + skip) (written ps) = lies_right f b.start head (written ps) (b.start + skip) (ap (λ (n : ℕ). b.start + n) skipped) l in
    let n : length p.body ≡ length head + length (written ps) = ap length body ∙ length-append head (written ps) in
    record {
      boxes = placed_all (b.start + skip) ps;
      is = tiles_written false f ps (b.start + skip) b.end four r (omega (arith, is.end, n)) (omega (arith, lies_within f (b.start + skip) (written ps) r));
      are = placed_are f (b.start + skip) ps four r;
    }

-- the first box of a kind
pub record Found (f : List ℕ) (k : List ℕ) (bs : List Box) (p : Piece) : Type 0 where
  pub box : Box
  pub is : find (kind_is k) bs ≡ Some box
  pub stands : IsBox f box p

kind_same : (f k : List ℕ) (b : Box) (q : Piece) → IsBox f b q → kind_is k b ≡ piece_is k q
kind_same f k b q is = rw is.kind refl

some_same : (A : Type 0) (a b : A) → Some a ≡ Some b → a ≡ b
some_same A a b e = cc

first_by : (t : Bool) (f k : List ℕ) (b : Box) (bs : List Box) (q : Piece) (ps : List Piece) (p : Piece) → kind_is k b ≡ t → piece_is k q ≡ t → IsBox f b q → cond t (Some q) (find (piece_is k) ps) ≡ Some p
    → (find (piece_is k) ps ≡ Some p → Found f k bs p) → Found f k (b ∷ bs) p
first_by true f k b bs q ps p h i is this later = record { box = b; is = rw h refl; stands = subst (λ (x : Piece). IsBox f b x) (some_same Piece q p this) is }
first_by false f k b bs q ps p h i is this later = let r = later this in record { box = r.box; is = rw h r.is; stands = r.stands }

pub first_found : (f k : List ℕ) (bs : List Box) (ps : List Piece) (p : Piece) → AreBoxes f bs ps → find (piece_is k) ps ≡ Some p → Found f k bs p
first_found f k [] [] p are is = cc
first_found f k [] (q ∷ ps) p are is = absurd are
first_found f k (b ∷ bs) [] p are is = absurd are
first_found f k (b ∷ bs) (q ∷ ps) p are is =
    first_by (piece_is k q) f k b bs q ps p (kind_same f k b q are.0) refl are.0 is (λ e. first_found f k bs ps p are.1 e)

abbrev pub no_piece : Option Piece
no_piece = None

abbrev pub no_box : Option Box
no_box = None

none_by : (t : Bool) (k : List ℕ) (b : Box) (bs : List Box) (q : Piece) (ps : List Piece) → kind_is k b ≡ t → piece_is k q ≡ t → cond t (Some q) (find (piece_is k) ps) ≡ no_piece
    → (find (piece_is k) ps ≡ no_piece → find (kind_is k) bs ≡ no_box) → find (kind_is k) (b ∷ bs) ≡ no_box
none_by true k b bs q ps h i this later = cc
none_by false k b bs q ps h i this later = rw h (later this)

pub none_found : (f k : List ℕ) (bs : List Box) (ps : List Piece) → AreBoxes f bs ps → find (piece_is k) ps ≡ no_piece → find (kind_is k) bs ≡ no_box
none_found f k [] [] are is = refl
none_found f k [] (q ∷ ps) are is = absurd are
none_found f k (b ∷ bs) [] are is = absurd are
none_found f k (b ∷ bs) (q ∷ ps) are is =
    none_by (piece_is k q) k b bs q ps (kind_same f k b q are.0) refl is (λ e. none_found f k bs ps are.1 e)

either_same : (f k o : List ℕ) (b : Box) (q : Piece) → IsBox f b q → either_is k o b ≡ piece_either k o q
either_same f k o b q is = rw is.kind refl

kept_by : (t : Bool) (f : List ℕ) (b : Box) (bs : List Box) (q : Piece) (ps : List Piece) → IsBox f b q → AreBoxes f bs ps → AreBoxes f (cond t (b ∷ bs) bs) (cond t (q ∷ ps) ps)
kept_by true f b bs q ps is are = (is, are)
kept_by false f b bs q ps is are = are

-- of boxes and pieces the same are taken
pub filtered : (f k o : List ℕ) (bs : List Box) (ps : List Piece) → AreBoxes f bs ps → AreBoxes f (filter (either_is k o) bs) (filter (piece_either k o) ps)
filtered f k o [] [] are = tt
filtered f k o [] (q ∷ ps) are = absurd are
filtered f k o (b ∷ bs) [] are = absurd are
filtered f k o (b ∷ bs) (q ∷ ps) are =
    rw (either_same f k o b q are.0) (kept_by (piece_either k o q) f b _ q _ are.0 (filtered f k o bs ps are.1))

-- the one box of two kinds
pub record Only (f : List ℕ) (place : ℕ) (k o : List ℕ) (bs : List Box) (p : Piece) : Type 0 where
  pub box : Box
  pub is : exactly_one place k (filter (either_is k o) bs) ≡ Ok box
  pub stands : IsBox f box p

only_of : (f : List ℕ) (place : ℕ) (k : List ℕ) (bs : List Box) (p : Piece) → AreBoxes f bs (p ∷ []) → (b : Box) × (exactly_one place k bs ≡ Ok b) × IsBox f b p
only_of f place k [] p are = absurd are
only_of f place k (b ∷ []) p are = (b, refl, are.0)
only_of f place k (b ∷ c ∷ bs) p are = absurd are.1

pub only_found : (f : List ℕ) (place : ℕ) (k o : List ℕ) (bs : List Box) (ps : List Piece) (p : Piece) → AreBoxes f bs ps → filter (piece_either k o) ps ≡ p ∷ [] → Only f place k o bs p
only_found f place k o bs ps p are one =
    let a : AreBoxes f (filter (either_is k o) bs) (p ∷ []) = rw one at (filtered f k o bs ps are) in
    let r = only_of f place k (filter (either_is k o) bs) p a in
    record { box = r.0; is = r.1; stands = r.2 }

-- The entries of a description of groups, one at a time.
use Rattle.std.proofs.Common.{◌≡◌, ℕ, suc, ◌+◌, ◌-◌, ◌<◌, ◌≤◌, Bool, true, false, List, length, refl, arith}
use Rattle.std.specs.Prelude.{◌&&◌}
use Rattle.std.proofs.lemmas.Bool.{le-leb, lt-leb}
use Rattle.spec_boxes.specs.Bytes.{word_at}
use Rattle.spec_boxes.specs.Groups.{entries_from}

pub entries_next : (n i at : ℕ) (p : List ℕ) → i < n → at + 4 ≤ length p → 2 ≤ word_at p at → at + 4 + word_at p at ≤ length p
    → entries_from (n - i) p at ≡ entries_from (n - (i + 1)) p (at + 4 + word_at p at)
entries_next n i at p less head some room =
    let e : n - i ≡ suc (n - (i + 1)) = omega arith in
    rw (e, le-leb (at + 4) (length p) head, le-leb 2 (word_at p at) some, le-leb (at + 4 + word_at p at) (length p) room) refl

pub entries_cut : (n i at : ℕ) (p : List ℕ) → i < n → length p < at + 4 → entries_from (n - i) p at ≡ false
entries_cut n i at p less cut =
    let e : n - i ≡ suc (n - (i + 1)) = omega arith in
    rw (e, lt-leb (at + 4) (length p) cut) refl

and_false : (b : Bool) → (b && false) ≡ false
and_false true = refl
and_false false = refl

pub entries_small : (n i at : ℕ) (p : List ℕ) → i < n → word_at p at < 2 → entries_from (n - i) p at ≡ false
entries_small n i at p less few =
    let e : n - i ≡ suc (n - (i + 1)) = omega arith in
    rw (e, lt-leb 2 (word_at p at) few) (and_false _)

pub entries_long : (n i at : ℕ) (p : List ℕ) → i < n → length p < at + 4 + word_at p at → entries_from (n - i) p at ≡ false
entries_long n i at p less long =
    let e : n - i ≡ suc (n - (i + 1)) = omega arith in
    rw (e, lt-leb (at + 4 + word_at p at) (length p) long) (rw and_false (and_false _))

-- A sequence has no more temporal units than bytes.
use Rattle.std.proofs.Common.{arith, ◌<◌, ◌≤◌, ◌+◌, ◌-◌, ◌^◌, ℕ, ap, Bool, true, false, if◌then◌else◌, List, [], ◌∷◌, ◌++◌, map, length, length-append}
use Rattle.std.specs.List.{fold, count_by}
use Rattle.std.proofs.lemmas.List.Sums.{count_by-le-length}
use Rattle.std.proofs.lemmas.List.{length-map}
use Rattle.spec_rules.specs.Role.{Role}
use Rattle.spec_rules.specs.Descriptors.{substreams}
use Rattle.spec_rules.specs.Units.{is_data, is_delimiter, is_delimited, is_frame_of, frames_of, delimiters, least, unit_after, placed_after, placed, unit_count}
use Rattle.spec_sequence.specs.ValueRole.{role}
use Rattle.spec_sequence.specs.Reading.{Entry, roles, AdmittedAfter}
use Rattle.iamf_sequence.specs.SequenceValue.{IsRead}

least_low : (l : List Role) (ids : List ℕ) → least (map (frames_of l) ids) ≤ length l
unfolding frames_of
least_low l [] = omega arith
least_low l (s ∷ []) = count_by-le-length (is_frame_of s) l
least_low l (s ∷ t ∷ ids) = let first : count_by (is_frame_of s) l ≤ length l = count_by-le-length (is_frame_of s) l in omega arith

after_low : (l : List Role) (o : Role) → unit_after l o ≤ length l
unfolding unit_after delimiters
after_low l o = one (is_delimited (l ++ o ∷ [])) where
  one : (b : Bool) → (if b then count_by is_delimiter (l ++ o ∷ []) - 1 else least (map (frames_of l) (substreams l))) ≤ length l
  one true = omega (arith, count_by-le-length is_delimiter (l ++ o ∷ []), length-append l (o ∷ []))
  one false = least_low l (substreams l)

abbrev next : ℕ → ℕ × Role → ℕ
next n p = p.0 + 1

one_placed : (l os : List Role) (o : Role) (b : Bool) (n : ℕ) → n ≤ length l → ((m : ℕ) → m ≤ length l + 1 → fold next m (placed_after (l ++ o ∷ []) os) ≤ length l + length (o ∷ os))
    → fold next n ((if b then (unit_after l o, o) ∷ [] else []) ++ placed_after (l ++ o ∷ []) os) ≤ length l + length (o ∷ os)
one_placed l os o true n h more = more (unit_after l o + 1) (omega (arith, after_low l o))
one_placed l os o false n h more = more n (omega arith)

placed_low : (l os : List Role) (n : ℕ) → n ≤ length l → fold next n (placed_after l os) ≤ length l + length os
placed_low l [] n h = omega arith
placed_low l (o ∷ os) n h =
    one_placed l os o (is_data o) n h
    (λ m k. let long = length-append l (o ∷ []) in let small : m ≤ length (l ++ o ∷ []) = omega (arith, long) in omega (arith, long, placed_low (l ++ o ∷ []) os m small))

units_low : (l : List Role) → unit_count l ≤ length l
unfolding unit_count placed
units_low l = omega (arith, placed_low [] l 0 (omega arith))

entries_low : (past : List Entry) (bytes : List ℕ) (es : List Entry) → AdmittedAfter past bytes es → length es ≤ length bytes
entries_low past bytes [] admitted = omega arith
entries_low past bytes (e ∷ es) (piece, rest, parts, spells, passes, more) =
    omega (arith, entries_low (past ++ e ∷ []) rest es more, ap length spells.header.bytes, ap length parts, length-append piece rest)

pub few_units : (bytes : List ℕ) (l : List Entry) → IsRead bytes l → length bytes ≤ 2 ^ 40 → unit_count (roles l) < 2 ^ 42
few_units bytes l read short =
    omega (arith, units_low (roles l), entries_low [] bytes l read.admitted, length-map l (λ (e : Entry). role e.value))

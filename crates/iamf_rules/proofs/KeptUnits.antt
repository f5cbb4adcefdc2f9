-- What is kept of the open unit goes on as OBUs come.
use Prim.Native.Nat.{suc}
use Rattle.std.proofs.Common.{◌≡◌, ◌⊎◌, ℕ, ◌+◌, ◌-◌, ◌≤◌, Bool, true, false, not, ◌&&◌, ◌||◌, cond, eqb, ltb, List, [], ◌∷◌, ◌++◌, length, map, refl, sym, ap, ap₂, ◌∙◌, inl, inr, subst, append-nil, add-one, eqb-true, ne_eqb, le_of_eq, length-append, arith}
use Rattle.std.specs.Prelude.{Option, Some, None, is_some, find, count_by}
use Rattle.std.specs.List.{flat_map, list_any, list_all}
use Rattle.std.specs.Option.{option_map, option_map_or}
use Rattle.std.proofs.lemmas.Bool.{and_parts, not-false, cases_Bool}
use Rattle.std.proofs.lemmas.Bool.Decides.{nat_tests}
use Rattle.std.proofs.lemmas.List.Folds.{list_any-append}
use Rattle.std.proofs.lemmas.List.Sums.{sum_by-append}
use Rattle.spec_obu.specs.declared.trim.Trim.{Trim}
use Rattle.spec_rules.specs.Role.{Role, Ignored, Delimiter, ParameterBlock, AudioFrame, BlockRole, FrameRole}
use Rattle.spec_rules.specs.Descriptors.{substreams, frame_length}
use Rattle.spec_rules.specs.Units.{contains, is_data, is_delimiter, trim_of, least, is_frame_of, frames_of, is_delimited, delimiters, open_unit, unit_after, placed, if_unit, in_units, in_unit, before_unit, streams_in, trims_in, trims_before}
use Rattle.spec_rules.specs.Rules.{keeps, cuts}
use Rattle.spec_rules.proofs.Basics.{or_false}
use Rattle.spec_rules.proofs.Placing.{in_units-push, find-kept, find-none, is_delimited-kept, unit_after-other, unit_after-delimiter, found-none, found-quiet}
use Rattle.spec_rules.proofs.DescriptorLists.{frame_length-push}
use Rattle.spec_rules.proofs.UnitLists.{streams_in-none, streams_in-push, trims_in-push, trims_before-push, in_unit-push, in_unit-here, streams_in-here, trims_in-here, trims_before-here, in_unit-none, trims_in-none, trims_before-none}
use Rattle.spec_rules.proofs.OpenUnits.{open_unit-delimiter, open_unit-ended, delimiters-none, open_unit-none, open_unit-quiet}
use Rattle.spec_rules.specs.Samples.{kept_up_to}
use Rattle.iamf_rules.specs.declared.open_unit.OpenUnit.{OpenUnit}
use Rattle.iamf_rules.specs.UnitSteps.{differs, kept_of, cuts_one, is_full, closed, begun, holding, with_frame, delimiting, with_delimiter, is_marked}
use Rattle.iamf_rules.specs.Standing.{AreTrims, KeepsUnitAt, KeepsUnit}
use Rattle.spec_rules.proofs.Balance.{IsBalanced, later, open_unit-frame, some_streams}
use Rattle.spec_rules.proofs.Orderly.{IsOrderly, full_by_count}
use Rattle.iamf_rules.proofs.Faulting.{FirstIs, first_is, marked_is}
use Rattle.iamf_rules.proofs.KeptSamples.{kept_up_to-here, kept_up_to-none, kept_of-trims}

or_assoc : (x y z : Bool) → (x || (y || z)) ≡ ((x || y) || z)
or_assoc true y z = refl
or_assoc false y z = refl

or_swap : (x y z : Bool) → (x || (y || z)) ≡ (y || (x || z))
or_swap true true z = refl
or_swap true false z = refl
or_swap false y z = refl

-- the kind of the first data OBU
delimited-data : (a : OpenUnit) (l : List Role) (o : Role) → KeepsUnit a l → is_data o ≡ true → is_delimiter o ≡ false → Some (is_marked a) ≡ option_map is_delimiter (find is_data (l ++ o ∷ []))
delimited-data a l o k data_obu other = one a.delimited k.delimited (first_is a l k) where
  one : (d : Option Bool) → d ≡ option_map is_delimiter (find is_data l) → FirstIs d l → Some (option_map_or (λ x. x) d false) ≡ option_map is_delimiter (find is_data (l ++ o ∷ []))
  one None e first = rw (find-none l (o ∷ []) first.0, data_obu, other) refl
  one (Some b) e first = rw (find-kept l (o ∷ []) first.0) e

found-delimiter : (l : List Role) → is_delimited (l ++ Delimiter ∷ []) ≡ true → Some true ≡ option_map is_delimiter (find is_data (l ++ Delimiter ∷ []))
unfolding is_delimited
found-delimiter l h = one (find is_data (l ++ Delimiter ∷ [])) h where
  one : (o : Option Role) → option_map_or is_delimiter o false ≡ true → Some true ≡ option_map is_delimiter o
  one None e = absurd (grind arith)
  one (Some o) e = rw e refl

-- one more unit before
before_next-step : (test : Trim → Bool) (u v : ℕ) (o : Role) (ps : List (ℕ × Role)) (upto under here : Bool)
    → list_any test (flat_map trim_of (flat_map (if_unit (λ v. ltb v (u + 1))) ps)) ≡ (list_any test (flat_map trim_of (flat_map (if_unit (λ v. ltb v u)) ps)) || list_any test (flat_map trim_of (flat_map (if_unit (λ v. eqb v u)) ps)))
    → ((upto ≡ true) × (under ≡ true) × (here ≡ false)) ⊎ (((upto ≡ true) × (under ≡ false) × (here ≡ true)) ⊎ ((upto ≡ false) × (under ≡ false) × (here ≡ false)))
    → list_any test (flat_map trim_of (cond upto (o ∷ []) [] ++ flat_map (if_unit (λ v. ltb v (u + 1))) ps))
    ≡ (list_any test (flat_map trim_of (cond under (o ∷ []) [] ++ flat_map (if_unit (λ v. ltb v u)) ps)) || list_any test (flat_map trim_of (cond here (o ∷ []) [] ++ flat_map (if_unit (λ v. eqb v u)) ps)))
before_next-step test u v o ps true true false rest case = rw (list_any-append, list_any-append, rest) (or_assoc (list_any test (trim_of o)) _ _)
before_next-step test u v o ps true false true rest case = rw (list_any-append, list_any-append, rest) (or_swap (list_any test (trim_of o)) _ _)
before_next-step test u v o ps false false false rest case = rest
before_next-step test u v o ps _ _ _ rest case = absurd (grind arith)

before-next : (test : Trim → Bool) (u : ℕ) (ps : List (ℕ × Role)) → list_any test (flat_map trim_of (flat_map (if_unit (λ v. ltb v (u + 1))) ps))
    ≡ (list_any test (flat_map trim_of (flat_map (if_unit (λ v. ltb v u)) ps)) || list_any test (flat_map trim_of (flat_map (if_unit (λ v. eqb v u)) ps)))
before-next test u [] = refl
before-next test u ((v, o) ∷ ps) = before_next-step test u v o ps (ltb v (u + 1)) (ltb v u) (eqb v u) (before-next test u ps) (grind (arith, nat_tests))

pub trims_before-next : (test : Trim → Bool) (u : ℕ) (l : List Role) → list_any test (trims_before (u + 1) l) ≡ (list_any test (trims_before u l) || list_any test (trims_in u l))
unfolding trims_before trims_in before_unit in_unit in_units
trims_before-next test u l = before-next test u (placed l)

-- a frame comes into the open unit
trims-hold : (t : Option Trim) (ts : List Trim) (trim : Trim) → AreTrims t ts → differs trim t ≡ false → (test : Trim → Bool) → list_any test (ts ++ trim ∷ []) ≡ test (trim)
trims-hold None ts trim same alike test = rw same (or_false (test (trim)))
trims-hold (Some t) ts trim same alike test = rw (list_any-append, same test, same_is) (twice (test (trim))) where
  parts : (eqb t.end trim.end ≡ true) × (eqb t.start trim.start ≡ true)
  parts = and_parts (eqb t.end trim.end) (eqb t.start trim.start) (not-false (eqb t.end trim.end && eqb t.start trim.start) alike)

  same_is : t ≡ trim
  same_is = ap₂ (λ (e s : ℕ). let r : Trim = record { end = e; start = s } in r) (eqb-true t.end trim.end parts.0) (eqb-true t.start trim.start parts.1)

  twice : (b : Bool) → (b || (b || false)) ≡ b
  twice true = refl
  twice false = refl

size-push : (l : List Role) (o : Role) → length (l ++ o ∷ []) ≡ length l + 1
size-push l o = length-append l (o ∷ [])

pub hold-frame : (a : OpenUnit) (l : List Role) (f : FrameRole) → KeepsUnit a l → differs f.trim a.trim ≡ false → KeepsUnitAt (holding a f.trim) (l ++ AudioFrame f ∷ []) (open_unit l)
hold-frame a l f k alike = record {
  delimited = delimited-data a l o k refl refl;
  number = k.number;
  begun = in_unit-here (open_unit l) l o refl here;
  frames = ap (λ n. n + 1) k.frames ∙ sym (ap (λ (ss : List ℕ). length ss) (streams_in-here (open_unit l) l o refl here) ∙ length-append (streams_in (open_unit l) l) (f.substream ∷ []));
  few = omega (arith, k.few, size-push l o);
  trim = λ test. ap (list_any test) (trims_in-here (open_unit l) l o refl here) ∙ trims-hold a.trim (trims_in (open_unit l) l) f.trim k.trim alike test;
  kept = rw (trims_before-here (open_unit l) l o refl here, frame_length-push l o refl) k.kept;
  samples = k.samples ∙ sym (kept_up_to-here l o (open_unit l) refl (le_of_eq (sym here)));
  cut = rw (trims_before-here (open_unit l) l o refl here) k.cut;
} where
  o : Role
  o = AudioFrame f

  here : unit_after l o ≡ open_unit l
  here = unit_after-other l o refl

-- The open unit is closed: no data OBU is of a later one.
abbrev pub IsLast : List Role → ℕ → Type 0
IsLast l u = (test : ℕ → Bool) → ((v : ℕ) → v ≤ u → test v ≡ false) → in_units test l ≡ []

keeps-closed : (length : ℕ) (t : Option Trim) (ts : List Trim) → AreTrims t ts → ltb 0 (kept_of length t) ≡ list_any (keeps length) ts
keeps-closed length None ts same = rw same refl
keeps-closed length (Some t) ts same = one ∙ sym (same (keeps length)) where
  one : ltb 0 (length - (t.start + t.end)) ≡ ltb (t.start + t.end) length
  one = grind (arith, nat_tests)

positive-plus : (a b : ℕ) → ltb 0 (a + b) ≡ (ltb 0 a || ltb 0 b)
positive-plus a b = grind (arith, nat_tests)

cuts-closed : (t : Option Trim) (ts : List Trim) → AreTrims t ts → cuts_one t ≡ list_any cuts ts
cuts-closed None ts same = rw same refl
cuts-closed (Some t) ts same = sym (same cuts)

pub close : (a : OpenUnit) (l : List Role) (u : ℕ) → KeepsUnitAt a l u → IsLast l u → KeepsUnitAt (closed a (frame_length l)) l (u + 1)
unfolding in_unit streams_in trims_in
close a l u k last = record {
  delimited = k.delimited;
  number = rw k.number refl;
  begun = rw none refl;
  frames = rw none refl;
  few = omega arith;
  trim = rw none refl;
  kept = positive-plus a.samples (kept_of (frame_length l) a.trim) ∙ rw (trims_before-next (keeps (frame_length l)) u l, k.kept, keeps-closed (frame_length l) a.trim (trims_in u l) k.trim) refl;
  samples = ap₂ (λ (x y : ℕ). x + y) k.samples (kept_of-trims (frame_length l) a.trim (trims_in u l) k.trim) ∙ rw (add-one u) refl;
  cut = rw (trims_before-next cuts u l, k.cut, cuts-closed a.trim (trims_in u l) k.trim) refl;
} where
  none : in_units (λ v. eqb v (u + 1)) l ≡ []
  none = last (λ v. eqb v (u + 1)) (λ v h. ne_eqb v (u + 1) (λ e. omega arith))

pub last-push : (l : List Role) (o : Role) (u : ℕ) → IsBalanced l → open_unit l ≤ u → (is_data o ≡ true → unit_after l o ≤ u) → IsLast (l ++ o ∷ []) u
last-push l o u balanced more here test none =
    rw (in_units-push test l o, later l balanced test (λ v h. none v (omega (arith, more)))) (elim (cases_Bool (is_data o)) [
      | inl data_obu ↦ rw (data_obu, none (unit_after l o) (here data_obu)) refl
      | inr quiet ↦ rw quiet refl
    ])

pub unit-frame : (a : OpenUnit) (l : List Role) (f : FrameRole) → KeepsUnit a l → IsBalanced l → IsOrderly l → contains (substreams l) f.substream ≡ true
    → contains (streams_in (open_unit l) l) f.substream ≡ false → differs f.trim a.trim ≡ false → KeepsUnit (with_frame a (length (substreams l)) (frame_length l) f.trim) (l ++ AudioFrame f ∷ [])
unit-frame a l f k balanced orderly known new alike = one (not (is_marked a) && is_full (holding a f.trim) (length (substreams l))) refl where
  o : Role
  o = AudioFrame f

  held : KeepsUnitAt (holding a f.trim) (l ++ AudioFrame f ∷ []) (open_unit l)
  held = hold-frame a l f k alike

  count : list_all (contains (streams_in (open_unit l) l ++ f.substream ∷ [])) (substreams l) ≡ is_full (holding a f.trim) (length (substreams l))
  count = full_by_count l f.substream orderly known new
      ∙ ap (λ (n : ℕ). eqb n (length (substreams l))) (length-append (streams_in (open_unit l) l) (f.substream ∷ []) ∙ ap (λ n. n + 1) (sym k.frames))

  moves : open_unit (l ++ AudioFrame f ∷ []) ≡ cond (not (is_marked a) && is_full (holding a f.trim) (length (substreams l))) (open_unit l + 1) (open_unit l)
  moves = open_unit-frame l f balanced (some_streams l f.substream known) new
      ∙ ap₂ (λ (d all : Bool). cond (not d && all) (open_unit l + 1) (open_unit l)) (sym (marked_is a l k)) count

  one : (b : Bool) → (not (is_marked a) && is_full (holding a f.trim) (length (substreams l))) ≡ b → KeepsUnit (cond b (closed (holding a f.trim) (frame_length l)) (holding a f.trim)) (l ++ AudioFrame f ∷ [])
  one true e = rw (moves, e) (subst (λ (n : ℕ). KeepsUnitAt (closed (holding a f.trim) n) (l ++ AudioFrame f ∷ []) (open_unit l + 1)) (frame_length-push l o refl)
      (close (holding a f.trim) (l ++ AudioFrame f ∷ []) (open_unit l) held (last-push l o (open_unit l) balanced (omega arith) (λ _. le_of_eq (unit_after-other l o refl)))))
  one false e = rw (moves, e) held

pub unit-block : (a : OpenUnit) (l : List Role) (b : BlockRole) → KeepsUnit a l → KeepsUnit (begun a) (l ++ ParameterBlock b ∷ [])
unit-block a l b k = rw (open_unit-quiet l (ParameterBlock b) refl refl refl) (record {
  delimited = delimited-data a l o k refl refl;
  number = k.number;
  begun = in_unit-here (open_unit l) l o refl here;
  frames = rw (streams_in-here (open_unit l) l o refl here, append-nil) k.frames;
  few = omega (arith, k.few, size-push l o);
  trim = rw (trims_in-here (open_unit l) l o refl here, append-nil) k.trim;
  kept = rw (trims_before-here (open_unit l) l o refl here, frame_length-push l o refl) k.kept;
  samples = k.samples ∙ sym (kept_up_to-here l o (open_unit l) refl (le_of_eq (sym here)));
  cut = rw (trims_before-here (open_unit l) l o refl here) k.cut;
}) where
  o : Role
  o = ParameterBlock b

  here : unit_after l o ≡ open_unit l
  here = unit_after-other l o refl

-- a delimiter comes into its new unit
start-unit : (a : OpenUnit) (l : List Role) (u : ℕ) → KeepsUnitAt a l u → is_delimited (l ++ Delimiter ∷ []) ≡ true → unit_after l Delimiter ≡ u
    → KeepsUnitAt (delimiting a) (l ++ Delimiter ∷ []) u
start-unit a l u k with here = record {
  delimited = found-delimiter l with;
  number = k.number;
  begun = in_unit-here u l Delimiter refl here;
  frames = rw (streams_in-here u l Delimiter refl here, append-nil) k.frames;
  few = omega (arith, k.few, size-push l Delimiter);
  trim = rw (trims_in-here u l Delimiter refl here, append-nil) k.trim;
  kept = rw (trims_before-here u l Delimiter refl here, frame_length-push l Delimiter refl) k.kept;
  samples = k.samples ∙ sym (kept_up_to-here l Delimiter u refl (le_of_eq (sym here)));
  cut = rw (trims_before-here u l Delimiter refl here) k.cut;
}

pub unit-none : (a : OpenUnit) (l m : List Role) → list_any is_data l ≡ false → list_any is_data m ≡ false → KeepsUnit a l → KeepsUnit a m
unit-none a l m none_l none_m k = record {
  delimited = k.delimited ∙ rw (found-none l none_l, found-none m none_m) refl;
  number = k.number ∙ open_unit-none l none_l ∙ sym (open_unit-none m none_m);
  begun = k.begun ∙ rw (in_unit-none (open_unit l) l none_l, in_unit-none (open_unit m) m none_m) refl;
  frames = k.frames ∙ ap (λ (ss : List ℕ). length ss) (streams_in-none (open_unit l) l none_l ∙ sym (streams_in-none (open_unit m) m none_m));
  few = omega (arith, k.frames ∙ ap (λ (ss : List ℕ). length ss) (streams_in-none (open_unit l) l none_l));
  trim = rw (trims_in-none (open_unit m) m none_m, ← trims_in-none (open_unit l) l none_l) k.trim;
  kept = k.kept ∙ rw (trims_before-none (open_unit l) l none_l, trims_before-none (open_unit m) m none_m) refl;
  samples = k.samples ∙ ap (λ u. kept_up_to l u) (open_unit-none l none_l) ∙ sym (ap (λ u. kept_up_to m u) (open_unit-none m none_m));
  cut = k.cut ∙ rw (trims_before-none (open_unit l) l none_l, trims_before-none (open_unit m) m none_m) refl;
}

pub unit-ignored : (a : OpenUnit) (l : List Role) → KeepsUnit a l → KeepsUnit a (l ++ Ignored ∷ [])
unit-ignored a l k = rw (open_unit-quiet l Ignored refl refl refl) (record {
  delimited = rw (found-quiet l Ignored refl) k.delimited;
  number = k.number;
  begun = rw (in_unit-push (open_unit l) l Ignored, append-nil) k.begun;
  frames = rw (streams_in-push (open_unit l) l Ignored, append-nil) k.frames;
  few = omega (arith, k.few, size-push l Ignored);
  trim = rw (trims_in-push (open_unit l) l Ignored, append-nil) k.trim;
  kept = rw (trims_before-push (open_unit l) l Ignored, append-nil, frame_length-push l Ignored refl) k.kept;
  samples = k.samples ∙ sym (kept_up_to-none l Ignored (open_unit l) refl refl);
  cut = rw (trims_before-push (open_unit l) l Ignored, append-nil) k.cut;
})

pub unit-delimiter : (a : OpenUnit) (l : List Role) → KeepsUnit a l → IsBalanced l → is_delimited (l ++ Delimiter ∷ []) ≡ true
    → KeepsUnit (with_delimiter a (frame_length l)) (l ++ Delimiter ∷ [])
unit-delimiter a l k balanced with = one a.delimited (first_is a l k) where
  one : (d : Option Bool) → FirstIs d l → KeepsUnit (delimiting (cond (is_some d) (closed a (frame_length l)) a)) (l ++ Delimiter ∷ [])
  one None first =
      let same : delimiters l ≡ open_unit l = delimiters-none l first.0 ∙ sym (open_unit-none l first.0) in
      rw (open_unit-delimiter l with, same) (start-unit a l (open_unit l) k with (unit_after-delimiter l with ∙ same))
  one (Some b) first =
      let next : open_unit l + 1 ≡ delimiters l = open_unit-ended l (sym (is_delimited-kept l (Delimiter ∷ []) first.0) ∙ with) in
      rw (open_unit-delimiter l with, ← next) (start-unit (closed a (frame_length l)) l (open_unit l + 1) (close a l (open_unit l) k (later l balanced)) with (unit_after-delimiter l with ∙ sym next))

-- ---- how large the counts are

counted-le : (b : Bool) (n m : ℕ) → n ≤ m → (0 + cond b 1 0) + n ≤ suc m
counted-le true n m le = omega arith
counted-le false n m le = omega arith

count-le : (p : Role → Bool) (l : List Role) → count_by p l ≤ length l
count-le p [] = omega arith
count-le p (o ∷ os) = rw (sum_by-append (λ (x : Role). cond (p x) 1 0) (o ∷ []) os) (counted-le (p o) (count_by p os) (length os) (count-le p os))

frames_of-le : (l : List Role) (s : ℕ) → frames_of l s ≤ length l
unfolding frames_of
frames_of-le l s = count-le (is_frame_of s) l

delimiters-le : (l : List Role) → delimiters l ≤ length l
unfolding delimiters
delimiters-le l = count-le is_delimiter l

least-le : (f : ℕ → ℕ) (ss : List ℕ) (most : ℕ) → ((s : ℕ) → f s ≤ most) → least (map f ss) ≤ most
least-le f [] most le = omega arith
least-le f (s ∷ []) most le = le s
least-le f (s ∷ r ∷ rs) most le = omega (arith, le s)

pub open_unit-le : (l : List Role) → open_unit l ≤ length l
unfolding open_unit
open_unit-le l = one (is_delimited l) where
  one : (b : Bool) → cond b (delimiters l - 1) (least (map (frames_of l) (substreams l))) ≤ length l
  one true = omega (arith, delimiters-le l)
  one false = least-le (frames_of l) (substreams l) (length l) (frames_of-le l)

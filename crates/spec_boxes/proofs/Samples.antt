-- The samples, one at a time.
use Rattle.std.proofs.Common.{◌≡◌, ℕ, ◌+◌, ◌-◌, ◌<◌, Bool, true, false, List, [], ◌∷◌, map, Ok, refl, sym, ap, ◌∙◌, arith}
use Rattle.std.specs.Prelude.{nat_le, ◌&&◌, slice_range}
use Rattle.std.proofs.lemmas.Bool.{leb-true}
use Rattle.spec_boxes.specs.Spans.{Span, fit, in_file}
use Rattle.spec_boxes.specs.ObuLists.{are_obus, in_sample}
use Rattle.spec_boxes.specs.Tracks.{sample_bytes, samples_at}
use Rattle.spec_boxes.specs.declared.fault.BoxFault.TheVariants.{Sample}
use Rattle.spec_boxes.specs.Boxes.{refuse}

and_true : (a b : Bool) → (a && b) ≡ true → (a ≡ true) × (b ≡ true)
and_true true b h = (refl, h)
and_true false b h = cc

-- samples that fit lie in the file
pub fit_in_file : (len room : ℕ) (spans : List Span) → fit len room spans ≡ true → in_file len spans ≡ true
fit_in_file len room [] h = refl
fit_in_file len room (s ∷ rest) h =
    let a = and_true (nat_le (s.0 + s.1) len) (nat_le s.1 room && fit len (room - s.1) rest) h in
    let b = and_true (nat_le s.1 room) (fit len (room - s.1) rest) a.1 in
    rw (a.0) (fit_in_file len (room - s.1) rest b.1)

-- what is left of samples in the file lies in it
pub in_file_next : (len at k : ℕ) (left rest : List Span) → left ≡ (at, k) ∷ rest → in_file len left ≡ true → in_file len rest ≡ true
in_file_next len at k left rest is h = (and_true _ _ (rw is at h)).1

-- and none passes its end
pub none_outside : (len at k : ℕ) (left rest : List Span) → left ≡ (at, k) ∷ rest → in_file len left ≡ true → len < at + k → ⊥
none_outside len at k left rest is h past = let a = leb-true (at + k) len (and_true _ _ (rw is at h)).0 in omega arith

pub samples_next : (f : List ℕ) (at k : ℕ) (left rest : List Span) (bytes : List ℕ) → left ≡ (at, k) ∷ rest → bytes ≡ slice_range f at (at + k) → are_obus in_sample bytes ≡ true
    → samples_at f left ≡ samples_at f rest
samples_next f at k left rest bytes is are fine =
    let e : are_obus in_sample (sample_bytes f (at, k)) ≡ true = ap (are_obus in_sample) (sym are) ∙ fine in
    rw (is, e) refl

pub samples_fault : (f : List ℕ) (at k : ℕ) (left rest : List Span) (bytes : List ℕ) → left ≡ (at, k) ∷ rest → bytes ≡ slice_range f at (at + k) → are_obus in_sample bytes ≡ false
    → samples_at f left ≡ refuse at Sample
samples_fault f at k left rest bytes is are bad =
    let e : are_obus in_sample (sample_bytes f (at, k)) ≡ false = ap (are_obus in_sample) (sym are) ∙ bad in
    rw (is, e) refl

pub samples_end : (f : List ℕ) (left : List Span) → left ≡ [] → samples_at f left ≡ Ok tt
samples_end f left is = rw is refl

-- the bytes of what is left
pub bytes_next : (f : List ℕ) (at k : ℕ) (left rest : List Span) (bytes : List ℕ) → left ≡ (at, k) ∷ rest → bytes ≡ slice_range f at (at + k) → map (sample_bytes f) left ≡ bytes ∷ map (sample_bytes f) rest
bytes_next f at k left rest bytes is are = rw (is, are) refl

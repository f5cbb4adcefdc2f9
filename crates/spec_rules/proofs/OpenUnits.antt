-- The number of the open unit.
use Rattle.std.proofs.Common.{◌≡◌, ℕ, ◌+◌, ◌-◌, ◌<◌, true, false, cond, List, [], ◌∷◌, ◌++◌, map, refl, ap, ap₂, ◌∙◌, inl, inr, add-zero, arith}
use Rattle.std.specs.List.{list_any}
use Rattle.std.proofs.lemmas.List.Sums.{sum_by-append}
use Rattle.std.proofs.lemmas.Bool.{or_parts, cases_Bool}
use Rattle.spec_rules.specs.Role.{Role, Ignored, SequenceHeader, CodecConfig, AudioElement, MixPresentation, Delimiter, ParameterBlock, AudioFrame}
use Rattle.spec_rules.specs.Descriptors.{substreams_of, substreams}
use Rattle.spec_rules.specs.Units.{is_data, is_delimiter, stream_of, least, is_frame_of, frames_of, delimiters, is_delimited, open_unit}
use Rattle.spec_rules.proofs.DescriptorLists.{substreams-push}
use Rattle.spec_rules.proofs.Placing.{is_delimited-kept, is_delimited-first, is_delimited-none, delimiters-push, frames_of-push}

pub open_unit-with : (l : List Role) → is_delimited l ≡ true → open_unit l ≡ delimiters l - 1
unfolding open_unit
open_unit-with l h = rw h refl

pub open_unit-without : (l : List Role) → is_delimited l ≡ false → open_unit l ≡ least (map (frames_of l) (substreams l))
unfolding open_unit
open_unit-without l h = rw h refl

-- ---- one more

map_same : (f g : ℕ → ℕ) (ss : List ℕ) → ((s : ℕ) → f s ≡ g s) → map f ss ≡ map g ss
map_same f g [] e = refl
map_same f g (s ∷ ss) e = ap₂ (λ (x : ℕ) (xs : List ℕ). x ∷ xs) (e s) (map_same f g ss e)

pub is_delimited-quiet : (l : List Role) (o : Role) → is_delimiter o ≡ false → is_delimited (l ++ o ∷ []) ≡ is_delimited l
is_delimited-quiet l o other = elim (cases_Bool (list_any is_data l)) [
  | inl has ↦ is_delimited-kept l (o ∷ []) has
  | inr none ↦ rw (is_delimited-first l o none, other, is_delimited-none l none) refl
]

-- an OBU that is no delimiter and no frame leaves the open unit
pub open_unit-quiet : (l : List Role) (o : Role) → is_delimiter o ≡ false → stream_of o ≡ [] → substreams_of o ≡ [] → open_unit (l ++ o ∷ []) ≡ open_unit l
unfolding open_unit
open_unit-quiet l o other still same =
    rw (is_delimited-quiet l o other, delimiters-push l o, other, add-zero, substreams-push l o same)
    (ap (λ ns. cond (is_delimited l) (delimiters l - 1) (least ns))
    (map_same (frames_of (l ++ o ∷ [])) (frames_of l) (substreams l) (λ s. frames_of-push l o s ∙ rw still (add-zero (frames_of l s)))))

-- ---- without a data OBU

data_frame : (s : ℕ) (o : Role) → is_data o ≡ false → is_frame_of s o ≡ false
data_frame s Delimiter h = absurd (grind arith)
data_frame s (ParameterBlock b) h = absurd (grind arith)
data_frame s (AudioFrame f) h = absurd (grind arith)
data_frame s Ignored h = refl
data_frame s (SequenceHeader p) h = refl
data_frame s (CodecConfig c) h = refl
data_frame s (AudioElement e) h = refl
data_frame s (MixPresentation m) h = refl

pub frames_of-none : (l : List Role) (s : ℕ) → list_any is_data l ≡ false → frames_of l s ≡ 0
unfolding frames_of
frames_of-none [] s none = refl
frames_of-none (x ∷ xs) s none = let parts : (is_data x ≡ false) × (list_any is_data xs ≡ false) = or_parts (is_data x) (list_any is_data xs) none in
    rw (data_frame s x parts.0, frames_of-none xs s parts.1) refl

least-zeros : (f : ℕ → ℕ) (ss : List ℕ) → ((s : ℕ) → f s ≡ 0) → least (map f ss) ≡ 0
least-zeros f [] zeros = refl
least-zeros f (s ∷ []) zeros = zeros s
least-zeros f (s ∷ r ∷ rs) zeros = rw (zeros s) (omega arith)

pub open_unit-none : (l : List Role) → list_any is_data l ≡ false → open_unit l ≡ 0
open_unit-none l none = open_unit-without l (is_delimited-none l none) ∙ least-zeros (frames_of l) (substreams l) (λ s. frames_of-none l s none)

pub delimiters-none : (l : List Role) → list_any is_data l ≡ false → delimiters l ≡ 0
unfolding delimiters
delimiters-none [] none = refl
delimiters-none (x ∷ xs) none = let parts : (is_data x ≡ false) × (list_any is_data xs ≡ false) = or_parts (is_data x) (list_any is_data xs) none in
    rw (data_delimiter x parts.0, delimiters-none xs parts.1) refl where
      data_delimiter : (o : Role) → is_data o ≡ false → is_delimiter o ≡ false
      data_delimiter Delimiter h = absurd (grind arith)
      data_delimiter _ h = refl

-- ---- with delimiters

pub delimiters-some : (l : List Role) → is_delimited l ≡ true → 0 < delimiters l
unfolding is_delimited delimiters
delimiters-some [] h = absurd (grind arith)
delimiters-some (Delimiter ∷ xs) h = rw (sum_by-append (λ (x : Role). cond (is_delimiter x) 1 0) (Delimiter ∷ []) xs) (omega arith)
delimiters-some (ParameterBlock b ∷ xs) h = absurd (grind arith)
delimiters-some (AudioFrame f ∷ xs) h = absurd (grind arith)
delimiters-some (Ignored ∷ xs) h = delimiters-some xs h
delimiters-some (SequenceHeader p ∷ xs) h = delimiters-some xs h
delimiters-some (CodecConfig c ∷ xs) h = delimiters-some xs h
delimiters-some (AudioElement e ∷ xs) h = delimiters-some xs h
delimiters-some (MixPresentation m ∷ xs) h = delimiters-some xs h

pub open_unit-delimiter : (l : List Role) → is_delimited (l ++ Delimiter ∷ []) ≡ true → open_unit (l ++ Delimiter ∷ []) ≡ delimiters l
open_unit-delimiter l h = open_unit-with (l ++ Delimiter ∷ []) h ∙ rw (delimiters-push l Delimiter) (omega arith)

pub open_unit-ended : (l : List Role) → is_delimited l ≡ true → open_unit l + 1 ≡ delimiters l
open_unit-ended l with = rw (open_unit-with l with) (omega (arith, delimiters-some l with))

-- A data OBU that comes next is of the last unit that is begun, or of the next one.
use Rattle.std.proofs.Common.{◌≡◌, ℕ, ◌+◌, ◌≤◌, Bool, true, false, cond, List, [], ◌∷◌, ◌++◌, refl, sym, ap, subst, ◌∙◌, inl, inr, append_assoc, append-nil, arith, true≢false, add-zero}
use Rattle.std.specs.Prelude.{None}
use Rattle.std.specs.List.{list_any}
use Rattle.std.proofs.lemmas.Bool.{cases_Bool}
use Rattle.spec_rules.specs.Role.{Role, Delimiter, ParameterBlock, AudioFrame, Ignored, SequenceHeader, CodecConfig, AudioElement, MixPresentation}
use Rattle.spec_rules.specs.Units.{is_none_of, is_data, is_delimiter, is_delimited, delimiters, open_unit, unit_after, in_unit, unit_count}
use Rattle.spec_rules.specs.Rules.{fault_after}
use Rattle.spec_rules.specs.Admitted.{IsAdmitted}
use Rattle.spec_rules.proofs.Placing.{is_delimited-kept, is_delimited-none, delimiters-push, unit_after-other, unit_after-delimiter, unit_count-push, unit_count-none}
use Rattle.spec_rules.proofs.NoFault.{delimiter_none}
use Rattle.spec_rules.proofs.OpenUnits.{is_delimited-quiet, delimiters-none, open_unit-ended}
use Rattle.spec_rules.proofs.Lawful.{lawful}

-- ---- with delimiters, the units are as many as these

abbrev AreMarked : List Role → Type 0
AreMarked l = is_delimited l ≡ true → unit_count l ≡ delimiters l

marked_quiet : (l : List Role) (o : Role) → is_delimiter o ≡ false → AreMarked l → AreMarked (l ++ o ∷ [])
marked_quiet l o other h = λ with.
    let before : is_delimited l ≡ true = sym (is_delimited-quiet l o other) ∙ with in
    let here : unit_after l o + 1 ≡ delimiters l = ap (λ u. u + 1) (unit_after-other l o other) ∙ open_unit-ended l before in
    unit_count-push l o ∙ one (is_data o) (unit_after l o + 1) here (h before) ∙ sym (delimiters-push l o ∙ rw other (add-zero (delimiters l)))
  where
    one : (b : Bool) (n : ℕ) → n ≡ delimiters l → unit_count l ≡ delimiters l → cond b n (unit_count l) ≡ delimiters l
    one true n x y = x
    one false n x y = y

marked_delimiter : (l : List Role) → AreMarked (l ++ Delimiter ∷ [])
marked_delimiter l = λ with. unit_count-push l Delimiter ∙ ap (λ u. u + 1) (unit_after-delimiter l with) ∙ sym (delimiters-push l Delimiter)

marked_more : (l : List Role) (o : Role) → AreMarked l → AreMarked (l ++ o ∷ [])
marked_more l Delimiter h = marked_delimiter l
marked_more l (ParameterBlock b) h = marked_quiet l (ParameterBlock b) refl h
marked_more l (AudioFrame f) h = marked_quiet l (AudioFrame f) refl h
marked_more l Ignored h = marked_quiet l Ignored refl h
marked_more l (SequenceHeader p) h = marked_quiet l (SequenceHeader p) refl h
marked_more l (CodecConfig c) h = marked_quiet l (CodecConfig c) refl h
marked_more l (AudioElement e) h = marked_quiet l (AudioElement e) refl h
marked_more l (MixPresentation m) h = marked_quiet l (MixPresentation m) refl h

marked_after : (l os : List Role) → AreMarked l → AreMarked (l ++ os)
marked_after l [] h = subst AreMarked (sym (append-nil l)) h
marked_after l (o ∷ os) h = subst AreMarked (append_assoc l (o ∷ []) os) (marked_after (l ++ o ∷ []) os (marked_more l o h))

marked : (l : List Role) → AreMarked l
marked l = marked_after [] l (λ with. absurd (true≢false (sym with ∙ is_delimited-none [] refl)))

begun : (l : List Role) → is_delimited (l ++ Delimiter ∷ []) ≡ true → unit_count l ≡ delimiters l
begun l with = elim (cases_Bool (list_any is_data l)) [
  | inl has ↦ marked l (sym (is_delimited-kept l (Delimiter ∷ []) has) ∙ with)
  | inr none ↦ unit_count-none l none ∙ sym (delimiters-none l none)
]

-- ---- the next OBU

pub record IsLastOrNext (l : List Role) (o : Role) : Type 0 where
  pub low : unit_after l o ≤ unit_count l
  pub high : unit_count l ≤ unit_after l o + 1

of_delimiter : (l : List Role) → fault_after l Delimiter ≡ None → IsLastOrNext l Delimiter
of_delimiter l h =
    let with = (delimiter_none l h).0 in
    let is : unit_after l Delimiter ≡ delimiters l = unit_after-delimiter l with in
    let count : unit_count l ≡ delimiters l = begun l with in
    record { low = omega (arith, is, count); high = omega (arith, is, count) }

of_open : (l : List Role) (o : Role) → IsAdmitted l → is_delimiter o ≡ false → IsLastOrNext l o
of_open l o admitted other = one (is_none_of (in_unit (open_unit l) l)) (lawful l admitted).counted where
  one : (b : Bool) → unit_count l ≡ open_unit l + cond b 0 1 → IsLastOrNext l o
  one true count = record { low = omega (arith, count, unit_after-other l o other); high = omega (arith, count, unit_after-other l o other) }
  one false count = record { low = omega (arith, count, unit_after-other l o other); high = omega (arith, count, unit_after-other l o other) }

pub last_or_next : (l : List Role) (o : Role) → IsAdmitted l → fault_after l o ≡ None → IsLastOrNext l o
last_or_next l Delimiter admitted late = of_delimiter l late
last_or_next l (ParameterBlock b) admitted late = of_open l (ParameterBlock b) admitted refl
last_or_next l (AudioFrame f) admitted late = of_open l (AudioFrame f) admitted refl
last_or_next l Ignored admitted late = of_open l Ignored admitted refl
last_or_next l (SequenceHeader p) admitted late = of_open l (SequenceHeader p) admitted refl
last_or_next l (CodecConfig c) admitted late = of_open l (CodecConfig c) admitted refl
last_or_next l (AudioElement x) admitted late = of_open l (AudioElement x) admitted refl
last_or_next l (MixPresentation m) admitted late = of_open l (MixPresentation m) admitted refl

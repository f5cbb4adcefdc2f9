-- Each temporal unit of a sequence has a frame of each substream, and of no other.
use Rattle.std.proofs.Common.{◌≡◌, ℕ, ◌+◌, ◌≤◌, ◌<◌, Bool, true, false, not, ◌&&◌, ◌||◌, cond, eqb, List, [], ◌∷◌, ◌++◌, refl, sym, ap, ◌∙◌, inl, inr, eqb-true, arith}
use Rattle.std.specs.Prelude.{None}
use Rattle.std.specs.List.{flat_map}
use Rattle.std.proofs.lemmas.Bool.{cases_Bool, cases_lt, or_cases, or_left, not-false, false≢true}
use Rattle.std.proofs.lemmas.List.Folds.{list_any-append}
use Rattle.spec_values.specs.declared.fault.Fault.TheVariants as fault
use Rattle.spec_rules.specs.Role.{Role, Ignored, SequenceHeader, CodecConfig, AudioElement, MixPresentation, Delimiter, ParameterBlock, AudioFrame}
use Rattle.spec_rules.specs.Descriptors.{substreams, substreams_of}
use Rattle.spec_rules.specs.Units.{contains, is_none_of, is_data, stream_of, unit_after, open_unit, if_unit, placed, in_units, in_unit, streams_in, is_complete, unit_count}
use Rattle.spec_rules.specs.Rules.{fault_after, start_tests, has_short_unit, end_fault}
use Rattle.spec_rules.proofs.DescriptorLists.{substreams-more}
use Rattle.spec_rules.proofs.NoFault.{frame_none, last_none}
use Rattle.spec_rules.proofs.UnitLists.{streams_in-push, streams_in-none, complete_is}
use Rattle.spec_rules.specs.Admitted.{IsAdmitted}
use Rattle.spec_rules.proofs.Lawful.{lawful, by_all}
use Rattle.spec_rules.proofs.DistinctIds.{all_at}

-- ---- frames are of known substreams

abbrev AreKnown : List Role → Type 0
AreKnown l = (u s : ℕ) → contains (streams_in u l) s ≡ true → contains (substreams l) s ≡ true

of_frame : (l : List Role) (o : Role) (s : ℕ) → fault_after l o ≡ None → contains (stream_of o) s ≡ true → contains (substreams l) s ≡ true
of_frame l (AudioFrame f) s late has = elim (or_cases (eqb f.substream s) false has) [
  | inl same ↦ ap (contains (substreams l)) (sym (eqb-true f.substream s same)) ∙ (frame_none l f late).0
  | inr none ↦ absurd cc
]
of_frame l Delimiter s late has = absurd cc
of_frame l (ParameterBlock b) s late has = absurd cc
of_frame l Ignored s late has = absurd cc
of_frame l (SequenceHeader p) s late has = absurd cc
of_frame l (CodecConfig c) s late has = absurd cc
of_frame l (AudioElement e) s late has = absurd cc
of_frame l (MixPresentation m) s late has = absurd cc

of_last : (o : Role) (b : Bool) (s : ℕ) → contains (flat_map stream_of (cond b (o ∷ []) [])) s ≡ true → contains (stream_of o) s ≡ true
of_last o false s has = absurd cc
of_last o true s has = elim (or_cases (contains (stream_of o) s) false (sym (list_any-append (λ y. eqb y s) (stream_of o) []) ∙ has)) [ inl there ↦ there | inr none ↦ absurd cc ]

known_more : (l : List Role) (o : Role) → AreKnown l → fault_after l o ≡ None → AreKnown (l ++ o ∷ [])
known_more l o known late u s has = ap (λ (ss : List ℕ). contains ss s) (substreams-more l o) ∙ list_any-append (λ y. eqb y s) (substreams l) (substreams_of o) ∙ or_left (contains (substreams l) s) (contains (substreams_of o) s) before
  where
    here : Bool
    here = is_data o && eqb (unit_after l o) u

    split : (contains (streams_in u l) s || contains (flat_map stream_of (cond here (o ∷ []) [])) s) ≡ true
    split = sym (ap (λ (ss : List ℕ). contains ss s) (streams_in-push u l o) ∙ list_any-append (λ y. eqb y s) (streams_in u l) (flat_map stream_of (cond here (o ∷ []) []))) ∙ has

    before : contains (substreams l) s ≡ true
    before = elim (or_cases (contains (streams_in u l) s) (contains (flat_map stream_of (cond here (o ∷ []) [])) s) split) [
      | inl old ↦ known u s old
      | inr new ↦ of_frame l o s late (of_last o here s new)
    ]

none_known : AreKnown []
none_known u s has = absurd (false≢true (ap (λ (ss : List ℕ). contains ss s) (sym (streams_in-none u [] refl)) ∙ has))

known_admitted : (l : List Role) → IsAdmitted l → AreKnown l
known_admitted l h = by_all AreKnown none_known (λ before o known none. known_more before o known none.late) l h

-- ---- units are complete

no_short : (l : List Role) → end_fault l ≡ None → is_none_of (in_units (λ u. not (is_complete u l)) l) ≡ true
unfolding end_fault
no_short l e = not-false (is_none_of (in_units (λ u. not (is_complete u l)) l)) (last_none (start_tests l) (has_short_unit l) fault.UnitShort e)

-- where nothing is in the units that pass, nothing is in one of them
none_in : (test : ℕ → Bool) (u : ℕ) (ps : List (ℕ × Role)) → test u ≡ true → is_none_of (flat_map (if_unit test) ps) ≡ true → is_none_of (flat_map (if_unit (λ v. eqb v u)) ps) ≡ true
none_in test u [] passes none = refl
none_in test u (p ∷ ps) passes none = elim (cases_Bool (test p.0)) [
  | inl in_it ↦ absurd (false≢true (rw in_it at none))
  | inr out ↦
      let rest : is_none_of (flat_map (if_unit test) ps) ≡ true = rw out at none in
      rw (apart out) (none_in test u ps passes rest)
] where
  apart : test p.0 ≡ false → eqb p.0 u ≡ false
  apart out = elim (cases_Bool (eqb p.0 u)) [
    | inl same ↦ absurd (false≢true (sym out ∙ ap test (eqb-true p.0 u same) ∙ passes))
    | inr other ↦ other
  ]

none_of_unit : (l : List Role) (u : ℕ) → end_fault l ≡ None → is_complete u l ≡ false → is_none_of (in_unit u l) ≡ true
unfolding in_unit in_units
none_of_unit l u whole short = none_in (λ v. not (is_complete v l)) u (placed l) (rw short refl) (no_short l whole)

complete_open : (l : List Role) (b : Bool) → end_fault l ≡ None → is_none_of (in_unit (open_unit l) l) ≡ b → open_unit l < open_unit l + cond b 0 1 → is_complete (open_unit l) l ≡ true
complete_open l true whole is below = absurd (omega arith)
complete_open l false whole is below = elim (cases_Bool (is_complete (open_unit l) l)) [
  | inl full ↦ full
  | inr short ↦ absurd (false≢true (sym is ∙ none_of_unit l (open_unit l) whole short))
]

complete_unit : (l : List Role) (u : ℕ) → IsAdmitted l → end_fault l ≡ None → u < unit_count l → is_complete u l ≡ true
complete_unit l u admitted whole below = elim (cases_lt u (open_unit l)) [
  | inl closed ↦ (lawful l admitted).balanced.closed u closed
  | inr last ↦ ap (λ v. is_complete v l) (same last) ∙ complete_open l (is_none_of (in_unit (open_unit l) l)) whole refl (in_it last)
] where
  counted : unit_count l ≡ open_unit l + cond (is_none_of (in_unit (open_unit l) l)) 0 1
  counted = (lawful l admitted).counted

  least : (b : Bool) → unit_count l ≡ open_unit l + cond b 0 1 → open_unit l ≤ u → u ≡ open_unit l
  least true count low = absurd (omega (arith, below))
  least false count low = omega (arith, below)

  same : open_unit l ≤ u → u ≡ open_unit l
  same low = least (is_none_of (in_unit (open_unit l) l)) counted low

  in_it : open_unit l ≤ u → open_unit l < open_unit l + cond (is_none_of (in_unit (open_unit l) l)) 0 1
  in_it low = omega (arith, below, counted)

pub stream_there : (l : List Role) (u s : ℕ) → IsAdmitted l → end_fault l ≡ None → u < unit_count l → contains (substreams l) s ≡ true → contains (streams_in u l) s ≡ true
stream_there l u s admitted whole below there = all_at (contains (streams_in u l)) (substreams l) s (sym (complete_is u l) ∙ complete_unit l u admitted whole below) there

both : (a b : Bool) → (a ≡ true → b ≡ true) → (b ≡ true → a ≡ true) → a ≡ b
both true b f g = sym (f refl)
both false true f g = g refl
both false false f g = refl

-- the substreams of a unit's frames are those of the elements
pub streams_of_unit : (l : List Role) (u s : ℕ) → IsAdmitted l → end_fault l ≡ None → u < unit_count l → contains (streams_in u l) s ≡ contains (substreams l) s
streams_of_unit l u s admitted whole below =
    both (contains (streams_in u l) s) (contains (substreams l) s) (known_admitted l admitted u s)
    (stream_there l u s admitted whole below)

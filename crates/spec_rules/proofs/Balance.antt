-- The open unit and what it holds, as OBUs come.
use Rattle.std.proofs.Common.{◌≡◌, ℕ, ◌+◌, ◌≤◌, ◌<◌, min, Bool, true, false, not, ◌&&◌, ◌||◌, cond, eqb, List, [], ◌∷◌, ◌++◌, map, refl, sym, ap, ◌∙◌, inl, inr, append-nil, add-zero, subst, eqb-true, ne_eqb, true≢false, arith}
use Rattle.std.specs.List.{flat_map, list_any, list_all}
use Rattle.std.proofs.lemmas.Bool.Decides.{nat_tests}
use Rattle.std.proofs.lemmas.List.Folds.{list_any-append}
use Rattle.std.proofs.lemmas.Bool.{or_right, or_left, and_parts, cases_Bool, cases_eq}
use Rattle.spec_rules.specs.Role.{Role, Ignored, Delimiter, ParameterBlock, AudioFrame, ElementRole, MixRole, BlockRole, FrameRole}
use Rattle.spec_rules.specs.Descriptors.{profile_of, codec_of, element_of, mix_of, substreams_of, profiles, codecs, elements, mixes, substreams}
use Rattle.spec_rules.specs.Profile.{first_profile, fits_sub_mixes, fits, has_fit}
use Rattle.spec_rules.specs.Units.{contains, is_none_of, is_data, stream_of, least, frames_of, delimiters, is_delimited, open_unit, unit_after, placed, if_unit, in_units, in_unit, streams_in, is_complete}
use Rattle.spec_rules.specs.Rules.{lacks_descriptors}
use Rattle.spec_rules.proofs.Basics.{flat_map-push_none, any-push_none}
use Rattle.spec_rules.proofs.DescriptorLists.{profiles-push_none, elements-push_none, mixes-push_none, substreams-push}
use Rattle.spec_rules.proofs.Placing.{in_units-push, is_delimited-kept, delimiters-push, frames_of-push, unit_after-other, unit_after-delimiter}
use Rattle.spec_rules.proofs.UnitLists.{streams_in-push, in_units-none, streams_in-none, complete_is}
use Rattle.spec_rules.proofs.OpenUnits.{is_delimited-quiet, open_unit-quiet, open_unit-with, open_unit-without, frames_of-none, open_unit-none, delimiters-some, delimiters-none, open_unit-delimiter, open_unit-ended}
use Rattle.spec_rules.proofs.DistinctIds.{all_at}

-- where each number is u, or u + 1 if it was seen, the least is u + 1 only if all were
least_even-step : (u : ℕ) (x y : ℕ) (b all : Bool) → x ≡ u + cond b 1 0 → y ≡ cond all (u + 1) u → min x y ≡ cond (b && all) (u + 1) u
least_even-step u x y true true p q = omega arith
least_even-step u x y true false p q = omega arith
least_even-step u x y false true p q = omega arith
least_even-step u x y false false p q = omega arith

least_even-one : (u x : ℕ) (b : Bool) → x ≡ u + cond b 1 0 → x ≡ cond (b && true) (u + 1) u
least_even-one u x true p = p
least_even-one u x false p = omega arith

contains-head : (x : ℕ) (xs : List ℕ) → contains (x ∷ xs) x ≡ true
contains-head x xs = or_left (eqb x x) (contains xs x) (grind (arith, nat_tests))

pub least_even : (u : ℕ) (seen : ℕ → Bool) (f : ℕ → ℕ) (ss : List ℕ) → is_none_of ss ≡ false → ((s : ℕ) → contains ss s ≡ true → f s ≡ u + cond (seen s) 1 0) → least (map f ss) ≡ cond (list_all seen ss) (u + 1) u
least_even u seen f [] some even = absurd (grind arith)
least_even u seen f (x ∷ []) some even = least_even-one u (f x) (seen x) (even x (contains-head x []))
least_even u seen f (x ∷ y ∷ ys) some even =
    least_even-step u (f x) _ (seen x) (list_all seen (y ∷ ys)) (even x (contains-head x (y ∷ ys)))
    (least_even u seen f (y ∷ ys) refl (λ s h. even s (or_right (eqb x s) (contains (y ∷ ys) s) h)))

-- What holds of a list that is admitted: a data OBU stands only after all descriptors; none is of a later unit than the
-- open one; each substream has one frame in each unit before that, and at most one in it.
pub record IsBalanced (l : List Role) : Type 0 where
  pub started : list_any is_data l ≡ true → (lacks_descriptors l ≡ false) × (has_fit l ≡ true)
  pub within : (test other : ℕ → Bool) → ((u : ℕ) → u ≤ open_unit l → test u ≡ other u) → in_units test l ≡ in_units other l
  pub counts : (s : ℕ) → contains (substreams l) s ≡ true → frames_of l s ≡ open_unit l + cond (contains (streams_in (open_unit l) l) s) 1 0
  pub closed : (u : ℕ) → u < open_unit l → is_complete u l ≡ true

no_units : (ps : List (ℕ × Role)) → flat_map (if_unit (λ _. false)) ps ≡ []
no_units [] = refl
no_units (p ∷ ps) = no_units ps

pub later : (l : List Role) → IsBalanced l → (test : ℕ → Bool) → ((u : ℕ) → u ≤ open_unit l → test u ≡ false) → in_units test l ≡ []
unfolding in_units
later l balanced test none = balanced.within test (λ _. false) none ∙ no_units (placed l)

-- a frame comes into the open unit
eqb_self : (u : ℕ) → eqb u u ≡ true
eqb_self u = grind (arith, nat_tests)

pub streams_in-frame : (l : List Role) (f : FrameRole) → streams_in (open_unit l) (l ++ AudioFrame f ∷ []) ≡ streams_in (open_unit l) l ++ f.substream ∷ []
streams_in-frame l f = rw (streams_in-push (open_unit l) l (AudioFrame f), unit_after-other l (AudioFrame f) refl, eqb_self (open_unit l)) refl

-- The open unit after a frame: without delimiters it is the next one where the frame was the last that it lacked.
abbrev pub is_full : List Role → ℕ → List ℕ → Bool
is_full l s seen = not (is_delimited l) && list_all (contains (seen ++ s ∷ [])) (substreams l)

counts-frame : (l : List Role) (f : FrameRole) → IsBalanced l → contains (streams_in (open_unit l) l) f.substream ≡ false → (r : ℕ) → contains (substreams l) r ≡ true
    → frames_of (l ++ AudioFrame f ∷ []) r ≡ open_unit l + cond (contains (streams_in (open_unit l) l ++ f.substream ∷ []) r) 1 0
counts-frame l f balanced new r known =
    rw (frames_of-push l (AudioFrame f) r, balanced.counts r known, list_any-append) (one (eqb f.substream r) (contains (streams_in (open_unit l) l) r) (λ h. sym (ap (contains (streams_in (open_unit l) l)) (eqb-true f.substream r h)) ∙ new)) where
      one : (b seen : Bool) → (b ≡ true → seen ≡ false) → (open_unit l + cond seen 1 0) + cond (b || false) 1 0 ≡ open_unit l + cond (seen || (b || false)) 1 0
      one true true h = absurd (grind (arith, h refl))
      one true false h = omega arith
      one false true h = omega arith
      one false false h = omega arith

pub open_unit-frame : (l : List Role) (f : FrameRole) → IsBalanced l → is_none_of (substreams l) ≡ false → contains (streams_in (open_unit l) l) f.substream ≡ false
    → open_unit (l ++ AudioFrame f ∷ []) ≡ cond (is_full l f.substream (streams_in (open_unit l) l)) (open_unit l + 1) (open_unit l)
open_unit-frame l f balanced some new = elim (cases_Bool (is_delimited l)) [
  | inl with ↦ rw (open_unit-with (l ++ AudioFrame f ∷ []) (is_delimited-quiet l (AudioFrame f) refl ∙ with), delimiters-push l (AudioFrame f), with, open_unit-with l with, add-zero) refl
  | inr without ↦ rw (open_unit-without (l ++ AudioFrame f ∷ []) (is_delimited-quiet l (AudioFrame f) refl ∙ without), substreams-push l (AudioFrame f) refl, without)
      (least_even (open_unit l) (contains (streams_in (open_unit l) l ++ f.substream ∷ [])) (frames_of (l ++ AudioFrame f ∷ [])) (substreams l) some (counts-frame l f balanced new))
]

-- What each kind of OBU keeps.
pub streams_in-later : (l : List Role) (u : ℕ) → IsBalanced l → open_unit l < u → streams_in u l ≡ []
unfolding streams_in in_unit
streams_in-later l u balanced above = rw (later l balanced (λ v. eqb v u) (λ v h. ne_eqb v u (λ e. omega arith))) refl

pub in_unit-later : (l : List Role) (u : ℕ) → IsBalanced l → open_unit l < u → in_unit u l ≡ []
unfolding in_unit
in_unit-later l u balanced above = later l balanced (λ v. eqb v u) (λ v h. ne_eqb v u (λ e. omega arith))

pub streams_in-next : (l : List Role) (o : Role) → IsBalanced l → unit_after l o ≡ open_unit l → streams_in (open_unit l + 1) (l ++ o ∷ []) ≡ []
streams_in-next l o balanced here = rw (streams_in-push (open_unit l + 1) l o, streams_in-later l (open_unit l + 1) balanced (omega arith), here, ne_eqb (open_unit l) (open_unit l + 1) (λ e. omega arith)) (one (is_data o)) where
  one : (b : Bool) → flat_map stream_of (cond (b && false) (o ∷ []) []) ≡ []
  one true = refl
  one false = refl

within-push : (l : List Role) (o : Role) → IsBalanced l → open_unit l ≤ open_unit (l ++ o ∷ []) → (is_data o ≡ true → unit_after l o ≤ open_unit (l ++ o ∷ []))
    → (test other : ℕ → Bool) → ((u : ℕ) → u ≤ open_unit (l ++ o ∷ []) → test u ≡ other u) → in_units test (l ++ o ∷ []) ≡ in_units other (l ++ o ∷ [])
within-push l o balanced more here test other same =
    rw (in_units-push test l o, in_units-push other l o, balanced.within test other (λ u h. same u (omega (arith, more)))) (elim (cases_Bool (is_data o)) [
      | inl data_obu ↦ rw (data_obu, same (unit_after l o) (here data_obu)) refl
      | inr quiet ↦ rw quiet refl
    ])

-- an OBU that is no descriptor changes no list of descriptors
pub record IsNoDescriptor (o : Role) : Type 0 where
  pub profile : profile_of o ≡ []
  pub codec : codec_of o ≡ []
  pub element : element_of o ≡ []
  pub mix : mix_of o ≡ []
  pub streams : substreams_of o ≡ []

lacks-push : (l : List Role) (o : Role) → IsNoDescriptor o → lacks_descriptors (l ++ o ∷ []) ≡ lacks_descriptors l
unfolding lacks_descriptors profiles codecs elements mixes
lacks-push l o none = rw (flat_map-push_none profile_of l o none.profile, flat_map-push_none codec_of l o none.codec, flat_map-push_none element_of l o none.element, flat_map-push_none mix_of l o none.mix) refl

-- whether one of the mixes fits
abbrev pub fit_in : List ℕ → List ElementRole → List MixRole → Bool
fit_in ps es ms = list_any (λ m. fits_sub_mixes (first_profile ps) es m.sub_mixes m.elements) ms

pub fit_is : (l : List Role) → has_fit l ≡ fit_in (profiles l) (elements l) (mixes l)
unfolding has_fit fits
fit_is l = refl

pub fits-push : (l : List Role) (o : Role) → profile_of o ≡ [] → element_of o ≡ [] → mix_of o ≡ [] → has_fit (l ++ o ∷ []) ≡ has_fit l
fits-push l o no_profile no_element no_mix =
    fit_is (l ++ o ∷ [])
    ∙ ap (λ (ps : List ℕ). fit_in ps (elements (l ++ o ∷ [])) (mixes (l ++ o ∷ []))) (profiles-push_none l o no_profile)
    ∙ ap (λ (es : List ElementRole). fit_in (profiles l) es (mixes (l ++ o ∷ []))) (elements-push_none l o no_element)
    ∙ ap (λ (ms : List MixRole). fit_in (profiles l) (elements l) ms) (mixes-push_none l o no_mix)
    ∙ sym (fit_is l)

-- closed units stay complete
pub closed-push : (l : List Role) (o : Role) (u : ℕ) → substreams_of o ≡ [] → u < unit_after l o → is_complete u (l ++ o ∷ []) ≡ is_complete u l
unfolding is_complete
closed-push l o u same before = rw (streams_in-push u l o, substreams-push l o same, ne_eqb (unit_after l o) u (λ e. omega arith)) (one (is_data o)) where
  one : (b : Bool) → list_all (contains (streams_in u l ++ flat_map stream_of (cond (b && false) (o ∷ []) []))) (substreams l) ≡ list_all (contains (streams_in u l)) (substreams l)
  one true = rw (append-nil) refl
  one false = rw (append-nil) refl

started-push : (l : List Role) (o : Role) → IsNoDescriptor o → (lacks_descriptors l ≡ false) × (has_fit l ≡ true) → list_any is_data (l ++ o ∷ []) ≡ true → (lacks_descriptors (l ++ o ∷ []) ≡ false) × (has_fit (l ++ o ∷ []) ≡ true)
started-push l o none whole h = (lacks-push l o none ∙ whole.0, fits-push l o none.profile none.element none.mix ∙ whole.1)

-- a block
pub balanced-block : (l : List Role) (b : BlockRole) → IsBalanced l → (lacks_descriptors l ≡ false) × (has_fit l ≡ true) → IsBalanced (l ++ ParameterBlock b ∷ [])
balanced-block l b balanced whole =
    let o : Role = ParameterBlock b in
    let same : open_unit (l ++ o ∷ []) ≡ open_unit l = open_unit-quiet l o refl refl refl in
    let here : unit_after l o ≡ open_unit l = unit_after-other l o refl in
    record {
      started = started-push l o (record { profile = refl; codec = refl; element = refl; mix = refl; streams = refl }) whole;
      within = within-push l o balanced (omega arith) (λ _. omega arith);
      counts = λ s known. rw (same, frames_of-push l o s, add-zero, streams_in-push (open_unit l) l o, here, eqb_self (open_unit l), append-nil) (balanced.counts s (subst (λ (ss : List ℕ). contains ss s ≡ true) (substreams-push l o refl) known));
      closed = λ u before. closed-push l o u refl (omega arith) ∙ balanced.closed u (omega arith);
    }

pub some_streams : (l : List Role) (s : ℕ) → contains (substreams l) s ≡ true → is_none_of (substreams l) ≡ false
some_streams l s h = one (substreams l) h where
  one : (ss : List ℕ) → contains ss s ≡ true → is_none_of ss ≡ false
  one [] h = absurd (grind arith)
  one (x ∷ xs) h = refl

-- a frame
pub balanced-frame : (l : List Role) (f : FrameRole) → IsBalanced l → (lacks_descriptors l ≡ false) × (has_fit l ≡ true) → contains (substreams l) f.substream ≡ true → contains (streams_in (open_unit l) l) f.substream ≡ false → IsBalanced (l ++ AudioFrame f ∷ [])
balanced-frame l f balanced whole of_l new = elim (cases_Bool (is_full l f.substream seen)) [
  | inl full ↦
      let next : open_unit (l ++ o ∷ []) ≡ open_unit l + 1 = moves ∙ rw full refl in
      record {
        started = started-push l o none whole;
        within = within-push l o balanced (omega arith) (λ _. omega (arith, here));
        counts = λ r known. let known_l : contains (substreams l) r ≡ true = known_in_l r known in
            counts-frame l f balanced new r known_l ∙ rw (next, streams_in-next l o balanced here, all_at (contains (seen ++ f.substream ∷ [])) (substreams l) r (and_parts (not (is_delimited l)) (list_all (contains (seen ++ f.substream ∷ [])) (substreams l)) full).1 known_l) (omega arith);
        closed = λ u before. elim (cases_eq u (open_unit l)) [
          | inl last ↦ rw last (completes (and_parts (not (is_delimited l)) (list_all (contains (seen ++ f.substream ∷ [])) (substreams l)) full).1)
          | inr earlier ↦ closed-push l o u refl (omega (arith, here)) ∙ balanced.closed u (omega arith)
        ];
      }
  | inr open_still ↦
      let same : open_unit (l ++ o ∷ []) ≡ open_unit l = moves ∙ rw open_still refl in
      record {
        started = started-push l o none whole;
        within = within-push l o balanced (omega arith) (λ _. omega (arith, here));
        counts = λ r known. counts-frame l f balanced new r (known_in_l r known) ∙ rw (same, streams_in-frame l f) refl;
        closed = λ u before. closed-push l o u refl (omega (arith, here)) ∙ balanced.closed u (omega arith);
      }
] where
  o : Role
  o = AudioFrame f

  seen : List ℕ
  seen = streams_in (open_unit l) l

  none : IsNoDescriptor o
  none = record { profile = refl; codec = refl; element = refl; mix = refl; streams = refl }

  here : unit_after l o ≡ open_unit l
  here = unit_after-other l o refl

  moves : open_unit (l ++ o ∷ []) ≡ cond (is_full l f.substream seen) (open_unit l + 1) (open_unit l)
  moves = open_unit-frame l f balanced (some_streams l f.substream of_l) new

  known_in_l : (r : ℕ) → contains (substreams (l ++ o ∷ [])) r ≡ true → contains (substreams l) r ≡ true
  known_in_l r known = subst (λ (ss : List ℕ). contains ss r ≡ true) (substreams-push l o refl) known

  completes : list_all (contains (seen ++ f.substream ∷ [])) (substreams l) ≡ true → is_complete (open_unit l) (l ++ o ∷ []) ≡ true
  completes all = complete_is (open_unit l) (l ++ o ∷ []) ∙ rw (streams_in-frame l f, substreams-push l o refl) all

pub balanced-none : (l : List Role) → list_any is_data l ≡ false → IsBalanced l
balanced-none l none = record {
  started = λ has. absurd (true≢false (sym has ∙ none));
  within = λ test other same. rw (in_units-none test l none, in_units-none other l none) refl;
  counts = λ s known. rw (frames_of-none l s none, open_unit-none l none, streams_in-none 0 l none) refl;
  closed = λ u before. absurd (omega (arith, open_unit-none l none));
}

-- a reserved OBU, and any other that is neither descriptor nor data
pub balanced-ignored : (l : List Role) → IsBalanced l → IsBalanced (l ++ Ignored ∷ [])
balanced-ignored l balanced =
    let o : Role = Ignored in
    let same : open_unit (l ++ o ∷ []) ≡ open_unit l = open_unit-quiet l o refl refl refl in
    let none : IsNoDescriptor o = record { profile = refl; codec = refl; element = refl; mix = refl; streams = refl } in
    record {
      started = λ has. started-push l o none (balanced.started (sym (any-push_none is_data l o refl) ∙ has)) has;
      within = within-push l o balanced (omega arith) (λ h. absurd (grind arith));
      counts = λ s known. rw (same, frames_of-push l o s, add-zero, streams_in-push (open_unit l) l o, append-nil) (balanced.counts s (subst (λ (ss : List ℕ). contains ss s ≡ true) (substreams-push l o refl) known));
      closed = λ u before. rw (still_complete u) (balanced.closed u (omega arith));
    } where
      still_complete : (u : ℕ) → is_complete u (l ++ Ignored ∷ []) ≡ is_complete u l
      still_complete u = complete_is u (l ++ Ignored ∷ []) ∙ rw (streams_in-push u l Ignored, append-nil, substreams-push l Ignored refl) (sym (complete_is u l))

-- a delimiter's unit has no frame yet
pub streams_in-fresh : (l : List Role) → IsBalanced l → is_delimited (l ++ Delimiter ∷ []) ≡ true → streams_in (open_unit (l ++ Delimiter ∷ [])) (l ++ Delimiter ∷ []) ≡ []
streams_in-fresh l balanced with = streams_in-push (open_unit (l ++ Delimiter ∷ [])) l Delimiter ∙ rw (old, last_none (eqb (unit_after l Delimiter) (open_unit (l ++ Delimiter ∷ [])))) refl where
  last_none : (b : Bool) → flat_map stream_of (cond b (Delimiter ∷ []) []) ≡ []
  last_none true = refl
  last_none false = refl

  old : streams_in (open_unit (l ++ Delimiter ∷ [])) l ≡ []
  old = elim (cases_Bool (list_any is_data l)) [
    | inl has ↦ streams_in-later l (open_unit (l ++ Delimiter ∷ [])) balanced (omega (arith, open_unit-ended l (sym (is_delimited-kept l (Delimiter ∷ []) has) ∙ with), open_unit-delimiter l with))
    | inr nothing ↦ streams_in-none (open_unit (l ++ Delimiter ∷ [])) l nothing
  ]

pub balanced-delimiter : (l : List Role) → IsBalanced l → (lacks_descriptors l ≡ false) × (has_fit l ≡ true) → is_delimited (l ++ Delimiter ∷ []) ≡ true
    → (list_any is_data l ≡ true → is_complete (open_unit l) l ≡ true) → IsBalanced (l ++ Delimiter ∷ [])
balanced-delimiter l balanced whole with complete = record {
  started = started-push l o none whole;
  within = within-push l o balanced rises (λ _. omega (arith, here, now));
  counts = λ s known. frames_of-push l o s ∙ add-zero (frames_of l s) ∙ counted s (subst (λ (ss : List ℕ). contains ss s ≡ true) (substreams-push l o refl) known) ∙ rw (fresh) (sym (omega (arith, now)));
  closed = λ u before. closed-push l o u refl (omega (arith, here, now)) ∙ was_complete u (omega (arith, now));
} where
  o : Role
  o = Delimiter

  none : IsNoDescriptor o
  none = record { profile = refl; codec = refl; element = refl; mix = refl; streams = refl }

  now : open_unit (l ++ o ∷ []) ≡ delimiters l
  now = open_unit-delimiter l with

  here : unit_after l o ≡ delimiters l
  here = unit_after-delimiter l with

  -- the unit that ends, if there is one
  ends : (list_any is_data l ≡ true) → open_unit l + 1 ≡ delimiters l
  ends has = let before : is_delimited l ≡ true = sym (is_delimited-kept l (o ∷ []) has) ∙ with in
      rw (open_unit-with l before) (omega (arith, delimiters-some l before))

  rises : open_unit l ≤ open_unit (l ++ o ∷ [])
  rises = elim (cases_Bool (list_any is_data l)) [
    | inl has ↦ omega (arith, ends has, now)
    | inr nothing ↦ omega (arith, open_unit-none l nothing)
  ]

  fresh : streams_in (open_unit (l ++ o ∷ [])) (l ++ o ∷ []) ≡ []
  fresh = streams_in-fresh l balanced with

  was_complete : (u : ℕ) → u < delimiters l → is_complete u l ≡ true
  was_complete u before = elim (cases_Bool (list_any is_data l)) [
    | inl has ↦ elim (cases_eq u (open_unit l)) [
      | inl last ↦ rw last (complete has)
      | inr earlier ↦ balanced.closed u (omega (arith, ends has))
    ]
    | inr nothing ↦ absurd (omega (arith, delimiters-none l nothing))
  ]

  counted : (s : ℕ) → contains (substreams l) s ≡ true → frames_of l s ≡ delimiters l
  counted s known = elim (cases_Bool (list_any is_data l)) [
    | inl has ↦ balanced.counts s known ∙ rw (all_at (contains (streams_in (open_unit l) l)) (substreams l) s (sym (complete_is (open_unit l) l) ∙ complete has) known) (ends has)
    | inr nothing ↦ rw (frames_of-none l s nothing, delimiters-none l nothing) refl
  ]

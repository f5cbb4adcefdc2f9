-- What is kept of the descriptors goes on as OBUs come.
use Rattle.std.proofs.Common.{◌≡◌, ℕ, ◌+◌, ◌^◌, ◌<◌, max, Bool, true, false, ◌&&◌, ◌||◌, cond, eqb, ltb, List, [], ◌∷◌, ◌++◌, length, map, refl, sym, ap, ◌∙◌, eqb-true, eq-eqb, ne_eqb, true≢false, subst, arith}
use Rattle.std.specs.Prelude.{Option, Some, None, is_some}
use Rattle.std.specs.List.{list_any}
use Rattle.std.specs.Option.{option_map}
use Rattle.std.specs.Ordering.{nat_cmp}
use Rattle.std.specs.BTreeMap.{BTreeMap, get, btree_map_len, Updates}
use Rattle.std.specs.BTreeSet.{BTreeSet, btree_set_len}
use Rattle.std.specs.BTreeSet as set
use Rattle.std.proofs.lemmas.Bool.{or_parts}
use Rattle.std.proofs.lemmas.Bool.Decides.{nat_tests}
use Rattle.std.proofs.lemmas.List.{map_push}
use Rattle.std.proofs.lemmas.Grind.{common_steps}
use Rattle.spec_rules.specs.declared.codec_role.CodecRole.{CodecRole}
use Rattle.spec_rules.specs.Role.{Role, Ignored, SequenceHeader, CodecConfig, AudioElement, MixPresentation, ElementRole, MixRole}
use Rattle.spec_rules.specs.Descriptors.{rank, profiles, codecs, elements, mixes, first_length, frame_length}
use Rattle.spec_rules.specs.Profile.{first_profile, channels_of_element, channels_of_sub_mix, fits_channels, fits_sub_mixes, fits, has_fit}
use Rattle.spec_rules.specs.Units.{contains}
use Rattle.spec_rules.specs.Rules.{element_ids}
use Rattle.spec_rules.proofs.Basics.{or_false, any-push, flip}
use Rattle.spec_rules.proofs.DescriptorLists.{profiles-push, codecs-push, elements-push, mixes-push, profiles-push_none, codecs-push_none, elements-push_none, mixes-push_none, frame_length-push}
use Rattle.iamf_rules.specs.declared.descriptors.Descriptors.{Descriptors}
use Rattle.iamf_rules.specs.Finding.{HasAll, HasIds}
use Rattle.iamf_rules.specs.Totals.{total_of, joined, HasTotals}
use Rattle.iamf_rules.specs.DescriptorSteps.{primary_in, primary_of, profile_list, raised, with_header, with_codec}
use Rattle.iamf_rules.specs.Standing.{mix_ids, KeepsDescriptors}
use Rattle.spec_rules.proofs.Balance.{IsNoDescriptor, fit_in, fit_is, fits-push}

-- ---- ranks

ltb-max : (r a b : ℕ) → (ltb r a || ltb r b) ≡ ltb r (max a b)
ltb-max r a b = grind (arith, nat_tests)

rank-push : (d : Descriptors) (l : List Role) (o : Role) → KeepsDescriptors d l → (r : ℕ) → list_any (λ e. ltb r (rank e)) (l ++ o ∷ []) ≡ ltb r (max d.rank (rank o))
rank-push d l o k r = any-push (λ e. ltb r (rank e)) l o ∙ ap (λ b. b || ltb r (rank o)) (k.rank_is r) ∙ ltb-max r d.rank (rank o)

-- ---- without mixes nothing fits

pub no_fit : (l : List Role) → mixes l ≡ [] → has_fit l ≡ false
no_fit l none = fit_is l ∙ ap (λ (ms : List MixRole). fit_in (profiles l) (elements l) ms) none

-- ---- an OBU that is no descriptor

pub descriptors-other : (d : Descriptors) (l : List Role) (o : Role) → KeepsDescriptors d l → IsNoDescriptor o → KeepsDescriptors (raised d (rank o)) (l ++ o ∷ [])
descriptors-other d l o k none = record {
  profile = k.profile ∙ sym (profiles-push_none l o none.profile);
  rank_is = rank-push d l o k;
  codec = k.codec ∙ sym (codecs-push_none l o none.codec);
  short = rw (frame_length-push l o none.codec) k.short;
  elements_are = λ id. k.elements_are id ∙ ap (λ (es : List ElementRole). contains (map (λ e. e.id) es) id) same;
  element_count = k.element_count ∙ ap (λ (es : List ElementRole). length es) same;
  totals = λ id. k.totals id ∙ ap (λ (es : List ElementRole). option_map total_of (channels_of_element es id)) same;
  mixes_are = λ id. k.mixes_are id ∙ ap (λ (ms : List MixRole). contains (map (λ m. m.id) ms) id) same_mixes;
  mix_count = k.mix_count ∙ ap (λ (ms : List MixRole). length ms) same_mixes;
  fit = k.fit ∙ sym (fits-push l o none.profile none.element none.mix);
} where
  same : elements l ≡ elements (l ++ o ∷ [])
  same = sym (elements-push_none l o none.element)

  same_mixes : mixes l ≡ mixes (l ++ o ∷ [])
  same_mixes = sym (mixes-push_none l o none.mix)

raised-zero : (d : Descriptors) → raised d 0 ≡ d
raised-zero d = ap (λ (r : ℕ). let x : Descriptors = record d { rank = r } in x) (omega arith)

pub descriptors-ignored : (d : Descriptors) (l : List Role) → KeepsDescriptors d l → KeepsDescriptors d (l ++ Ignored ∷ [])
descriptors-ignored d l k = subst (λ (x : Descriptors). KeepsDescriptors x (l ++ Ignored ∷ [])) (raised-zero d)
    (descriptors-other d l Ignored k (record { profile = refl; codec = refl; element = refl; mix = refl; streams = refl }))

-- ---- a sequence header and a codec config

pub descriptors-header : (d : Descriptors) (l : List Role) (p : ℕ) → KeepsDescriptors d l → profiles l ≡ [] → mixes l ≡ [] → KeepsDescriptors (with_header d p) (l ++ SequenceHeader p ∷ [])
descriptors-header d l p k none no_mixes = record {
  profile = sym (profiles-push l o ∙ ap (λ (ps : List ℕ). ps ++ p ∷ []) none);
  rank_is = rank-push d l o k;
  codec = k.codec ∙ sym (codecs-push_none l o refl);
  short = rw (frame_length-push l o refl) k.short;
  elements_are = λ id. k.elements_are id ∙ ap (λ (es : List ElementRole). contains (map (λ e. e.id) es) id) same;
  element_count = k.element_count ∙ ap (λ (es : List ElementRole). length es) same;
  totals = λ id. k.totals id ∙ ap (λ (es : List ElementRole). option_map total_of (channels_of_element es id)) same;
  mixes_are = λ id. k.mixes_are id ∙ ap (λ (ms : List MixRole). contains (map (λ m. m.id) ms) id) same_mixes;
  mix_count = k.mix_count ∙ ap (λ (ms : List MixRole). length ms) same_mixes;
  fit = k.fit ∙ no_fit l no_mixes ∙ sym (no_fit (l ++ o ∷ []) (mixes-push_none l o refl ∙ no_mixes));
} where
  o : Role
  o = SequenceHeader p

  same : elements l ≡ elements (l ++ SequenceHeader p ∷ [])
  same = sym (elements-push_none l (SequenceHeader p) refl)

  same_mixes : mixes l ≡ mixes (l ++ SequenceHeader p ∷ [])
  same_mixes = sym (mixes-push_none l (SequenceHeader p) refl)

pub frame_length-first : (l : List Role) (c : CodecRole) → codecs l ≡ [] → frame_length (l ++ CodecConfig c ∷ []) ≡ c.frame_length
unfolding frame_length
frame_length-first l c none = ap first_length (codecs-push l (CodecConfig c) ∙ ap (λ (cs : List CodecRole). cs ++ c ∷ []) none)

pub descriptors-codec : (d : Descriptors) (l : List Role) (c : CodecRole) → KeepsDescriptors d l → codecs l ≡ [] → c.frame_length < 2 ^ 16 → KeepsDescriptors (with_codec d c) (l ++ CodecConfig c ∷ [])
descriptors-codec d l c k none short = record {
  profile = k.profile ∙ sym (profiles-push_none l o refl);
  rank_is = rank-push d l o k;
  codec = sym (codecs-push l o ∙ ap (λ (cs : List CodecRole). cs ++ c ∷ []) none);
  short = rw (frame_length-first l c none) short;
  elements_are = λ id. k.elements_are id ∙ ap (λ (es : List ElementRole). contains (map (λ e. e.id) es) id) same;
  element_count = k.element_count ∙ ap (λ (es : List ElementRole). length es) same;
  totals = λ id. k.totals id ∙ ap (λ (es : List ElementRole). option_map total_of (channels_of_element es id)) same;
  mixes_are = λ id. k.mixes_are id ∙ ap (λ (ms : List MixRole). contains (map (λ m. m.id) ms) id) same_mixes;
  mix_count = k.mix_count ∙ ap (λ (ms : List MixRole). length ms) same_mixes;
  fit = k.fit ∙ sym (fits-push l o refl refl refl);
} where
  o : Role
  o = CodecConfig c

  same : elements l ≡ elements (l ++ CodecConfig c ∷ [])
  same = sym (elements-push_none l (CodecConfig c) refl)

  same_mixes : mixes l ≡ mixes (l ++ CodecConfig c ∷ [])
  same_mixes = sym (mixes-push_none l (CodecConfig c) refl)

-- ---- one more id

pub has_all-push : {V : Type 0} (old new : BTreeMap ℕ V) (ids : List ℕ) (x : ℕ) (v : V) → HasAll old ids → Updates nat_cmp old new x (Some v) → HasAll new (ids ++ x ∷ [])
has_all-push {V} old new ids x v has updates id = one (eqb x id) refl where
  one : (b : Bool) → eqb x id ≡ b → is_some (get nat_cmp new id) ≡ contains (ids ++ x ∷ []) id
  one b e = ap is_some (at b e) ∙ two b ∙ sym (any-push (λ y. eqb y id) ids x ∙ ap (λ c. contains ids id || c) e) where
    at : (b : Bool) → eqb x id ≡ b → get nat_cmp new id ≡ cond b (Some v) (get nat_cmp old id)
    at true e = grind (arith, common_steps, updates)
    at false e = grind (arith, common_steps, updates)

    two : (b : Bool) → is_some (cond b (Some v) (get nat_cmp old id)) ≡ (contains ids id || b)
    two true = sym (or_true (contains ids id)) where
      or_true : (c : Bool) → (c || true) ≡ true
      or_true true = refl
      or_true false = refl
    two false = has id ∙ sym (or_false (contains ids id))

absent : {V : Type 0} (m : BTreeMap ℕ V) (ids : List ℕ) (x : ℕ) → HasAll m ids → contains ids x ≡ false → get nat_cmp m x ≡ None
absent {V} m ids x has new = one (get nat_cmp m x) (has x ∙ new) where
  one : (o : Option V) → is_some o ≡ false → o ≡ None
  one None e = refl
  one (Some v) e = absurd cc

-- ---- an element

-- an element of a new id comes last
last_element : (es : List ElementRole) (e : ElementRole) (id : ℕ) → contains (map (λ x. x.id) es) e.id ≡ false → channels_of_element (es ++ e ∷ []) id ≡ cond (eqb e.id id) e.channels (channels_of_element es id)
last_element [] e id new = refl
last_element (x ∷ xs) e id new =
    let parts : (eqb x.id e.id ≡ false) × (contains (map (λ y. y.id) xs) e.id ≡ false) = or_parts (eqb x.id e.id) (contains (map (λ y. y.id) xs) e.id) new in
    one parts.0 (eqb x.id id) refl (eqb e.id id) refl (last_element xs e id parts.1)
  where
    one : eqb x.id e.id ≡ false → (b : Bool) → eqb x.id id ≡ b → (c : Bool) → eqb e.id id ≡ c → channels_of_element (xs ++ e ∷ []) id ≡ cond c e.channels (channels_of_element xs id)
        → cond b x.channels (channels_of_element (xs ++ e ∷ []) id) ≡ cond c e.channels (cond b x.channels (channels_of_element xs id))
    one other true p true q rest = absurd (true≢false (sym (eq-eqb x.id e.id (eqb-true x.id id p ∙ sym (eqb-true e.id id q))) ∙ other))
    one other true p false q rest = refl
    one other false p true q rest = rest
    one other false p false q rest = rest

totals-push : (old new : BTreeMap ℕ (Option ℕ)) (es : List ElementRole) (e : ElementRole) → HasTotals old es → contains (map (λ x. x.id) es) e.id ≡ false
    → Updates nat_cmp old new e.id (Some (option_map total_of e.channels)) → HasTotals new (es ++ e ∷ [])
totals-push old new es e has fresh updates id = at (eqb e.id id) refl ∙ sym (ap (option_map total_of) (last_element es e id fresh)) where
  at : (b : Bool) → eqb e.id id ≡ b → joined (get nat_cmp new id) ≡ option_map total_of (cond (eqb e.id id) e.channels (channels_of_element es id))
  at true same =
      let here : get nat_cmp new id ≡ Some (option_map total_of e.channels) = grind (arith, common_steps, updates) in
      ap joined here ∙ sym (ap (λ b. option_map total_of (cond b e.channels (channels_of_element es id))) same)
  at false other =
      let still : get nat_cmp new id ≡ get nat_cmp old id = grind (arith, common_steps, updates) in
      ap joined still ∙ has id ∙ sym (ap (λ b. option_map total_of (cond b e.channels (channels_of_element es id))) other)

pub descriptors-element : (d : Descriptors) (new : BTreeMap ℕ (Option ℕ)) (l : List Role) (e : ElementRole) → KeepsDescriptors d l → mixes l ≡ [] → contains (element_ids l) e.id ≡ false
    → Updates nat_cmp d.elements new e.id (Some (option_map total_of e.channels))
    → (get nat_cmp d.elements e.id ≡ None → btree_map_len new ≡ btree_map_len d.elements + 1)
    → KeepsDescriptors (record d { elements = new; rank = max d.rank 3 }) (l ++ AudioElement e ∷ [])
descriptors-element d new l e k no_mixes fresh updates more = record {
  profile = k.profile ∙ sym (profiles-push_none l o refl);
  rank_is = rank-push d l o k;
  codec = k.codec ∙ sym (codecs-push_none l o refl);
  short = rw (frame_length-push l o refl) k.short;
  elements_are = λ id. has_all-push d.elements new (element_ids l) e.id _ k.elements_are updates id
      ∙ ap (λ (ids : List ℕ). contains ids id) (sym (ap (λ (es : List ElementRole). map (λ x. x.id) es) (elements-push l o) ∙ map_push (λ (x : ElementRole). x.id) (elements l) e));
  element_count = more (absent d.elements (element_ids l) e.id k.elements_are fresh) ∙ ap (λ n. n + 1) k.element_count ∙ sized (elements l) ∙ ap (λ (es : List ElementRole). length es) (sym (elements-push l o));
  totals = λ id. totals-push d.elements new (elements l) e k.totals fresh updates id ∙ ap (λ (es : List ElementRole). option_map total_of (channels_of_element es id)) (sym (elements-push l o));
  mixes_are = λ id. k.mixes_are id ∙ ap (λ (ms : List MixRole). contains (map (λ m. m.id) ms) id) same_mixes;
  mix_count = k.mix_count ∙ ap (λ (ms : List MixRole). length ms) same_mixes;
  fit = k.fit ∙ no_fit l no_mixes ∙ sym (no_fit (l ++ o ∷ []) (mixes-push_none l o refl ∙ no_mixes));
} where
  o : Role
  o = AudioElement e

  sized : (es : List ElementRole) → length es + 1 ≡ length (es ++ e ∷ [])
  sized es = grind (arith, common_steps)

  same_mixes : mixes l ≡ mixes (l ++ AudioElement e ∷ [])
  same_mixes = sym (mixes-push_none l (AudioElement e) refl)

-- ---- a mix

first_in : (p : Option ℕ) → primary_in p ≡ first_profile (profile_list p)
first_in None = refl
first_in (Some p) = refl

pub primary_is : (d : Descriptors) (l : List Role) → KeepsDescriptors d l → primary_of d ≡ first_profile (profiles l)
primary_is d l k = first_in d.profile ∙ ap first_profile k.profile

pub fits_are : (d : Descriptors) (l : List Role) (m : MixRole) → KeepsDescriptors d l
    → (eqb m.sub_mixes 1 && fits_channels (primary_of d) (length m.elements) (channels_of_sub_mix (elements l) m.elements)) ≡ fits l m
unfolding fits
fits_are d l m k = ap (λ p. fits_sub_mixes p (elements l) m.sub_mixes m.elements) (primary_is d l k)

pub fits_one : (d : Descriptors) (l : List Role) (m : MixRole) (ids : List ℕ) (count : ℕ) → KeepsDescriptors d l → m.elements ≡ ids → m.sub_mixes ≡ count → count ≡ 1
    → fits_channels (primary_of d) (length ids) (channels_of_sub_mix (elements l) ids) ≡ fits l m
fits_one d l m ids count k are count_is one = rw (← are) (sym (ap (λ b. b && fits_channels (primary_of d) (length m.elements) (channels_of_sub_mix (elements l) m.elements)) (eq-eqb m.sub_mixes 1 (count_is ∙ one))) ∙ fits_are d l m k)

pub fits_many : (d : Descriptors) (l : List Role) (m : MixRole) (count : ℕ) → KeepsDescriptors d l → m.sub_mixes ≡ count → (count ≡ 1 → ⊥) → eqb count 1 ≡ fits l m
fits_many d l m count k count_is many =
    ne_eqb count 1 many ∙ sym (sym (fits_are d l m k) ∙ ap (λ b. b && fits_channels (primary_of d) (length m.elements) (channels_of_sub_mix (elements l) m.elements)) (ap (λ n. eqb n 1) count_is ∙ ne_eqb count 1 many))

has_fit-push : (l : List Role) (m : MixRole) → has_fit (l ++ MixPresentation m ∷ []) ≡ (has_fit l || fits l m)
unfolding fits
has_fit-push l m =
    fit_is (l ++ o ∷ [])
    ∙ ap (λ (ps : List ℕ). fit_in ps (elements (l ++ o ∷ [])) (mixes (l ++ o ∷ []))) (profiles-push_none l o refl)
    ∙ ap (λ (es : List ElementRole). fit_in (profiles l) es (mixes (l ++ o ∷ []))) (elements-push_none l o refl)
    ∙ ap (λ (ms : List MixRole). fit_in (profiles l) (elements l) ms) (mixes-push l o)
    ∙ any-push (λ (x : MixRole). fits_sub_mixes (first_profile (profiles l)) (elements l) x.sub_mixes x.elements) (mixes l) m
    ∙ ap (λ b. b || fits_sub_mixes (first_profile (profiles l)) (elements l) m.sub_mixes m.elements) (sym (fit_is l))
  where
    o : Role
    o = MixPresentation m

has_ids-push : (old new : BTreeSet ℕ) (ids : List ℕ) (x : ℕ) → HasIds old ids → set.Updates nat_cmp old new x true → HasIds new (ids ++ x ∷ [])
has_ids-push old new ids x has updates id = grind (arith, common_steps, updates, has id, any-push (λ y. eqb y id) ids x, flip x id)

pub descriptors-mix : (d : Descriptors) (new : BTreeSet ℕ) (fit : Bool) (l : List Role) (m : MixRole) → KeepsDescriptors d l → contains (mix_ids l) m.id ≡ false
    → set.Updates nat_cmp d.mixes new m.id true
    → (set.contains nat_cmp d.mixes m.id ≡ false → btree_set_len new ≡ btree_set_len d.mixes + 1)
    → fit ≡ (d.has_fit || fits l m)
    → KeepsDescriptors (record d { mixes = new; has_fit = fit; rank = max d.rank 4 }) (l ++ MixPresentation m ∷ [])
descriptors-mix d new fit l m k fresh updates more fit_is_now = record {
  profile = k.profile ∙ sym (profiles-push_none l o refl);
  rank_is = rank-push d l o k;
  codec = k.codec ∙ sym (codecs-push_none l o refl);
  short = rw (frame_length-push l o refl) k.short;
  elements_are = λ id. k.elements_are id ∙ ap (λ (es : List ElementRole). contains (map (λ e. e.id) es) id) same;
  element_count = k.element_count ∙ ap (λ (es : List ElementRole). length es) same;
  totals = λ id. k.totals id ∙ ap (λ (es : List ElementRole). option_map total_of (channels_of_element es id)) same;
  mixes_are = λ id. has_ids-push d.mixes new (mix_ids l) m.id k.mixes_are updates id
      ∙ ap (λ (ids : List ℕ). contains ids id) (sym (ap (λ (ms : List MixRole). map (λ x. x.id) ms) (mixes-push l o) ∙ map_push (λ (x : MixRole). x.id) (mixes l) m));
  mix_count = more (k.mixes_are m.id ∙ fresh) ∙ ap (λ n. n + 1) k.mix_count ∙ sized (mixes l) ∙ ap (λ (ms : List MixRole). length ms) (sym (mixes-push l o));
  fit = fit_is_now ∙ ap (λ b. b || fits l m) k.fit ∙ sym (has_fit-push l m);
} where
  o : Role
  o = MixPresentation m

  sized : (ms : List MixRole) → length ms + 1 ≡ length (ms ++ m ∷ [])
  sized ms = grind (arith, common_steps)

  same : elements l ≡ elements (l ++ MixPresentation m ∷ [])
  same = sym (elements-push_none l (MixPresentation m) refl)

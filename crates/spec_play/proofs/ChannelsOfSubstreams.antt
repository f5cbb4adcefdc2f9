-- The number of channels of each substream of the elements of a sequence.
use Rattle.std.proofs.Common.{◌≡◌, ℕ, true, false, eqb, List, [], ◌∷◌, ◌++◌, map, refl, sym, ap, subst, ◌∙◌, inl, inr, eq-eqb}
use Rattle.std.specs.Prelude.{◌⊎◌, Option, Some, None}
use Rattle.std.specs.List.{flat_map, zip}
use Rattle.std.proofs.lemmas.Bool.{cases_Bool, or_parts, or_left, or_right, false≢true}
use Rattle.std.proofs.lemmas.List.{map-append}
use Rattle.std.proofs.lemmas.List.Folds.{flat_map-map}
use Rattle.spec_descriptors.specs.AudioElement.{AudioElementFields, substream_channels_of}
use Rattle.spec_values.specs.Value.{ObuValue}
use Rattle.spec_rules.specs.Role.{ElementRole, Role, AudioElement}
use Rattle.spec_rules.specs.Descriptors.{element_of, elements, substreams_of, substreams, channels_in, pairs_in, pairs_of, channels_of}
use Rattle.spec_rules.specs.Units.{contains, are_apart}
use Rattle.spec_rules.specs.Admitted.{IsAdmitted}
use Rattle.spec_rules.proofs.Basics.{flip}
use Rattle.spec_rules.proofs.DistinctIds.{apart_parts}
use Rattle.spec_rules.proofs.Lawful.{lawful}
use Rattle.spec_sequence.specs.ValueRole.{element_role}
use Rattle.spec_sequence.specs.Parts.{roles_of, audio_elements}
use Rattle.spec_sequence.proofs.RolesOfParts.{elements_are}
use Rattle.spec_play.proofs.Tests.{Each, each_front, each_back}

abbrev ids_of : List (ℕ × ℕ) → List ℕ
ids_of ps = map (λ p. p.0) ps

-- ---- the first pair of an id, where each id stands once

abbrev IsFirst : List (ℕ × ℕ) → ℕ × ℕ → Type 0
IsFirst ps p = channels_in ps p.0 ≡ Some p.1

after_other : (q : ℕ × ℕ) (qs ps : List (ℕ × ℕ)) → contains (ids_of ps) q.0 ≡ false → Each (IsFirst qs) ps → Each (IsFirst (q ∷ qs)) ps
after_other q qs [] new all = tt
after_other q qs (p ∷ ps) new all =
    let parts = or_parts (eqb p.0 q.0) (contains (ids_of ps) q.0) new in
    (rw (flip q.0 p.0, parts.0) all.0, after_other q qs ps parts.1 all.1)

all_first : (ps : List (ℕ × ℕ)) → are_apart (ids_of ps) ≡ true → Each (IsFirst ps) ps
all_first [] apart = tt
all_first (p ∷ ps) apart =
    let parts = apart_parts p.0 (ids_of ps) apart in
    (rw (eq-eqb p.0 p.0 refl) refl, after_other p ps ps parts.0 (all_first ps parts.1))

-- ---- some of the ids of a list, in their order

abbrev IsPart : List ℕ → List ℕ → Type 0
IsPart ks [] = ks ≡ []
IsPart ks (x ∷ xs) = IsPart ks xs ⊎ ((js : List ℕ) × (ks ≡ x ∷ js) × IsPart js xs)

part-none : (xs : List ℕ) → IsPart [] xs
part-none [] = refl
part-none (x ∷ xs) = inl (part-none xs)

part-append : (ks xs js ys : List ℕ) → IsPart ks xs → IsPart js ys → IsPart (ks ++ js) (xs ++ ys)
part-append ks [] js ys p q = subst (λ (is : List ℕ). IsPart (is ++ js) ys) (sym p) q
part-append ks (x ∷ xs) js ys (inl p) q = inl (part-append ks xs js ys p q)
part-append ks (x ∷ xs) js ys (inr (is, e, p)) q = inr (is ++ js, ap (λ (zs : List ℕ). zs ++ js) e, part-append is xs js ys p q)

part-lacks : (ks xs : List ℕ) (x : ℕ) → IsPart ks xs → contains xs x ≡ false → contains ks x ≡ false
part-lacks ks [] x p none = rw p refl
part-lacks ks (y ∷ ys) x (inl p) none = part-lacks ks ys x p (or_parts (eqb y x) (contains ys x) none).1
part-lacks ks (y ∷ ys) x (inr (js, e, p)) none =
    let parts = or_parts (eqb y x) (contains ys x) none in
    rw (e, parts.0) (part-lacks js ys x p parts.1)

part-apart : (ks xs : List ℕ) → IsPart ks xs → are_apart xs ≡ true → are_apart ks ≡ true
part-apart ks [] p apart = rw p refl
part-apart ks (y ∷ ys) (inl p) apart = part-apart ks ys p (apart_parts y ys apart).1
part-apart ks (y ∷ ys) (inr (js, e, p)) apart =
    let parts = apart_parts y ys apart in
    rw (e, part-lacks js ys y p parts.0) (part-apart js ys p parts.1)

part-has : (ks xs : List ℕ) (x : ℕ) → IsPart ks xs → contains ks x ≡ true → contains xs x ≡ true
part-has ks xs x p has = elim (cases_Bool (contains xs x)) [
  | inl there ↦ there
  | inr none ↦ absurd (false≢true (sym (part-lacks ks xs x p none) ∙ has))
]

part-zip : (xs cs : List ℕ) → IsPart (ids_of (zip xs cs)) xs
part-zip [] cs = refl
part-zip (x ∷ xs) [] = inl (part-none xs)
part-zip (x ∷ xs) (c ∷ cs) = inr (ids_of (zip xs cs), refl, part-zip xs cs)

part-pairs : (xs : List ℕ) (cs : Option (List ℕ)) → IsPart (ids_of (pairs_in xs cs)) xs
part-pairs xs None = part-none xs
part-pairs xs (Some cs) = part-zip xs cs

part-role : (o : Role) → IsPart (ids_of (pairs_of o)) (substreams_of o)
part-role (AudioElement e) = part-pairs e.substreams e.channels
part-role _ = refl

part-roles : (l : List Role) → IsPart (ids_of (flat_map pairs_of l)) (flat_map substreams_of l)
part-roles [] = refl
part-roles (o ∷ os) =
    subst (λ (ks : List ℕ). IsPart ks (substreams_of o ++ flat_map substreams_of os)) (sym (map-append (λ (p : ℕ × ℕ). p.0) (pairs_of o) (flat_map pairs_of os)))
    (part-append (ids_of (pairs_of o)) (substreams_of o) (ids_of (flat_map pairs_of os)) (flat_map substreams_of os) (part-role o) (part-roles os))

-- ---- the substreams of a list

-- a known substream of so many channels
pub record IsStream (l : List Role) (p : ℕ × ℕ) : Type 0 where
  pub channels : channels_of l p.0 ≡ Some p.1
  pub known : contains (substreams l) p.0 ≡ true

all_known : (ps : List (ℕ × ℕ)) (ss : List ℕ) → ((x : ℕ) → contains (ids_of ps) x ≡ true → contains ss x ≡ true) → Each (λ p. contains ss p.0 ≡ true) ps
all_known [] ss within = tt
all_known (p ∷ ps) ss within =
    (within p.0 (or_left (eqb p.0 p.0) (contains (ids_of ps) p.0) (eq-eqb p.0 p.0 refl)), all_known ps ss (λ x h. within x (or_right (eqb p.0 x) (contains (ids_of ps) x) h)))

both : (l : List Role) (ps : List (ℕ × ℕ)) → Each (λ p. channels_of l p.0 ≡ Some p.1) ps → Each (λ p. contains (substreams l) p.0 ≡ true) ps → Each (IsStream l) ps
both l [] c k = tt
both l (p ∷ ps) c k = (record { channels = c.0; known = k.0 }, both l ps c.1 k.1)

channels_first : (l : List Role) → are_apart (substreams l) ≡ true → Each (λ p. channels_of l p.0 ≡ Some p.1) (flat_map pairs_of l)
unfolding channels_of substreams
channels_first l apart = all_first (flat_map pairs_of l) (part-apart (ids_of (flat_map pairs_of l)) (flat_map substreams_of l) (part-roles l) apart)

streams_known : (l : List Role) → Each (λ p. contains (substreams l) p.0 ≡ true) (flat_map pairs_of l)
unfolding substreams
streams_known l = all_known (flat_map pairs_of l) (flat_map substreams_of l) (λ x h. part-has (ids_of (flat_map pairs_of l)) (flat_map substreams_of l) x (part-roles l) h)

all_streams : (l : List Role) → IsAdmitted l → Each (IsStream l) (flat_map pairs_of l)
all_streams l admitted = both l (flat_map pairs_of l) (channels_first l (lawful l admitted).orderly.apart) (streams_known l)

-- ---- by the elements of a sequence

by_elements : (l : List Role) → flat_map pairs_of l ≡ flat_map (λ e. pairs_in e.substreams e.channels) (flat_map element_of l)
by_elements [] = refl
by_elements (AudioElement e ∷ os) = ap (λ (ps : List (ℕ × ℕ)). pairs_in e.substreams e.channels ++ ps) (by_elements os)
by_elements (o ∷ os) = by_elements os

elements_is : (l : List Role) → flat_map element_of l ≡ elements l
unfolding elements
elements_is l = refl

-- the pairs of a substream and its number of channels
abbrev pub streams_of : AudioElementFields → List (ℕ × ℕ)
streams_of e = pairs_in e.audio_substream_ids (substream_channels_of e.config)

pairs_are : (s : List ObuValue) → flat_map pairs_of (roles_of s) ≡ flat_map streams_of (audio_elements s)
pairs_are s =
    by_elements (roles_of s)
    ∙ ap (flat_map (λ (e : ElementRole). pairs_in e.substreams e.channels)) (elements_is (roles_of s) ∙ elements_are s)
    ∙ flat_map-map (λ (e : ElementRole). pairs_in e.substreams e.channels) element_role (audio_elements s)

each_piece : {A B : Type 0} (P : B → Type 0) (f : A → List B) (xs : List A) → Each P (flat_map f xs) → Each (λ x. Each P (f x)) xs
each_piece P f [] all = tt
each_piece P f (x ∷ xs) all = (each_front P (f x) (flat_map f xs) all, each_piece P f xs (each_back P (f x) (flat_map f xs) all))

pub element_streams : (s : List ObuValue) → IsAdmitted (roles_of s) → Each (λ e. Each (IsStream (roles_of s)) (streams_of e)) (audio_elements s)
element_streams s admitted =
    each_piece (IsStream (roles_of s)) streams_of (audio_elements s) (subst (Each (IsStream (roles_of s))) (pairs_are s) (all_streams (roles_of s) admitted))

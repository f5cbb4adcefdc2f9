-- The frames of the temporal units of a sequence, by the roles of its OBUs.
use Rattle.std.proofs.Common.{◌≡◌, ℕ, zero, suc, ◌≤◌, ◌<◌, ◌+◌, Bool, true, false, eqb, List, [], ◌∷◌, ◌++◌, length, map, get_or, refl, sym, ap, ap₂, ◌∙◌, inl, inr, arith, length-append, add-one}
use Rattle.std.specs.Prelude.{if◌then◌else◌, ◌==◌}
use Rattle.std.specs.List.{flat_map}
use Rattle.std.proofs.lemmas.Bool.{cases_Bool, cases_lt, false≢true}
use Rattle.std.proofs.lemmas.List.{map-append}
use Rattle.std.proofs.lemmas.Grind.{flat_map-append}
use Rattle.spec_values.specs.Content.{Content, Header, Codec, Element, Mix, Block, Frame, Nothing}
use Rattle.spec_obu.specs.Header.{Head}
use Rattle.spec_obu.specs.Kinds.{obu_type_of}
use Rattle.spec_values.specs.Value.{ObuValue}
use Rattle.spec_rules.specs.Role.{Role, AudioFrame}
use Rattle.spec_rules.specs.Units.{is_data, stream_of, trim_of, unit_after, placed_after, placed, if_unit, in_units, in_unit, streams_in, trims_in, unit_count}
use Rattle.spec_rules.proofs.Placing.{last_in}
use Rattle.spec_rules.proofs.UnitLists.{in_unit-push}
use Rattle.spec_sequence.specs.ValueRole.{role, role_in}
use Rattle.spec_sequence.specs.Parts.{roles_of, FrameValue, frame_in, frame_of, numbered_after, if_of_unit, obus_of, UnitValue, unit_value, units_up_to, temporal_units}
use Rattle.spec_sequence.proofs.Roles.{nothing_of}

abbrev pub frame_of_role : Role → List FrameValue
frame_of_role (AudioFrame f) = record { substream = f.substream; trim = f.trim; bytes = f.bytes } ∷ []
frame_of_role _ = []

abbrev pub frames_in : ℕ → List Role → List FrameValue
frames_in u l = flat_map frame_of_role (in_unit u l)

pub frames_in-push : (u : ℕ) (l : List Role) (o : Role) → frames_in u (l ++ o ∷ []) ≡ frames_in u l ++ flat_map frame_of_role (last_in (λ v. eqb v u) l o)
frames_in-push u l o = ap (flat_map frame_of_role) (in_unit-push u l o) ∙ flat_map-append frame_of_role (in_unit u l) (last_in (λ v. eqb v u) l o)

-- ---- their substreams and trims

map_of_frames : {X : Type 0} (part : Role → List X) (f : FrameValue → X) → ((o : Role) → part o ≡ map f (frame_of_role o)) → (os : List Role) → flat_map part os ≡ map f (flat_map frame_of_role os)
map_of_frames part f same [] = refl
map_of_frames {X} part f same (o ∷ os) =
    ap₂ (λ (xs ys : List X). xs ++ ys) (same o) (map_of_frames part f same os) ∙ sym (map-append f (frame_of_role o) (flat_map frame_of_role os))

stream_is : (o : Role) → stream_of o ≡ map (λ f. f.substream) (frame_of_role o)
stream_is (AudioFrame f) = refl
stream_is _ = refl

trim_is : (o : Role) → trim_of o ≡ map (λ f. f.trim) (frame_of_role o)
trim_is (AudioFrame f) = refl
trim_is _ = refl

pub streams_are : (u : ℕ) (l : List Role) → streams_in u l ≡ map (λ f. f.substream) (frames_in u l)
unfolding streams_in
streams_are u l = map_of_frames stream_of (λ f. f.substream) stream_is (in_unit u l)

pub trims_are : (u : ℕ) (l : List Role) → trims_in u l ≡ map (λ f. f.trim) (frames_in u l)
unfolding trims_in
trims_are u l = map_of_frames trim_of (λ f. f.trim) trim_is (in_unit u l)

-- ---- by the OBUs' values

same_frames : (u : ℕ) (l : List Role) (s : List ObuValue) (same : (o : ObuValue) → is_data (role o) ≡ true → frame_of_role (role o) ≡ frame_of o)
    → flat_map frame_of_role (flat_map (if_unit (λ v. v == u)) (placed_after l (map role s))) ≡ flat_map frame_of (flat_map (if_of_unit u) (numbered_after l s))
same_frames u l [] same = refl
same_frames u l (o ∷ os) same =
    let rest : flat_map frame_of_role (flat_map (if_unit (λ v. v == u)) ps) ≡ flat_map frame_of (flat_map (if_of_unit u) vs) = same_frames u (l ++ role o ∷ []) os same in
    elim (cases_Bool (is_data (role o))) [ inl data_obu ↦ rw data_obu (here (eqb (unit_after l (role o)) u) (same o data_obu) rest) | inr quiet ↦ rw quiet rest ]
  where
    ps : List (ℕ × Role)
    ps = placed_after (l ++ role o ∷ []) (map role os)

    vs : List (ℕ × ObuValue)
    vs = numbered_after (l ++ role o ∷ []) os

    here : (b : Bool) → frame_of_role (role o) ≡ frame_of o → flat_map frame_of_role (flat_map (if_unit (λ v. v == u)) ps) ≡ flat_map frame_of (flat_map (if_of_unit u) vs)
        → flat_map frame_of_role ((if b then role o ∷ [] else []) ++ flat_map (if_unit (λ v. v == u)) ps) ≡ flat_map frame_of ((if b then o ∷ [] else []) ++ flat_map (if_of_unit u) vs)
    here true e rest = ap₂ (λ (xs ys : List FrameValue). xs ++ ys) e rest
    here false e rest = rest

frame_is : (h : Head) (c : Content) (tail : List ℕ) → h.redundant ≡ false → frame_of_role (role_in h c tail) ≡ frame_in h c tail
frame_is h (Header x) tail plain = rw plain refl
frame_is h (Codec x) tail plain = rw plain refl
frame_is h (Element x) tail plain = rw plain refl
frame_is h (Mix x) tail plain = rw plain refl
frame_is h (Block x) tail plain = rw plain refl
frame_is h (Frame x) tail plain = rw plain refl
frame_is h Nothing tail plain = rw plain (nothing_of frame_of_role refl refl (obu_type_of h.kind))

-- a data OBU is no redundant copy
pub data_is_plain : (o : ObuValue) → is_data (role o) ≡ true → o.head.redundant ≡ false
data_is_plain o e = elim (cases_Bool o.head.redundant) [ inl copy ↦ absurd (false≢true (rw copy at e)) | inr plain ↦ plain ]

pub unit_frames : (u : ℕ) (s : List ObuValue) → frames_in u (roles_of s) ≡ (unit_value u s).frames
unfolding in_unit in_units placed obus_of
unit_frames u s = same_frames u [] s (λ o e. frame_is o.head o.content o.tail (data_is_plain o e))

-- ---- a unit by its number

pub length-units_up_to : (n : ℕ) (s : List ObuValue) → length (units_up_to n s) ≡ n
length-units_up_to zero s = refl
length-units_up_to (suc n) s = simp length-append (ap (λ m. m + 1) (length-units_up_to n s) ∙ add-one n)

pub length-units : (s : List ObuValue) → length (temporal_units s) ≡ unit_count (roles_of s)
unfolding temporal_units
length-units s = length-units_up_to (unit_count (roles_of s)) s

get_last : (vs : List UnitValue) (v d : UnitValue) → get_or (vs ++ v ∷ []) (length vs) d ≡ v
get_last [] v d = refl
get_last (x ∷ vs) v d = get_last vs v d

get_front : (vs ws : List UnitValue) (i : ℕ) (d : UnitValue) → i < length vs → get_or (vs ++ ws) i d ≡ get_or vs i d
get_front [] ws i d below = absurd (omega arith)
get_front (x ∷ vs) ws zero d below = refl
get_front (x ∷ vs) ws (suc i) d below = get_front vs ws i d (omega arith)

unit_of_first : (n u : ℕ) (s : List ObuValue) (d : UnitValue) → u < n → get_or (units_up_to n s) u d ≡ unit_value u s
unit_of_first zero u s d below = absurd (omega arith)
unit_of_first (suc n) u s d below = elim (cases_lt u n) [
  | inl less ↦ get_front (units_up_to n s) (unit_value n s ∷ []) u d (let e = length-units_up_to n s in omega arith) ∙ unit_of_first n u s d less
  | inr more ↦
      ap (λ i. get_or (units_up_to n s ++ unit_value n s ∷ []) i d) (last more) ∙ get_last (units_up_to n s) (unit_value n s) d
      ∙ ap (λ i. unit_value i s) (same more)
] where
  last : n ≤ u → u ≡ length (units_up_to n s)
  last more = omega (arith, length-units_up_to n s)

  same : n ≤ u → n ≡ u
  same more = omega arith

pub unit_at : (s : List ObuValue) (u : ℕ) (d : UnitValue) → u < unit_count (roles_of s) → get_or (temporal_units s) u d ≡ unit_value u s
unfolding temporal_units
unit_at s u d below = unit_of_first (unit_count (roles_of s)) u s d below

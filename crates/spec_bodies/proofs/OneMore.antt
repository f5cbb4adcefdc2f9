-- The body of a sequence with one more OBU.
use Rattle.std.proofs.Common.{◌≡◌, ℕ, zero, suc, ◌+◌, ◌<◌, Bool, true, false, cond, eqb, List, [], ◌∷◌, ◌++◌, length, refl, sym, ap, ap₂, ◌∙◌, append_assoc, append-nil, add-one, ne_eqb, eq-eqb, length-append, arith}
use Rattle.std.specs.Prelude.{if◌then◌else◌}
use Rattle.std.specs.List.{flat_map}
use Rattle.std.proofs.lemmas.List.{map-append}
use Rattle.spec_obu.specs.Listing.{Obu, joined}
use Rattle.spec_rules.specs.Role.{Role}
use Rattle.spec_rules.specs.Units.{unit_after, unit_count}
use Rattle.spec_rules.proofs.Basics.{flat_map-push}
use Rattle.spec_files.specs.Body.{is_descriptor, is_data, descriptor_bytes, marked, rebuilt}
use Rattle.spec_files.proofs.Delimiter.{bytes-append}
use Rattle.spec_bodies.specs.Spelled.{Spelled, obu_of, role_of, obus_of, roles_of, bytes_of}
use Rattle.spec_bodies.specs.SequenceBody.{placed_after, bytes_if, unit_bytes, units_up_to, units, descriptors}

-- ---- bytes and descriptors

pub bytes-push : (os : List Spelled) (o : Spelled) → bytes_of (os ++ o ∷ []) ≡ bytes_of os ++ o.bytes
bytes-push os o = ap joined (map-append obu_of os (o ∷ [])) ∙ bytes-append (obus_of os) (obu_of o ∷ []) ∙ ap (λ (b : List ℕ). bytes_of os ++ b) (append-nil o.bytes)

descriptor_bytes-push : (os : List Obu) (o : Obu) → descriptor_bytes (os ++ o ∷ []) ≡ descriptor_bytes os ++ cond (is_descriptor o) o.bytes []
descriptor_bytes-push [] o = one (is_descriptor o) where
  one : (b : Bool) → cond b (o.bytes ++ []) [] ≡ cond b o.bytes []
  one true = append-nil o.bytes
  one false = refl
descriptor_bytes-push (x ∷ xs) o = one (is_descriptor x) (descriptor_bytes-push xs o) where
  one : (b : Bool) → descriptor_bytes (xs ++ o ∷ []) ≡ descriptor_bytes xs ++ cond (is_descriptor o) o.bytes []
      → cond b (x.bytes ++ descriptor_bytes (xs ++ o ∷ [])) (descriptor_bytes (xs ++ o ∷ [])) ≡ cond b (x.bytes ++ descriptor_bytes xs) (descriptor_bytes xs) ++ cond (is_descriptor o) o.bytes []
  one true rest = ap (λ (b : List ℕ). x.bytes ++ b) rest ∙ sym (append_assoc x.bytes (descriptor_bytes xs) (cond (is_descriptor o) o.bytes []))
  one false rest = rest

pub descriptors-none : descriptors [] ≡ []
unfolding descriptors
descriptors-none = refl

pub descriptors-push : (os : List Spelled) (o : Spelled) → descriptors (os ++ o ∷ []) ≡ descriptors os ++ cond (is_descriptor (obu_of o)) o.bytes []
unfolding descriptors
descriptors-push os o = ap descriptor_bytes (map-append obu_of os (o ∷ [])) ∙ descriptor_bytes-push (obus_of os) (obu_of o)

pub descriptors-more : (os : List Spelled) (o : Spelled) → is_descriptor (obu_of o) ≡ true → descriptors (os ++ o ∷ []) ≡ descriptors os ++ o.bytes
descriptors-more os o is = descriptors-push os o ∙ ap (λ b. descriptors os ++ cond b o.bytes []) is

pub descriptors-same : (os : List Spelled) (o : Spelled) → is_descriptor (obu_of o) ≡ false → descriptors (os ++ o ∷ []) ≡ descriptors os
descriptors-same os o is = descriptors-push os o ∙ ap (λ b. descriptors os ++ cond b o.bytes []) is ∙ append-nil (descriptors os)

-- ---- placed OBUs

abbrev pub placed_last : List Role → Spelled → List (ℕ × Spelled)
placed_last l o = if is_data (obu_of o) then (unit_after l (role_of o), o) ∷ [] else []

placed_after-push : (l : List Role) (os : List Spelled) (o : Spelled) → placed_after l (os ++ o ∷ []) ≡ placed_after l os ++ placed_last (l ++ roles_of os) o
placed_after-push l [] o = rw (append-nil, append-nil) refl
placed_after-push l (x ∷ xs) o =
    rw (placed_after-push (l ++ role_of x ∷ []) xs o, append_assoc l (role_of x ∷ []) (roles_of xs)) (sym (append_assoc (placed_last l x) _ _))

pub placed-push : (os : List Spelled) (o : Spelled) → placed_after [] (os ++ o ∷ []) ≡ placed_after [] os ++ placed_last (roles_of os) o
placed-push os o = placed_after-push [] os o

pub placed-none : (os : List Spelled) (o : Spelled) → is_data (obu_of o) ≡ false → placed_after [] (os ++ o ∷ []) ≡ placed_after [] os
placed-none os o none = placed-push os o ∙ ap (λ (ps : List (ℕ × Spelled)). placed_after [] os ++ ps) last ∙ append-nil (placed_after [] os) where
  last : placed_last (roles_of os) o ≡ []
  last = rw none refl

pub placed-some : (os : List Spelled) (o : Spelled) → is_data (obu_of o) ≡ true → placed_after [] (os ++ o ∷ []) ≡ placed_after [] os ++ (unit_after (roles_of os) (role_of o), o) ∷ []
placed-some os o some = placed-push os o ∙ ap (λ (ps : List (ℕ × Spelled)). placed_after [] os ++ ps) last where
  last : placed_last (roles_of os) o ≡ (unit_after (roles_of os) (role_of o), o) ∷ []
  last = rw some refl

-- ---- the bytes of a unit

pub unit-other : (os : List Spelled) (o : Spelled) (v : ℕ) → is_data (obu_of o) ≡ false → unit_bytes (os ++ o ∷ []) v ≡ unit_bytes os v
unfolding unit_bytes
unit-other os o v none = ap (flat_map (bytes_if v)) (placed-none os o none)

unit-push : (os : List Spelled) (o : Spelled) (v : ℕ) → is_data (obu_of o) ≡ true → unit_bytes (os ++ o ∷ []) v ≡ unit_bytes os v ++ cond (eqb (unit_after (roles_of os) (role_of o)) v) o.bytes []
unfolding unit_bytes
unit-push os o v some = ap (flat_map (bytes_if v)) (placed-some os o some) ∙ flat_map-push (bytes_if v) (placed_after [] os) (unit_after (roles_of os) (role_of o), o)

pub unit-here : (os : List Spelled) (o : Spelled) (v : ℕ) → is_data (obu_of o) ≡ true → unit_after (roles_of os) (role_of o) ≡ v → unit_bytes (os ++ o ∷ []) v ≡ unit_bytes os v ++ o.bytes
unit-here os o v some here = unit-push os o v some ∙ ap (λ b. unit_bytes os v ++ cond b o.bytes []) (eq-eqb (unit_after (roles_of os) (role_of o)) v here)

pub unit-apart : (os : List Spelled) (o : Spelled) (v : ℕ) → is_data (obu_of o) ≡ true → (unit_after (roles_of os) (role_of o) ≡ v → ⊥) → unit_bytes (os ++ o ∷ []) v ≡ unit_bytes os v
unit-apart os o v some apart =
    unit-push os o v some ∙ ap (λ b. unit_bytes os v ++ cond b o.bytes []) (ne_eqb (unit_after (roles_of os) (role_of o)) v apart) ∙ append-nil (unit_bytes os v)

-- ---- units

pub up_to-same : (os ps : List Spelled) (n : ℕ) → ((v : ℕ) → v < n → unit_bytes os v ≡ unit_bytes ps v) → units_up_to os n ≡ units_up_to ps n
up_to-same os ps zero same = refl
up_to-same os ps (suc n) same = ap₂ (λ (us : List (List ℕ)) (u : List ℕ). us ++ u ∷ []) (up_to-same os ps n (λ v less. same v (omega arith))) (same n (omega arith))

abbrev begun : List Spelled → ℕ
begun os = unit_count (roles_of os)

units-at : (os : List Spelled) (n : ℕ) → begun os ≡ n → units os ≡ units_up_to os n
unfolding units
units-at os n is = ap (units_up_to os) is

pub units-none : (os : List Spelled) → begun os ≡ 0 → units os ≡ []
units-none os none = units-at os 0 none

units-last : (os : List Spelled) (n : ℕ) → begun os ≡ n + 1 → units os ≡ units_up_to os n ++ unit_bytes os n ∷ []
units-last os n is = units-at os (suc n) (is ∙ add-one n)

pub units-quiet : (os : List Spelled) (o : Spelled) → is_data (obu_of o) ≡ false → begun (os ++ o ∷ []) ≡ begun os → units (os ++ o ∷ []) ≡ units os
units-quiet os o none still =
    units-at (os ++ o ∷ []) (begun os) still ∙ up_to-same (os ++ o ∷ []) os (begun os) (λ v less. unit-other os o v none) ∙ sym (units-at os (begun os) refl)

pub units-mark : (os : List Spelled) (o : Spelled) → is_data (obu_of o) ≡ false → begun (os ++ o ∷ []) ≡ begun os + 1 → unit_bytes os (begun os) ≡ [] → units (os ++ o ∷ []) ≡ units os ++ [] ∷ []
units-mark os o none more empty =
    units-last (os ++ o ∷ []) (begun os) more
    ∙ ap₂ (λ (us : List (List ℕ)) (u : List ℕ). us ++ u ∷ []) (up_to-same (os ++ o ∷ []) os (begun os) (λ v less. unit-other os o v none) ∙ sym (units-at os (begun os) refl)) (unit-other os o (begun os) none ∙ empty)

pub units-new : (os : List Spelled) (o : Spelled) → is_data (obu_of o) ≡ true → unit_after (roles_of os) (role_of o) ≡ begun os → begun (os ++ o ∷ []) ≡ begun os + 1 → unit_bytes os (begun os) ≡ []
    → units (os ++ o ∷ []) ≡ units os ++ o.bytes ∷ []
units-new os o some here more empty =
    units-last (os ++ o ∷ []) (begun os) more
    ∙ ap₂ (λ (us : List (List ℕ)) (u : List ℕ). us ++ u ∷ [])
    (up_to-same (os ++ o ∷ []) os (begun os) (λ v less. unit-apart os o v some (λ e. omega arith)) ∙ sym (units-at os (begun os) refl))
    (unit-here os o (begun os) some here ∙ ap (λ (u : List ℕ). u ++ o.bytes) empty)

-- the units before the last one, and that one with the OBU and without it
pub record GrowsLast (os : List Spelled) (o : Spelled) : Type 0 where
  pub before : List (List ℕ)
  pub last : List ℕ
  pub was : units os ≡ before ++ last ∷ []
  pub is : units (os ++ o ∷ []) ≡ before ++ (last ++ o.bytes) ∷ []

pub units-grow : (os : List Spelled) (o : Spelled) → is_data (obu_of o) ≡ true → unit_after (roles_of os) (role_of o) + 1 ≡ begun os → begun (os ++ o ∷ []) ≡ begun os → GrowsLast os o
units-grow os o some here still =
    let u = unit_after (roles_of os) (role_of o) in
    record {
      before = units_up_to os u;
      last = unit_bytes os u;
      was = units-last os u (sym here);
      is = units-last (os ++ o ∷ []) u (still ∙ sym here)
          ∙ ap₂ (λ (us : List (List ℕ)) (x : List ℕ). us ++ x ∷ []) (up_to-same (os ++ o ∷ []) os u (λ v less. unit-apart os o v some (λ e. omega arith))) (unit-here os o u some refl);
    }

-- ---- the rebuilt bytes

pub rebuilt-none : rebuilt [] [] ≡ []
unfolding rebuilt
rebuilt-none = refl

pub rebuilt-unit : (d : List ℕ) (us : List (List ℕ)) (u : List ℕ) → rebuilt d (us ++ u ∷ []) ≡ (rebuilt d us ++ 0x20 ∷ 0 ∷ []) ++ u
unfolding rebuilt
rebuilt-unit d us u =
    ap (λ (b : List ℕ). d ++ b) (flat_map-push marked us u) ∙ sym (append_assoc d (flat_map marked us) (marked u))
    ∙ sym (append_assoc (d ++ flat_map marked us) (0x20 ∷ 0 ∷ []) u)

pub rebuilt-grow : (d : List ℕ) (us : List (List ℕ)) (u more : List ℕ) → rebuilt d (us ++ (u ++ more) ∷ []) ≡ rebuilt d (us ++ u ∷ []) ++ more
rebuilt-grow d us u more =
    rebuilt-unit d us (u ++ more) ∙ sym (append_assoc (rebuilt d us ++ 0x20 ∷ 0 ∷ []) u more) ∙ ap (λ (b : List ℕ). b ++ more) (sym (rebuilt-unit d us u))

pub rebuilt-describe : (d more : List ℕ) → rebuilt (d ++ more) [] ≡ rebuilt d [] ++ more
unfolding rebuilt
rebuilt-describe d more = append-nil (d ++ more) ∙ ap (λ (b : List ℕ). b ++ more) (sym (append-nil d))

-- ---- sizes

abbrev pub size : List (List ℕ) → ℕ
size us = length (flat_map (λ (u : List ℕ). u) us)

pub size-push : (us : List (List ℕ)) (u : List ℕ) → size (us ++ u ∷ []) ≡ size us + length u
size-push us u = ap length (flat_map-push (λ (x : List ℕ). x) us u) ∙ length-append (flat_map (λ (x : List ℕ). x) us) u

-- What stands in a unit, with one more OBU, and without a data OBU.
use Rattle.std.proofs.Common.{◌≡◌, ℕ, Bool, true, false, not, eqb, ltb, List, [], ◌∷◌, ◌++◌, map, refl, ap, ◌∙◌, append-nil, arith, eq-eqb, le-ltb}
use Rattle.std.specs.List.{flat_map, list_any, list_all}
use Rattle.std.proofs.lemmas.Grind.{flat_map-append}
use Rattle.std.proofs.lemmas.List.{map-append}
use Rattle.spec_rules.specs.Role.{Role, BlockRole}
use Rattle.spec_rules.specs.Descriptors.{substreams}
use Rattle.spec_rules.specs.Units.{contains, is_none_of, is_data, stream_of, trim_of, unit_after, placed, in_units, in_unit, before_unit, streams_in, trims_in, trims_before, is_complete, block_of, blocks_in}
use Rattle.spec_rules.proofs.Placing.{no_placed, last_in, in_units-push}

-- ---- one more

pub in_unit-push : (u : ℕ) (l : List Role) (o : Role) → in_unit u (l ++ o ∷ []) ≡ in_unit u l ++ last_in (λ v. eqb v u) l o
unfolding in_unit
in_unit-push u l o = in_units-push (λ v. eqb v u) l o

pub streams_in-push : (u : ℕ) (l : List Role) (o : Role) → streams_in u (l ++ o ∷ []) ≡ streams_in u l ++ flat_map stream_of (last_in (λ v. eqb v u) l o)
unfolding streams_in in_unit
streams_in-push u l o = rw (in_units-push (λ v. eqb v u) l o) (flat_map-append stream_of (in_units (λ v. eqb v u) l) (last_in (λ v. eqb v u) l o))

pub trims_in-push : (u : ℕ) (l : List Role) (o : Role) → trims_in u (l ++ o ∷ []) ≡ trims_in u l ++ flat_map trim_of (last_in (λ v. eqb v u) l o)
unfolding trims_in in_unit
trims_in-push u l o = rw (in_units-push (λ v. eqb v u) l o) (flat_map-append trim_of (in_units (λ v. eqb v u) l) (last_in (λ v. eqb v u) l o))

pub trims_before-push : (u : ℕ) (l : List Role) (o : Role) → trims_before u (l ++ o ∷ []) ≡ trims_before u l ++ flat_map trim_of (last_in (λ v. ltb v u) l o)
unfolding trims_before before_unit
trims_before-push u l o = rw (in_units-push (λ v. ltb v u) l o) (flat_map-append trim_of (in_units (λ v. ltb v u) l) (last_in (λ v. ltb v u) l o))

pub blocks_in-push : (u : ℕ) (l : List Role) (o : Role) → blocks_in u (l ++ o ∷ []) ≡ blocks_in u l ++ map (λ b. b.id) (flat_map block_of (last_in (λ v. eqb v u) l o))
unfolding blocks_in
blocks_in-push u l o =
    ap (λ (os : List Role). map (λ b. b.id) (flat_map block_of os)) (in_unit-push u l o)
    ∙ ap (λ (bs : List BlockRole). map (λ b. b.id) bs) (flat_map-append block_of (in_unit u l) (last_in (λ v. eqb v u) l o))
    ∙ map-append (λ (b : BlockRole). b.id) (flat_map block_of (in_unit u l)) (flat_map block_of (last_in (λ v. eqb v u) l o))

-- ---- one more in the unit

not_none-push : {X : Type 0} (xs : List X) (x : X) → is_none_of (xs ++ x ∷ []) ≡ false
not_none-push [] x = refl
not_none-push (y ∷ ys) x = refl

pub in_unit-here : (u : ℕ) (l : List Role) (o : Role) → is_data o ≡ true → unit_after l o ≡ u → true ≡ not (is_none_of (in_unit u (l ++ o ∷ [])))
in_unit-here u l o data_obu here = rw (in_unit-push u l o, data_obu, here, eq-eqb u u refl, not_none-push (in_unit u l) o) refl

pub streams_in-here : (u : ℕ) (l : List Role) (o : Role) → is_data o ≡ true → unit_after l o ≡ u → streams_in u (l ++ o ∷ []) ≡ streams_in u l ++ stream_of o
streams_in-here u l o data_obu here = rw (streams_in-push u l o, data_obu, here, eq-eqb u u refl, append-nil) refl

pub trims_in-here : (u : ℕ) (l : List Role) (o : Role) → is_data o ≡ true → unit_after l o ≡ u → trims_in u (l ++ o ∷ []) ≡ trims_in u l ++ trim_of o
trims_in-here u l o data_obu here = rw (trims_in-push u l o, data_obu, here, eq-eqb u u refl, append-nil) refl

pub blocks_in-here : (u : ℕ) (l : List Role) (o : Role) → is_data o ≡ true → unit_after l o ≡ u → blocks_in u (l ++ o ∷ []) ≡ blocks_in u l ++ map (λ b. b.id) (block_of o)
blocks_in-here u l o data_obu here = rw (blocks_in-push u l o, data_obu, here, eq-eqb u u refl, append-nil) refl

pub trims_before-here : (u : ℕ) (l : List Role) (o : Role) → is_data o ≡ true → unit_after l o ≡ u → trims_before u (l ++ o ∷ []) ≡ trims_before u l
trims_before-here u l o data_obu here = rw (trims_before-push u l o, data_obu, here, le-ltb u u (omega arith), append-nil) refl

-- ---- without a data OBU

pub in_units-none : (test : ℕ → Bool) (l : List Role) → list_any is_data l ≡ false → in_units test l ≡ []
unfolding in_units placed
in_units-none test l none = rw (no_placed [] l none) refl

pub in_unit-none : (u : ℕ) (l : List Role) → list_any is_data l ≡ false → in_unit u l ≡ []
unfolding in_unit
in_unit-none u l none = in_units-none (λ v. eqb v u) l none

pub streams_in-none : (u : ℕ) (l : List Role) → list_any is_data l ≡ false → streams_in u l ≡ []
unfolding streams_in in_unit
streams_in-none u l none = rw (in_units-none (λ v. eqb v u) l none) refl

pub trims_in-none : (u : ℕ) (l : List Role) → list_any is_data l ≡ false → trims_in u l ≡ []
unfolding trims_in in_unit
trims_in-none u l none = rw (in_units-none (λ v. eqb v u) l none) refl

pub blocks_in-none : (u : ℕ) (l : List Role) → list_any is_data l ≡ false → blocks_in u l ≡ []
unfolding blocks_in
blocks_in-none u l none = ap (λ (os : List Role). map (λ b. b.id) (flat_map block_of os)) (in_unit-none u l none)

pub trims_before-none : (u : ℕ) (l : List Role) → list_any is_data l ≡ false → trims_before u l ≡ []
unfolding trims_before before_unit
trims_before-none u l none = rw (in_units-none (λ v. ltb v u) l none) refl

-- ---- whole units

pub complete_is : (u : ℕ) (l : List Role) → is_complete u l ≡ list_all (contains (streams_in u l)) (substreams l)
unfolding is_complete
complete_is u l = refl

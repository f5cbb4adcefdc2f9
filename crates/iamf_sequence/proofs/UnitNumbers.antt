-- The number of each OBU's unit.
use Rattle.std.proofs.Common.{◌≡◌, ℕ, zero, suc, ◌<◌, List, [], ◌∷◌, ◌++◌, length, get_or, map, take, refl, sym, ap, subst, ◌∙◌, append_assoc, append-nil}
use Rattle.std.specs.Prelude.{Option, Some, None, option_map, slice_get}
use Rattle.std.proofs.lemmas.Option.{slice_get-map, slice_get-get_or}
use Rattle.spec_rules.specs.Role.{Role}
use Rattle.spec_rules.specs.Units.{unit_at, unit_of}
use Rattle.spec_sequence.specs.Reading.{roles}
use Rattle.iamf_sequence.specs.declared.parts.Placed.{Placed}
use Rattle.iamf_sequence.specs.declared.parts.Parts.{Parts}
use Rattle.iamf_admission.specs.Numbers.{number_after}
use Rattle.iamf_sequence.specs.SequenceValue.{SequenceValue}
use Rattle.iamf_sequence.specs.SequenceView.{numbers_after, IsSequence}
use Rattle.iamf_sequence.proofs.SequenceParts.{obus_counted}

-- the number of an OBU comes of those before it
numbers_at : (past l : List Role) (i : ℕ) → slice_get (numbers_after past l) i ≡ option_map (number_after (past ++ take i l)) (slice_get l i)
numbers_at past [] i = refl
numbers_at past (o ∷ os) zero = ap (λ (before : List Role). Some (number_after before o)) (sym (append-nil past))
numbers_at past (o ∷ os) (suc i) =
    numbers_at (past ++ o ∷ []) os i ∙ ap (λ (before : List Role). option_map (number_after before) (slice_get os i)) (append_assoc past (o ∷ []) (take i os))

number_is : (l : List Role) (i : ℕ) (o : Option Role) (n : Option ℕ) → option_map (number_after (take i l)) o ≡ Some n → n ≡ unit_at l i o
number_is l i None n e = absurd cc
number_is l i (Some o) n e = sym cc

unit_of_is : (l : List Role) (i : ℕ) (n : Option ℕ) → slice_get (numbers_after [] l) i ≡ Some n → n ≡ unit_of l i
unfolding unit_of
unit_of_is l i n e = number_is l i (slice_get l i) n (sym (numbers_at [] l i) ∙ e)

-- a number that is held of an OBU
seen_at : (ps : List Placed) (i : ℕ) (d : Placed) → i < length ps → slice_get (map (λ o. o.unit) ps) i ≡ Some (get_or ps i d).unit
seen_at ps i d below = slice_get-map (λ (o : Placed). o.unit) ps i ∙ ap (option_map (λ (o : Placed). o.unit)) (slice_get-get_or ps i d below)

pub number_at : (p : Parts) (v : SequenceValue) (ps : List Placed) (i : ℕ) (d : Placed) → ps ≡ p.obus.items → i < length v.entries → IsSequence p v → (get_or ps i d).unit ≡ unit_of (roles v.entries) i
number_at p v ps i d are below s =
    let within : i < length p.obus.items = subst (λ n. i < n) (sym (obus_counted p v s)) below in
    ap (λ (qs : List Placed). (get_or qs i d).unit) are
    ∙ unit_of_is (roles v.entries) i (get_or p.obus.items i d).unit (ap (λ (ns : List (Option ℕ)). slice_get ns i) (sym s.numbers) ∙ seen_at p.obus.items i d within)

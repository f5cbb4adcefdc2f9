-- The elements of a mix that a look-up finds, one after the other.
use Rattle.std.proofs.Common.{arith, ◌≡◌, ◌<◌, ◌+◌, ℕ, zero, suc, sym, ap, ◌∙◌, List, [], ◌∷◌, ◌++◌, map, take, length, get_or, add-one, append_assoc, Some, None}
use Rattle.std.specs.Prelude.{slice_get, find, ◌==◌}
use Rattle.std.specs.List.{flat_map}
use Rattle.std.proofs.lemmas.List.{append-nil}
use Rattle.spec_descriptors.specs.AudioElement.{AudioElementFields}
use Rattle.spec_descriptors.specs.MixPresentation.{MixElementFields}
use Rattle.spec_play.specs.Mixes.{with_gain, mixed_element}

pub got_mapped : {X Y : Type 0} (f : X → Y) (xs : List X) (i : ℕ) (x : X) → i < length xs → x ≡ get_or xs i x → slice_get (map f xs) i ≡ Some (f x)
got_mapped f [] i x h e = absurd (omega arith)
got_mapped f (y ∷ xs) zero x h e = ap (λ z. Some (f z)) (sym e)
got_mapped f (y ∷ xs) (suc i) x h e = got_mapped f xs i x (omega arith) e

joined_suc : {X Y : Type 0} (f : X → List Y) (xs : List X) (i : ℕ) (x : X) → slice_get xs i ≡ Some x → flat_map f (take (suc i) xs) ≡ flat_map f (take i xs) ++ f x
joined_suc f [] i x e = absurd (cc)
joined_suc f (y ∷ xs) zero x e = let same : y ≡ x = cc in rw same (append-nil (f x))
joined_suc f (y ∷ xs) (suc i) x e = ap (λ ys. f y ++ ys) (joined_suc f xs i x e) ∙ sym (append_assoc (f y) (flat_map f (take i xs)) (f x))

-- one more item
pub joined_more : {X Y : Type 0} (f : X → List Y) (xs : List X) (i : ℕ) (x : X) → slice_get xs i ≡ Some x → flat_map f (take (i + 1) xs) ≡ flat_map f (take i xs) ++ f x
joined_more f xs i x e = rw add-one (joined_suc f xs i x e)

-- what is found of one element that a mix names
pub mixed_some : (elements : List AudioElementFields) (m : MixElementFields) (e : AudioElementFields) → find (λ e. e.audio_element_id == m.audio_element_id) elements ≡ Some e
    → mixed_element elements m ≡ record { element = e; gain = m.element_mix_gain } ∷ []
mixed_some elements m e found = ap (with_gain m.element_mix_gain) found

pub mixed_none : (elements : List AudioElementFields) (m : MixElementFields) → find (λ e. e.audio_element_id == m.audio_element_id) elements ≡ None → mixed_element elements m ≡ []
mixed_none elements m none = ap (with_gain m.element_mix_gain) none

-- What the selection says of a mix presentation that is found.
use Rattle.std.proofs.Common.{arith, ◌≡◌, ◌≢◌, ℕ, refl, sym, ap, ◌∙◌, List, [], ◌∷◌, map, length, get_or, Some, None}
use Rattle.std.proofs.lemmas.List.{length-map}
use Rattle.spec_descriptors.specs.MixPresentation.{SubMixFields, MixPresentationFields}
use Rattle.spec_values.specs.Value.{ObuValue}
use Rattle.obu_mix.specs.declared.sub_mix.SubMix.{SubMix}
use Rattle.obu_mix.specs.SubMixView.{view_sub_mix}
use Rattle.spec_play.specs.declared.target.Target.{Target}
use Rattle.spec_play.specs.declared.fault.PlayFault.TheVariants.{NoMix, MixShape}
use Rattle.spec_play.specs.Mixes.{rendition, rendition_of, rendition_of_mix, rendition_of_sub_mixes, mix_of}
use Rattle.spec_play.specs.Selection.{mix_fault, sub_mixes_fault, rendition_fault, play_fault}

pub one_item : {X : Type 0} (xs : List X) (x : X) → length xs ≡ 1 → x ≡ get_or xs 0 x → xs ≡ x ∷ []
one_item [] x n is = absurd (omega arith)
one_item (y ∷ []) x n is = let same : x ≡ y = is in ap (λ z. z ∷ []) (sym same)
one_item (y ∷ z ∷ xs) x n is = absurd (omega arith)

several_fault : (s : List ObuValue) (target : Target) (sub_mixes : List SubMixFields) → length sub_mixes ≢ 1 → sub_mixes_fault s target sub_mixes ≡ Some MixShape
several_fault s target [] n = refl
several_fault s target (m ∷ []) n = absurd (n (omega arith))
several_fault s target (m ∷ other ∷ ms) n = refl

pub fault_of_none : (s : List ObuValue) (id : ℕ) (target : Target) → mix_of s id ≡ None → play_fault s id target ≡ Some NoMix
unfolding play_fault
fault_of_none s id target e = ap (mix_fault s target) e

pub fault_of_several : (s : List ObuValue) (id : ℕ) (target : Target) (m : MixPresentationFields) (xs : List SubMix) → mix_of s id ≡ Some m → m.sub_mixes ≡ map view_sub_mix xs → length xs ≢ 1 → play_fault s id target ≡ Some MixShape
unfolding play_fault
fault_of_several s id target m xs e are n =
    ap (mix_fault s target) e ∙ ap (sub_mixes_fault s target) are ∙ several_fault s target (map view_sub_mix xs) (λ one. n (omega (arith, length-map xs view_sub_mix)))

pub fault_of_one : (s : List ObuValue) (id : ℕ) (target : Target) (m : MixPresentationFields) (xs : List SubMix) (x : SubMix) → mix_of s id ≡ Some m → m.sub_mixes ≡ map view_sub_mix xs → xs ≡ x ∷ []
    → play_fault s id target ≡ rendition_fault (rendition s target (view_sub_mix x))
unfolding play_fault
fault_of_one s id target m xs x e are one = ap (mix_fault s target) e ∙ ap (sub_mixes_fault s target) (are ∙ ap (map view_sub_mix) one)

pub rendition_of_one : (s : List ObuValue) (id : ℕ) (target : Target) (m : MixPresentationFields) (xs : List SubMix) (x : SubMix) → mix_of s id ≡ Some m → m.sub_mixes ≡ map view_sub_mix xs → xs ≡ x ∷ []
    → rendition_of s id target ≡ Some (rendition s target (view_sub_mix x))
unfolding rendition_of
rendition_of_one s id target m xs x e are one = ap (rendition_of_mix s target) e ∙ ap (rendition_of_sub_mixes s target) (are ∙ ap (map view_sub_mix) one)

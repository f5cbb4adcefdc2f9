-- Lists whose values are seen as others.
use Rattle.std.proofs.Common.{◌≡◌, Bool, ◌||◌, List, [], ◌∷◌, ◌++◌, map, refl, ap}
use Rattle.std.specs.List.{list_any}
use Rattle.std.specs.Prelude.{Some}
use Rattle.spec_descriptors.specs.Layers.{last_layout}
use Rattle.obu_element_config.specs.declared.layer.Layer.{Layer}
use Rattle.obu_element_config.specs.LayerView.{view_layer}

pub list_any_map : {A B : Type 0} (f : A → B) (p : B → Bool) (xs : List A) → list_any p (map f xs) ≡ list_any (λ x. p (f x)) xs
list_any_map f p [] = refl
list_any_map f p (x ∷ xs) = ap (λ (b : Bool). p (f x) || b) (list_any_map f p xs)

pub last_layout_push : (layers : List Layer) (layer : Layer) → last_layout (map view_layer (layers ++ layer ∷ [])) ≡ Some layer.layout
last_layout_push [] layer = refl
last_layout_push (first ∷ []) layer = refl
last_layout_push (first ∷ next ∷ layers) layer = last_layout_push (next ∷ layers) layer

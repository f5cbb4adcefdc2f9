-- Parameter definitions that are put one after the other.
use Rattle.std.proofs.Common.{◌≡◌, ℕ, ◌+◌, ◌<◌, List, [], ◌∷◌, ◌++◌, length, get_or, take, map, refl, sym, ap, subst, ◌∙◌, append_assoc, append-nil}
use Rattle.std.specs.List.{flat_map}
use Rattle.std.proofs.lemmas.List.{map-append}
use Rattle.std.proofs.lemmas.List.Elements.{All-push}
use Rattle.spec_blocks.specs.Shape.{Definition}
use Rattle.spec_rules.proofs.Basics.{flat_map-take}
use Rattle.obu_data.specs.declared.definition.Definition.{Definition as Owned}
use Rattle.obu_data.specs.DefinitionView.{view_definition}
use Rattle.obu_data.specs.ShapeView.{MayDefine}
use Rattle.iamf_admission.specs.Defining.{Defines}

-- none
pub adds_none : (old : List Owned) → Defines old old []
adds_none old = record { are = sym (append-nil (map view_definition old)); allowed = λ all. all }

pub adds_one : (old new : List Owned) (d : Owned) → new ≡ old ++ d ∷ [] → MayDefine d.shape → Defines old new (view_definition d ∷ [])
adds_one old new d more may = record {
  are = ap (map view_definition) more ∙ map-append view_definition old (d ∷ []);
  allowed = λ all. rw more (All-push (λ x. MayDefine x.shape) old d all may);
}

-- some, and then others
pub adds_both : (old now new : List Owned) (xs ys : List Definition) → Defines old now xs → Defines now new ys → Defines old new (xs ++ ys)
adds_both old now new xs ys a b = record {
  are = b.are ∙ ap (λ (ds : List Definition). ds ++ ys) a.are ∙ append_assoc (map view_definition old) xs ys;
  allowed = λ all. b.allowed (a.allowed all);
}

-- those of a list
pub adds_more : {B : Type 0} (f : B → List Definition) (bs : List B) (i : ℕ) (item : B) (old now new : List Owned) → i < length bs → item ≡ get_or bs i item
    → Defines old now (flat_map f (take i bs)) → Defines now new (f item) → Defines old new (flat_map f (take (i + 1) bs))
adds_more {B} f bs i item old now new lt is a b =
    let same : f item ≡ f (get_or bs i item) = ap f is in
    let b' = subst (λ (ds : List Definition). Defines now new ds) same b in
    subst (λ (ds : List Definition). Defines old new ds) (sym (flat_map-take f bs i item lt)) (adds_both old now new (flat_map f (take i bs)) (f (get_or bs i item)) a b')

pub map-single : {X Y Z : Type 0} (f : Y → Z) (g : X → Y) (xs : List X) → flat_map (λ x. f (g x) ∷ []) xs ≡ map f (map g xs)
map-single f g [] = refl
map-single {Z = Z} f g (x ∷ xs) = ap (λ (zs : List Z). f (g x) ∷ zs) (map-single f g xs)

-- Where a definition stands in a list, and what the map of places says of it.
use Rattle.std.proofs.Common.{◌≡◌, ℕ, suc, ◌<◌, Bool, true, false, cond, List, [], ◌∷◌, ◌++◌, length, get_or, map, Option, Some, None, option_map, refl, sym, ap, subst, ◌∙◌, arith}
use Rattle.std.specs.Prelude.{◌==◌}
use Rattle.std.specs.Ordering.{nat_cmp}
use Rattle.std.specs.BTreeMap.{BTreeMap, get, is_at, Updates}
use Rattle.std.proofs.lemmas.Bool.{eqb-true, eqb-false}
use Rattle.std.proofs.lemmas.List.{length-map, get_or-map, map_push}
use Rattle.std.proofs.lemmas.List.Elements.{All-get_or, All-push}
use Rattle.spec_blocks.specs.Shape.{Definition, shape_of}
use Rattle.obu_data.specs.declared.definition.Definition.{Definition as Kept}
use Rattle.obu_data.specs.ShapeView.{view_shape, MayDefine}
use Rattle.obu_data.specs.DefinitionView.{view_definition, place_of, IsIndexed}

pub no_place : (ds : List Definition) (id : ℕ) → place_of ds id ≡ None → shape_of ds id ≡ None
no_place [] id e = refl
no_place (d ∷ ds) id e = go (d.parameter_id == id) (place_of ds id) e (no_place ds id)
  where
    go : (b : Bool) (p : Option ℕ) → cond b (Some 0) (option_map suc p) ≡ None → (p ≡ None → shape_of ds id ≡ None) → cond b (Some d.shape) (shape_of ds id) ≡ None
    go true p e later = absurd cc
    go false None e later = later refl
    go false (Some i) e later = absurd cc

pub no_shape : (ds : List Definition) (id : ℕ) → shape_of ds id ≡ None → place_of ds id ≡ None
no_shape [] id e = refl
no_shape (d ∷ ds) id e = go (d.parameter_id == id) e (no_shape ds id)
  where
    go : (b : Bool) → cond b (Some d.shape) (shape_of ds id) ≡ None → (shape_of ds id ≡ None → place_of ds id ≡ None) → cond b (Some 0) (option_map suc (place_of ds id)) ≡ None
    go true e later = absurd cc
    go false e later = ap (option_map suc) (later e)

pub at_place : (ds : List Definition) (id i : ℕ) → place_of ds id ≡ Some i → (i < length ds) × ((d : Definition) → shape_of ds id ≡ Some (get_or ds i d).shape)
at_place [] id i e = absurd cc
at_place (d ∷ ds) id i e = go (d.parameter_id == id) (place_of ds id) e (at_place ds id)
  where
    go : (b : Bool) (p : Option ℕ) → cond b (Some 0) (option_map suc p) ≡ Some i → ((j : ℕ) → p ≡ Some j → (j < length ds) × ((d' : Definition) → shape_of ds id ≡ Some (get_or ds j d').shape))
        → (i < suc (length ds)) × ((d' : Definition) → cond b (Some d.shape) (shape_of ds id) ≡ Some (get_or (d ∷ ds) i d').shape)
    go true p e later =
        let zero_is : 0 ≡ i = cc in
        (omega (arith, zero_is), λ d'. ap (λ (k : ℕ). Some (get_or (d ∷ ds) k d').shape) zero_is)
    go false None e later = absurd cc
    go false (Some j) e later =
        let next_is : suc j ≡ i = cc in
        let l = later j refl in
        (omega (arith, next_is, l.0), λ d'. l.1 d' ∙ ap (λ (k : ℕ). Some (get_or (d ∷ ds) k d').shape) next_is)

place_step : (x y z n : ℕ) (p q : Option ℕ) → (x == y) ≡ false → q ≡ cond (y == z) (Some n) p → cond (x == z) (Some 0) (option_map suc q) ≡ cond (y == z) (Some (suc n)) (cond (x == z) (Some 0) (option_map suc p))
place_step x y z n p q different is = ap (λ (r : Option ℕ). cond (x == z) (Some 0) (option_map suc r)) is ∙ go (x == z) (y == z) refl refl
  where
    go : (b c : Bool) → (x == z) ≡ b → (y == z) ≡ c → cond b (Some 0) (option_map suc (cond c (Some n) p)) ≡ cond c (Some (suc n)) (cond b (Some 0) (option_map suc p))
    go true true f g = absurd (eqb-false x y different (eqb-true x z f ∙ sym (eqb-true y z g)))
    go true false f g = refl
    go false true f g = refl
    go false false f g = refl

apart : (b : Bool) (p : Option ℕ) → cond b (Some 0) (option_map suc p) ≡ None → (b ≡ false) × (p ≡ None)
apart true p e = absurd cc
apart false None e = (refl, refl)
apart false (Some i) e = absurd cc

-- one more definition, of a new id
pub place_of_push : (ds : List Definition) (d : Definition) (id : ℕ) → place_of ds d.parameter_id ≡ None → place_of (ds ++ d ∷ []) id ≡ cond (d.parameter_id == id) (Some (length ds)) (place_of ds id)
place_of_push [] d id new = refl
place_of_push (e ∷ ds) d id new =
    let a = apart (e.parameter_id == d.parameter_id) (place_of ds d.parameter_id) new in
    place_step e.parameter_id d.parameter_id id (length ds) (place_of ds id) (place_of (ds ++ d ∷ []) id) a.0 (place_of_push ds d id a.1)

pub is_at_number : (a q : ℕ) → is_at (nat_cmp a) q ≡ (a == q)
is_at_number a q = grind arith

-- the map of places, after the place of one more definition
pub places_more : (ds : List Definition) (d : Definition) (old new : BTreeMap ℕ ℕ) → ((id : ℕ) → get nat_cmp old id ≡ place_of ds id) → place_of ds d.parameter_id ≡ None → Updates nat_cmp old new d.parameter_id (Some (length ds))
    → (id : ℕ) → get nat_cmp new id ≡ place_of (ds ++ d ∷ []) id
places_more ds d old new are absent updated id =
    updated.0 id ∙ ap (λ (b : Bool). cond b (Some (length ds)) (get nat_cmp old id)) (is_at_number d.parameter_id id) ∙ ap (λ (p : Option ℕ). cond (d.parameter_id == id) (Some (length ds)) p) (are id)
    ∙ sym (place_of_push ds d id absent)

-- ---- what is kept

pub record Found (kept : List Kept) (id i : ℕ) : Type 0 where
  pub within : i < length kept
  pub shape : (k : Kept) → shape_of (map view_definition kept) id ≡ Some (view_shape (get_or kept i k).shape)
  pub allowed : (k : Kept) → MayDefine (get_or kept i k).shape

pub found : (kept : List Kept) (places : BTreeMap ℕ ℕ) (id i : ℕ) → IsIndexed kept places → get nat_cmp places id ≡ Some i → Found kept id i
found kept places id i indexed e =
    let at = at_place (map view_definition kept) id i (sym (indexed.places_are id) ∙ e) in
    let within : i < length kept = rw (length-map kept view_definition) at at.0 in
    record {
      within = within;
      shape = λ k. at.1 (view_definition k) ∙ ap (λ (d : Definition). Some d.shape) (get_or-map view_definition kept i k (view_definition k) within);
      allowed = λ k. All-get_or (λ q. MayDefine q.shape) kept i k within indexed.allowed;
    }

pub not_found : (kept : List Kept) (places : BTreeMap ℕ ℕ) (id : ℕ) → IsIndexed kept places → get nat_cmp places id ≡ None → shape_of (map view_definition kept) id ≡ None
not_found kept places id indexed e = no_place (map view_definition kept) id (sym (indexed.places_are id) ∙ e)

pub indexed_more : (kept : List Kept) (k : Kept) (old new : BTreeMap ℕ ℕ) → IsIndexed kept old → MayDefine k.shape → shape_of (map view_definition kept) k.id ≡ None → Updates nat_cmp old new k.id (Some (length kept)) → IsIndexed (kept ++ k ∷ []) new
indexed_more kept k old new indexed allowed none updated =
    let count : length kept ≡ length (map view_definition kept) = sym (length-map kept view_definition) in
    record {
      allowed = All-push (λ q. MayDefine q.shape) kept k indexed.allowed allowed;
      places_are = λ id. places_more (map view_definition kept) (view_definition k) old new indexed.places_are (no_shape (map view_definition kept) k.id none) (subst (λ (n : ℕ). Updates nat_cmp old new k.id (Some n)) count updated) id
          ∙ ap (λ (ds : List Definition). place_of ds id) (sym (map_push view_definition kept k));
    }

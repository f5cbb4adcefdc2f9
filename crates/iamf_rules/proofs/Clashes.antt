-- Definitions that are compared one after the other.
use Rattle.std.proofs.Common.{◌≡◌, ℕ, ◌+◌, Bool, true, false, not, ◌||◌, cond, eqb, List, [], ◌∷◌, ◌++◌, take, drop, fold, refl, sym, ap, ◌∙◌, subst, eqb-true, eq-eqb, true≢false}
use Rattle.std.specs.Prelude.{Option, Some, None, is_some}
use Rattle.std.proofs.lemmas.Bool.{or_parts, not-true, not-false}
use Rattle.spec_blocks.specs.Shape.{Shape, Definition, shape_of, with_definition}
use Rattle.spec_rules.specs.Units.{contains}
use Rattle.spec_values.specs.declared.fault.Fault.TheVariants.{ParamClash}
use Rattle.spec_rules.specs.Rules.{is_other, clashing}
use Rattle.spec_rules.proofs.Basics.{or_false, any-push}
use Rattle.iamf_rules.specs.DefinitionSteps.{with_shape, recalled}
use Rattle.iamf_rules.specs.Defining.{ids_of}
use Rattle.std.proofs.lemmas.Grind.{fold-append}
use Rattle.std.proofs.lemmas.List.{map_push}

-- ---- look-ups

shape-push : (ds : List Definition) (d : Definition) (id : ℕ) → shape_of (ds ++ d ∷ []) id ≡ cond (is_some (shape_of ds id)) (shape_of ds id) (cond (eqb d.parameter_id id) (Some d.shape) None)
shape-push [] d id = refl
shape-push (x ∷ xs) d id = one (eqb x.parameter_id id) (shape-push xs d id) where
  one : (c : Bool) → shape_of (xs ++ d ∷ []) id ≡ cond (is_some (shape_of xs id)) (shape_of xs id) (cond (eqb d.parameter_id id) (Some d.shape) None)
      → cond c (Some x.shape) (shape_of (xs ++ d ∷ []) id) ≡ cond (is_some (cond c (Some x.shape) (shape_of xs id))) (cond c (Some x.shape) (shape_of xs id)) (cond (eqb d.parameter_id id) (Some d.shape) None)
  one true rest = refl
  one false rest = rest

none_of-some : (o : Option Shape) → is_some o ≡ false → o ≡ None
none_of-some None e = refl
none_of-some (Some x) e = absurd cc

shape-push-other : (ds : List Definition) (d : Definition) (id : ℕ) → eqb d.parameter_id id ≡ false → shape_of (ds ++ d ∷ []) id ≡ shape_of ds id
shape-push-other ds d id other = shape-push ds d id ∙ rw other (one (shape_of ds id)) where
  one : (o : Option Shape) → cond (is_some o) o None ≡ o
  one None = refl
  one (Some x) = refl

shape-push-new : (ds : List Definition) (d : Definition) → shape_of ds d.parameter_id ≡ None → shape_of (ds ++ d ∷ []) d.parameter_id ≡ Some d.shape
shape-push-new ds d none = shape-push ds d d.parameter_id ∙ rw (none, eq-eqb d.parameter_id d.parameter_id refl) refl

pub shape-with-other : (ds : List Definition) (d : Definition) (id : ℕ) → eqb d.parameter_id id ≡ false → shape_of (with_definition ds d) id ≡ shape_of ds id
shape-with-other ds d id other = one (is_some (shape_of ds d.parameter_id)) where
  one : (c : Bool) → shape_of (cond c ds (ds ++ d ∷ [])) id ≡ shape_of ds id
  one true = refl
  one false = shape-push-other ds d id other

pub shape-with-same : (ds : List Definition) (d : Definition) → shape_of (with_definition ds d) d.parameter_id ≡ cond (is_some (shape_of ds d.parameter_id)) (shape_of ds d.parameter_id) (Some d.shape)
shape-with-same ds d = one (is_some (shape_of ds d.parameter_id)) refl where
  one : (c : Bool) → is_some (shape_of ds d.parameter_id) ≡ c → shape_of (cond c ds (ds ++ d ∷ [])) d.parameter_id ≡ cond c (shape_of ds d.parameter_id) (Some d.shape)
  one true e = refl
  one false e = shape-push-new ds d (none_of-some (shape_of ds d.parameter_id) e)

-- ---- what is looked up before each definition

-- of the ids that came, these have the shapes that all definitions so far give them
pub record Recalls (before known sofar : List Definition) (ids : List ℕ) : Type 0 where
  pub has : (id : ℕ) → contains ids id ≡ true → is_some (shape_of before id) ≡ true
  pub agree : (id : ℕ) → is_some (shape_of before id) ≡ true → shape_of before id ≡ shape_of sofar id
  pub other : (id : ℕ) → contains ids id ≡ false → shape_of sofar id ≡ shape_of known id

pub recalls-none : (known : List Definition) → Recalls [] known known []
recalls-none known = record { has = λ id there. absurd cc; agree = λ id some. absurd cc; other = λ id none. refl }

pub recalled-same : (before known sofar : List Definition) (ids : List ℕ) (id : ℕ) → Recalls before known sofar ids → shape_of (recalled before known id) id ≡ shape_of sofar id
recalled-same before known sofar ids id r = one (is_some (shape_of before id)) refl where
  came : (b : Bool) → contains ids id ≡ b → is_some (shape_of before id) ≡ false → contains ids id ≡ false
  came true e none = absurd (true≢false (sym (r.has id e) ∙ none))
  came false e none = e

  two : is_some (shape_of before id) ≡ false → (found : Option Shape) → shape_of known id ≡ found → shape_of (with_shape before id found) id ≡ shape_of known id
  two none None is = none_of-some (shape_of before id) none ∙ sym is
  two none (Some shape) is = shape-push-new before (record { parameter_id = id; shape = shape }) (none_of-some (shape_of before id) none) ∙ sym is

  one : (c : Bool) → is_some (shape_of before id) ≡ c → shape_of (cond c before (with_shape before id (shape_of known id))) id ≡ shape_of sofar id
  one true some = r.agree id some
  one false none = two none (shape_of known id) refl ∙ sym (r.other id (came (contains ids id) refl none))

recalled-other : (before known : List Definition) (id q : ℕ) → eqb id q ≡ false → shape_of (recalled before known id) q ≡ shape_of before q
recalled-other before known id q other = one (is_some (shape_of before id)) where
  two : (found : Option Shape) → shape_of (with_shape before id found) q ≡ shape_of before q
  two None = refl
  two (Some shape) = shape-push-other before (record { parameter_id = id; shape = shape }) q other

  one : (c : Bool) → shape_of (cond c before (with_shape before id (shape_of known id))) q ≡ shape_of before q
  one true = refl
  one false = two (shape_of known id)

pub recalls-step : (before known sofar : List Definition) (ids : List ℕ) (d : Definition) → Recalls before known sofar ids
    → Recalls (with_definition (recalled before known d.parameter_id) d) known (with_definition sofar d) (ids ++ d.parameter_id ∷ [])
recalls-step before known sofar ids d r = record {
  has = λ q there. has_one q (eqb d.parameter_id q) refl (sym (any-push (λ y. eqb y q) ids d.parameter_id) ∙ there);
  agree = λ q some. agree_one q (eqb d.parameter_id q) refl some;
  other = λ q none. let p : (contains ids q ≡ false) × (eqb d.parameter_id q ≡ false) = or_parts (contains ids q) (eqb d.parameter_id q) (sym (any-push (λ y. eqb y q) ids d.parameter_id) ∙ none) in
      shape-with-other sofar d q p.1 ∙ r.other q p.0;
} where
  b : List Definition
  b = recalled before known d.parameter_id

  here : shape_of (with_definition (recalled before known d.parameter_id) d) d.parameter_id ≡ shape_of (with_definition sofar d) d.parameter_id
  here = shape-with-same (recalled before known d.parameter_id) d
      ∙ ap (λ (o : Option Shape). cond (is_some o) o (Some d.shape)) (recalled-same before known sofar ids d.parameter_id r) ∙ sym (shape-with-same sofar d)

  some_here : is_some (shape_of (with_definition (recalled before known d.parameter_id) d) d.parameter_id) ≡ true
  some_here = ap is_some (shape-with-same (recalled before known d.parameter_id) d) ∙ one (shape_of (recalled before known d.parameter_id) d.parameter_id) where
    one : (o : Option Shape) → is_some (cond (is_some o) o (Some d.shape)) ≡ true
    one None = refl
    one (Some x) = refl

  still : (q : ℕ) → eqb d.parameter_id q ≡ false → shape_of (with_definition (recalled before known d.parameter_id) d) q ≡ shape_of before q
  still q other = shape-with-other (recalled before known d.parameter_id) d q other ∙ recalled-other before known d.parameter_id q other

  has_one : (q : ℕ) (c : Bool) → eqb d.parameter_id q ≡ c → (contains ids q || c) ≡ true → is_some (shape_of (with_definition (recalled before known d.parameter_id) d) q) ≡ true
  has_one q true same there = subst (λ (x : ℕ). is_some (shape_of (with_definition (recalled before known d.parameter_id) d) x) ≡ true) (eqb-true d.parameter_id q same) some_here
  has_one q false other there = ap is_some (still q other) ∙ r.has q (sym (or_false (contains ids q)) ∙ there)

  agree_one : (q : ℕ) (c : Bool) → eqb d.parameter_id q ≡ c → is_some (shape_of (with_definition (recalled before known d.parameter_id) d) q) ≡ true
      → shape_of (with_definition (recalled before known d.parameter_id) d) q ≡ shape_of (with_definition sofar d) q
  agree_one q true same some = subst (λ (x : ℕ). shape_of (with_definition (recalled before known d.parameter_id) d) x ≡ shape_of (with_definition sofar d) x) (eqb-true d.parameter_id q same) here
  agree_one q false other some = still q other ∙ r.agree q (sym (ap is_some (still q other)) ∙ some) ∙ sym (shape-with-other sofar d q other)

-- ---- the first definition that clashes

pub clashing-here : (sofar ds : List Definition) (d : Definition) → is_other (shape_of sofar d.parameter_id) d.shape ≡ true → clashing sofar (d ∷ ds) ≡ Some (ParamClash d.parameter_id)
clashing-here sofar ds d other = rw other refl

pub clashing-on : (sofar ds : List Definition) (d : Definition) → is_other (shape_of sofar d.parameter_id) d.shape ≡ false → clashing sofar (d ∷ ds) ≡ clashing (with_definition sofar d) ds
clashing-on sofar ds d same = rw same refl

-- one more of all definitions
pub record OneMore (all : List Definition) (i : ℕ) (d : Definition) : Type 0 where
  pub front : take (i + 1) all ≡ take i all ++ d ∷ []
  pub back : drop i all ≡ d ∷ drop (i + 1) all

abbrev pub sofar : List Definition → List Definition → ℕ → List Definition
sofar known all i = fold with_definition known (take i all)

pub record Compares (before known all : List Definition) (i : ℕ) : Type 0 where
  pub recalls : Recalls before known (sofar known all i) (ids_of (take i all))
  pub rest : clashing (sofar known all i) (drop i all) ≡ clashing known all

found-here : (before known all : List Definition) (i : ℕ) (d : Definition) (b : Bool) → Compares before known all i
    → is_other (shape_of (recalled before known d.parameter_id) d.parameter_id) d.shape ≡ b → is_other (shape_of (sofar known all i) d.parameter_id) d.shape ≡ b
found-here before known all i d b c same = ap (λ (o : Option Shape). is_other o d.shape) (sym (recalled-same before known (sofar known all i) (ids_of (take i all)) d.parameter_id c.recalls)) ∙ same

pub compares-clash : (before known all : List Definition) (i : ℕ) (d : Definition) → OneMore all i d → Compares before known all i
    → is_other (shape_of (recalled before known d.parameter_id) d.parameter_id) d.shape ≡ true → Some (ParamClash d.parameter_id) ≡ clashing known all
compares-clash before known all i d one c other =
    sym (clashing-here (sofar known all i) (drop (i + 1) all) d (found-here before known all i d true c other)) ∙ sym (ap (clashing (sofar known all i)) one.back) ∙ c.rest

pub compares-step : (before known all : List Definition) (i : ℕ) (d : Definition) → OneMore all i d → Compares before known all i
    → is_other (shape_of (recalled before known d.parameter_id) d.parameter_id) d.shape ≡ false → Compares (with_definition (recalled before known d.parameter_id) d) known all (i + 1)
compares-step before known all i d one c same = record {
  recalls = subst (λ (ds : List Definition). Recalls (with_definition (recalled before known d.parameter_id) d) known (fold with_definition known ds) (ids_of ds)) (sym one.front)
      (rw (fold-append with_definition known (take i all) (d ∷ []), map_push (λ (x : Definition). x.parameter_id) (take i all) d) (recalls-step before known (sofar known all i) (ids_of (take i all)) d c.recalls));
  rest = ap (λ (ds : List Definition). clashing (fold with_definition known ds) (drop (i + 1) all)) one.front ∙ ap (λ (ds : List Definition). clashing ds (drop (i + 1) all)) (fold-append with_definition known (take i all) (d ∷ []))
      ∙ sym (clashing-on (sofar known all i) (drop (i + 1) all) d (found-here before known all i d false c same)) ∙ sym (ap (clashing (sofar known all i)) one.back) ∙ c.rest;
}

pub compares-all : (before known all : List Definition) (i : ℕ) → drop i all ≡ [] → Compares before known all i → None ≡ clashing known all
compares-all before known all i none c = sym (ap (clashing (sofar known all i)) none) ∙ c.rest

-- what came of one more, by what the calls answer
pub record Adds (before known now new : List Definition) (d : Definition) (shape : Shape) (agrees : Bool) : Type 0 where
  pub now_is : now ≡ recalled before known d.parameter_id
  pub shape_is : shape ≡ d.shape
  pub new_is : new ≡ with_definition now (record { parameter_id = d.parameter_id; shape = shape })
  pub agrees_is : agrees ≡ not (is_other (shape_of now d.parameter_id) shape)

tested : (before known now new : List Definition) (d : Definition) (shape : Shape) (agrees : Bool) → Adds before known now new d shape agrees
    → agrees ≡ not (is_other (shape_of (recalled before known d.parameter_id) d.parameter_id) d.shape)
tested before known now new d shape agrees adds =
    adds.agrees_is ∙ ap (λ (ds : List Definition). not (is_other (shape_of ds d.parameter_id) shape)) adds.now_is ∙ ap (λ (s : Shape). not (is_other (shape_of (recalled before known d.parameter_id) d.parameter_id) s)) adds.shape_is

pub compares-on : (before known now new all : List Definition) (i : ℕ) (d : Definition) (shape : Shape) (agrees : Bool) → OneMore all i d → Compares before known all i
    → Adds before known now new d shape agrees → agrees ≡ true → Compares new known all (i + 1)
compares-on before known now new all i d shape agrees one c adds same =
    subst (λ (ds : List Definition). Compares ds known all (i + 1)) (sym (adds.new_is ∙ ap (λ (ds : List Definition). with_definition ds (record { parameter_id = d.parameter_id; shape = shape })) adds.now_is ∙ ap (λ (s : Shape). with_definition (recalled before known d.parameter_id) (record { parameter_id = d.parameter_id; shape = s })) adds.shape_is))
    (compares-step before known all i d one c (not-true _ (sym (tested before known now new d shape agrees adds) ∙ same)))

pub compares-stop : (before known now new all : List Definition) (i : ℕ) (d : Definition) (shape : Shape) (agrees : Bool) → OneMore all i d → Compares before known all i
    → Adds before known now new d shape agrees → agrees ≡ false → Some (ParamClash d.parameter_id) ≡ clashing known all
compares-stop before known now new all i d shape agrees one c adds other =
    compares-clash before known all i d one c (not-false _ (sym (tested before known now new d shape agrees adds) ∙ other))

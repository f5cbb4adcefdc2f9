-- What the tables of predicted samples give meets the equations.
use Rattle.std.proofs.Common.{◌≡◌, ℕ, zero, suc, ◌+◌, ◌-◌, ◌*◌, ◌/◌, ◌^◌, ◌<◌, ℤ, pos, ◌+ℤ◌, List, [], ◌∷◌, ◌++◌, length, take, get_or, unsigned_abs, refl, sym, ap, subst, ◌∙◌, arith, length-append, inl, inr}
use Rattle.std.proofs.Math.Seq.{get_or-append_seam}
use Rattle.std.proofs.lemmas.Bool.{eqb-true, eqb-false, ltb-true, ltb-false}
use Rattle.std.proofs.lemmas.List.{take-take, take_at, take_all, get_or-take, append-nil}
use Rattle.spec_bits.specs.Form.{Number, Signed}
use Rattle.spec_syntax.specs.Syntax.{Syntax, each, in_turn}
use Rattle.spec_syntax.specs.Payload.{FieldValue, a_field}
use Rattle.spec_syntax.proofs.Fields.{Has, field_step, end_step, choice_step, check_step, bind_step}
use Rattle.spec_flac.specs.declared.fault.FlacFault.{FlacFault}
use Rattle.spec_flac.specs.Residual.{sample, samples, plain_residual, coded_residual, partition, partitions, residual}
use Rattle.spec_flac.specs.Subframe.{verbatim, predicted, half_of, linear, weights, weighted, linear_prediction, constant, copies, content, fixed, fixed_coefficients, order_of, subframe, subframe_kind, wasted_bits}
use Rattle.spec_flac.specs.Equations.{Spelled, Coded, InPartition, InPartitions, InResidual, Predicted, MeetsEquations, MeetsLinear, MeetsKind, MeetsSubframe}

-- each sample after those before is its prediction plus its residual
abbrev Follows : (List ℤ → ℤ) → List ℤ → List ℤ → List ℤ → Type 0
Follows predict before [] zs = before ≡ zs
Follows predict before (r ∷ rs) zs = Follows predict (before ++ (predict before +ℤ r) ∷ []) rs zs

follows_append : (predict : List ℤ → ℤ) (before rs mid ss zs : List ℤ) → Follows predict before rs mid → Follows predict mid ss zs → Follows predict before (rs ++ ss) zs
follows_append predict before [] mid ss zs f g = subst (λ (b : List ℤ). Follows predict b ss zs) (sym f) g
follows_append predict before (r ∷ rs) mid ss zs f g = follows_append predict (before ++ (predict before +ℤ r) ∷ []) rs mid ss zs f g

follows_predicted : (predict : List ℤ → ℤ) (before rs zs : List ℤ) → Follows predict before rs zs → Predicted predict before rs zs
follows_predicted predict before [] zs f = subst (λ (ys : List ℤ). Predicted predict before [] ys) f (record { many = omega arith; first = take_all (length before) before (omega arith); next = λ n lt. absurd (omega (arith, lt)) })
follows_predicted predict before (r ∷ rs) zs f =
    let z = predict before +ℤ r in
    let after = before ++ z ∷ [] in
    let ih = follows_predicted predict after rs zs f in
    let len : length after ≡ length before + 1 = length-append before (z ∷ []) in
    let fronts : take (length before) zs ≡ before = sym (take-take (length before) (length after) zs (omega arith)) ∙ ap (take (length before)) ih.first ∙ take_at before (z ∷ []) (length before) refl in
    let here : get_or zs (length before) (pos 0) ≡ z = sym (get_or-take (length after) zs (length before) (pos 0) (omega arith)) ∙ ap (λ (ys : List ℤ). get_or ys (length before) (pos 0)) ih.first ∙ get_or-append_seam before z [] (pos 0) in
    record {
      many = omega (arith, ih.many, len);
      first = fronts;
      next = next predict before r rs zs z fronts here (λ n lt. later predict after rs zs (length before) n len ih n lt);
    }
  where
    later : (predict : List ℤ → ℤ) (after rs zs : List ℤ) (k n : ℕ) → length after ≡ k + 1 → Predicted predict after rs zs → (n : ℕ) → n < length rs → get_or zs (k + suc n) (pos 0) ≡ predict (take (k + suc n) zs) +ℤ get_or rs n (pos 0)
    later predict after rs zs k m len ih n lt =
        let e : length after + n ≡ k + suc n = omega (arith, len) in
        subst (λ (j : ℕ). get_or zs j (pos 0) ≡ predict (take j zs) +ℤ get_or rs n (pos 0)) e (ih.next n lt)

    next : (predict : List ℤ → ℤ) (before : List ℤ) (r : ℤ) (rs zs : List ℤ) (z : ℤ) → take (length before) zs ≡ before → get_or zs (length before) (pos 0) ≡ predict before +ℤ r
        → ((n : ℕ) → n < length rs → get_or zs (length before + suc n) (pos 0) ≡ predict (take (length before + suc n) zs) +ℤ get_or rs n (pos 0))
        → (n : ℕ) → n < length (r ∷ rs) → get_or zs (length before + n) (pos 0) ≡ predict (take (length before + n) zs) +ℤ get_or (r ∷ rs) n (pos 0)
    next predict before r rs zs z fronts here later zero lt =
        let e : length before ≡ length before + 0 = omega arith in
        subst (λ (j : ℕ). get_or zs j (pos 0) ≡ predict (take j zs) +ℤ r) e (here ∙ ap (λ (b : List ℤ). predict b +ℤ r) (sym fronts))
    next predict before r rs zs z fronts here later (suc n) lt = later n (omega arith)

-- ---- the tables

spelled : {A : Type 0} {s : Syntax FlacFault A} {xs : List FieldValue} {r : A} → Has s xs r → Spelled s xs r
spelled h = (h.before, h.bits, h.stands)

record IsSum (res : Syntax FlacFault ℤ) (p : ℤ) (xs : List FieldValue) (z : ℤ) : Type 0 where
  r : ℤ
  has : Has res xs r
  is : z ≡ p +ℤ r

sample_sum : (half : ℤ) (res : Syntax FlacFault ℤ) (p : ℤ) (xs : List FieldValue) (z : ℤ) → Has (sample half res p) xs z → IsSum res p xs z
unfolding sample
sample_sum half res p xs z h =
    bind_step res _ h λ front others r e first h1.
    check_step h1 λ fits h2.
    end_step h2 λ none is.
    record { r = r; has = subst (λ (ys : List FieldValue). Has res ys r) (sym (e ∙ ap (λ (ys : List FieldValue). front ++ ys) none ∙ append-nil front)) first; is = sym is }

record Some (P : List ℤ → Type 0) (predict : List ℤ → ℤ) (before zs : List ℤ) : Type 0 where
  rs : List ℤ
  coded : P rs
  follows : Follows predict before rs zs

samples_follow : (half : ℤ) (res : Syntax FlacFault ℤ) (predict : List ℤ → ℤ) (count : ℕ) (before : List ℤ) (xs : List FieldValue) (zs : List ℤ) → Has (samples half res predict count before) xs zs → Some (λ rs. Coded res rs xs) predict before zs
unfolding samples each
samples_follow half res predict zero before xs zs h = end_step h λ none is. record { rs = []; coded = none; follows = is }
samples_follow half res predict (suc n) before xs zs h =
    bind_step (sample half res (predict before)) _ h λ front others z e first h1.
    let s = sample_sum half res (predict before) front z first in
    let rest = samples_follow half res predict n (before ++ z ∷ []) others zs h1 in
    record {
      rs = s.r ∷ rest.rs;
      coded = (front, others, e, spelled s.has, rest.coded);
      follows = subst (λ (y : ℤ). Follows predict (before ++ y ∷ []) rest.rs zs) s.is rest.follows;
    }

partition_follows : (half : ℤ) (predict : List ℤ → ℤ) (count to : ℕ) (before : List ℤ) (xs : List FieldValue) (zs : List ℤ) → Has (partition half predict count to before) xs zs → Some (λ rs. InPartition count rs xs) predict before zs
unfolding partition
partition_follows half predict count to before xs zs h =
    field_step h λ k ys e f p h1.
    choice_step h1
    (λ escape h2.
    field_step h2 λ width rest e2 f2 p2 h3.
    let s = samples_follow half (plain_residual width) predict (to - length before) before rest zs h3 in
    record { rs = s.rs; coded = (k, ys, e, inl (eqb-true k (2 ^ count - 1) escape, width, rest, e2, s.coded)); follows = s.follows })
    (λ plain h2.
    let s = samples_follow half (coded_residual k) predict (to - length before) before ys zs h2 in
    record { rs = s.rs; coded = (k, ys, e, inr (eqb-false k (2 ^ count - 1) plain, s.coded)); follows = s.follows })

turns_follow : (half : ℤ) (predict : List ℤ → ℤ) (count size all n : ℕ) (before : List ℤ) (xs : List FieldValue) (zs : List ℤ) → Has (in_turn n (λ later ys. partition half predict count (size * (all - later)) ys) before) xs zs
    → Some (λ rs. InPartitions n count rs xs) predict before zs
unfolding in_turn
turns_follow half predict count size all zero before xs zs h = end_step h λ none is. record { rs = []; coded = (refl, none); follows = is }
turns_follow half predict count size all (suc n) before xs zs h =
    bind_step (partition half predict count (size * (all - n)) before) _ h λ front others mid e first h1.
    let s = partition_follows half predict count (size * (all - n)) before front mid first in
    let t = turns_follow half predict count size all n mid others zs h1 in
    record { rs = s.rs ++ t.rs; coded = (s.rs, t.rs, front, others, refl, e, s.coded, t.coded); follows = follows_append predict before s.rs mid t.rs zs s.follows t.follows }

residual_follows : (half : ℤ) (predict : List ℤ → ℤ) (block_size : ℕ) (warm_up : List ℤ) (xs : List FieldValue) (zs : List ℤ) → Has (residual half predict block_size warm_up) xs zs → Some (λ rs. InResidual rs xs) predict warm_up zs
unfolding residual partitions
residual_follows half predict block_size warm_up xs zs h =
    field_step h λ m ys e f p h1.
    field_step h1 λ order rest e1 f1 p1 h2.
    let t = turns_follow half predict (m + 4) (block_size / 2 ^ order) (2 ^ order) (2 ^ order) warm_up rest zs h2 in
    record { rs = t.rs; coded = (m, order, rest, e ∙ ap (λ (others : List FieldValue). a_field (Number 2) m ∷ others) e1, t.coded); follows = t.follows }

pub predicted_meets : (predict : List ℤ → ℤ) (order depth block_size : ℕ) (xs : List FieldValue) (zs : List ℤ) → Spelled (predicted order predict depth block_size) xs zs → MeetsEquations predict depth order xs zs
unfolding predicted
predicted_meets predict order depth block_size xs zs h =
    let has : Has (predicted order predict depth block_size) xs zs = record { before = h.0; bits = h.1; stands = h.2 } in
    bind_step (verbatim depth order) _ has λ front others warm e first h1.
    let s = residual_follows (half_of depth) predict block_size warm others zs h1 in
    record { warm_up = warm; residuals = s.rs; front = front; others = others; parts = e; plain = spelled first; coded = s.coded; samples = follows_predicted predict warm s.rs zs s.follows }

-- ---- the other kinds, and whole subframes

join : (xs front others rest more : List FieldValue) → xs ≡ front ++ others → others ≡ rest ++ more → xs ≡ front ++ (rest ++ more)
join xs front others rest more e g = e ∙ ap (λ (ys : List FieldValue). front ++ ys) g

linear_meets : (order depth block_size : ℕ) (xs : List FieldValue) (zs : List ℤ) → Has (linear order depth block_size) xs zs → MeetsLinear depth order xs zs
unfolding linear weights weighted
linear_meets order depth block_size xs zs h =
    bind_step (verbatim depth order) _ h λ front others warm e first h1.
    field_step h1 λ precision ys e1 f1 p1 h2.
    field_step h2 λ shift ys2 e2 f2 p2 h3.
    bind_step (verbatim (precision + 1) order) _ h3 λ middle rest cs e3 second h4.
    let s = residual_follows (half_of depth) (linear_prediction cs (unsigned_abs shift)) block_size warm rest zs h4 in
    record {
      warm_up = warm;
      precision = precision;
      shift = shift;
      coefficients = cs;
      residuals = s.rs;
      front = front;
      middle = middle;
      others = rest;
      parts = rw (e, e1, e2, e3) refl;
      plain = spelled first;
      weights = spelled second;
      coded = s.coded;
      samples = follows_predicted (linear_prediction cs (unsigned_abs shift)) warm s.rs zs s.follows;
    }

constant_meets : (depth block_size : ℕ) (xs : List FieldValue) (zs : List ℤ) → Has (constant depth block_size) xs zs → (value : ℤ) × (xs ≡ a_field (Signed depth) value ∷ []) × (zs ≡ copies block_size value)
unfolding constant
constant_meets depth block_size xs zs h =
    field_step h λ value ys e f p h1.
    end_step h1 λ none is.
    (value, e ∙ ap (λ (rest : List FieldValue). a_field (Signed depth) value ∷ rest) none, sym is)

kind_meets : (kind depth block_size : ℕ) (xs : List FieldValue) (zs : List ℤ) → Has (content kind depth block_size) xs zs → MeetsKind kind depth block_size xs zs
unfolding content fixed
kind_meets kind depth block_size xs zs h =
    choice_step h
    (λ zero h1. let m = constant_meets depth block_size xs zs h1 in inl (eqb-true kind 0 zero, m.0, m.1, m.2))
    (λ not_zero h1. choice_step h1
    (λ one h2. inr (inl (eqb-true kind 1 one, spelled h2)))
    (λ not_one h2. choice_step h2
    (λ below h3. inr (inr (inl (ltb-true kind 32 below, predicted_meets (linear_prediction (fixed_coefficients (order_of kind)) 0) (order_of kind) depth block_size xs zs (spelled h3)))))
    (λ above h3. inr (inr (inr (ltb-false kind 32 above, linear_meets (order_of kind) depth block_size xs zs h3))))))

pub subframe_meets : (depth block_size : ℕ) (xs : List FieldValue) (ys : List ℤ) → Spelled (subframe depth block_size) xs ys → MeetsSubframe depth block_size xs ys
unfolding subframe
subframe_meets depth block_size xs ys h =
    let has : Has (subframe depth block_size) xs ys = record { before = h.0; bits = h.1; stands = h.2 } in
    bind_step (subframe_kind block_size) _ has λ front others kind e first h1.
    bind_step (wasted_bits depth) _ h1 λ middle rest k e1 second h2.
    bind_step (content kind (depth - k) block_size) _ h2 λ own more zs e2 third h3.
    end_step h3 λ none is.
    let all : rest ≡ own = e2 ∙ ap (λ (more : List FieldValue). own ++ more) none ∙ append-nil own in
    record {
      kind = kind;
      wasted = k;
      zs = zs;
      front = front;
      middle = middle;
      others = own;
      parts = join xs front others middle own e (e1 ∙ ap (λ (z : List FieldValue). middle ++ z) all);
      of_kind = spelled first;
      of_wasted = spelled second;
      content = kind_meets kind (depth - k) block_size own zs third;
      samples = sym is;
    }

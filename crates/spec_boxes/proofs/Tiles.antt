-- The boxes of a part, one at a time.
use Rattle.std.proofs.Common.{◌≡◌, ℕ, zero, suc, ◌+◌, ◌-◌, ◌<◌, ◌≤◌, Bool, true, false, nat_lt, List, [], ◌∷◌, Result, Ok, Err, refl, ap, ◌∙◌, arith}
use Rattle.std.specs.Prelude.{◌==◌, ◌||◌, if◌then◌else◌, is_ok, IfOk}
use Rattle.std.proofs.lemmas.Bool.{lt-ltb, le-ltb}
use Rattle.std.proofs.lemmas.Bool.Decides.{nat_tests}
use Rattle.spec_boxes.specs.declared.fault.BoxRefusal.{BoxRefusal}
use Rattle.spec_boxes.specs.Bytes.{word_at, long_at}
use Rattle.spec_bits.specs.ByteReading.{◌>>=◌}
use Rattle.spec_boxes.specs.Boxes.{Box, sized, box_at, boxes, boxes_in, tiles}

if_ok : {A F : Type 0} (P : A → Type 0) (b : Bool) (x y : Result A F) → (b ≡ true → IfOk x P) → (b ≡ false → IfOk y P) → IfOk (if b then x else y) P
if_ok P true x y h k = h refl
if_ok P false x y h k = k refl

not_below : (a b c d : ℕ) → (nat_lt a b || nat_lt c d) ≡ false → b ≤ a
not_below a b c d h = grind (arith, nat_tests)

-- a box takes eight bytes at least
abbrev Onward : ℕ → Box → Type 0
Onward at b = at + 8 ≤ b.end

sized_onward : (f : List ℕ) (at header size end : ℕ) → 8 ≤ header → IfOk (sized f at header size end) (Onward at)
sized_onward f at header size end few =
    if_ok (Onward at) _ _ _ (λ _. tt) (λ e. let n : header ≤ size = not_below size header (end - at) size e in omega arith)

pub box_onward : (top : Bool) (f : List ℕ) (at end : ℕ) → IfOk (box_at top f at end) (Onward at)
unfolding box_at
box_onward top f at end =
    if_ok (Onward at) (nat_lt (end - at) 8) _ _ (λ _. tt) (λ _.
    if_ok (Onward at) (word_at f at == 1) _ _ (λ _. if_ok (Onward at) (nat_lt (end - at) 16) _ _ (λ _. tt) (λ _. sized_onward f at 16 (long_at f (at + 8)) end (omega arith))) (λ _.
    if_ok (Onward at) (word_at f at == 0) _ _ (λ _. if_ok (Onward at) top _ _ (λ _. sized_onward f at 8 (end - at) end (omega arith)) (λ _. tt)) (λ _.
    sized_onward f at 8 (word_at f at) end (omega arith))))

bind_same : {A B F : Type 0} (P : A → Type 0) (r : Result A F) (g h : A → Result B F) → IfOk r P → ((x : A) → P x → g x ≡ h x) → (r >>= g) ≡ (r >>= h)
bind_same P (Ok x) g h p same = same x p
bind_same P (Err e) g h p same = refl

-- enough is enough
boxes_enough : (n m : ℕ) (top : Bool) (f : List ℕ) (at end : ℕ) → end - at ≤ n → end - at ≤ m → boxes n top f at end ≡ boxes m top f at end
boxes_enough zero zero top f at end p q = refl
boxes_enough zero (suc m) top f at end p q = let past : end ≤ at = omega arith in rw (le-ltb at end past) refl
boxes_enough (suc n) zero top f at end p q = let past : end ≤ at = omega arith in rw (le-ltb at end past) refl
boxes_enough (suc n) (suc m) top f at end p q =
    ap (λ (r : Result (List Box) BoxRefusal). if nat_lt at end then r else Ok [])
    (bind_same (Onward at) (box_at top f at end) _ _ (box_onward top f at end) (λ b on.
    ap (λ (r : Result (List Box) BoxRefusal). r >>= λ bs. Ok (b ∷ bs)) (boxes_enough n m top f b.end end (omega arith) (omega arith))))

pub tiles_end : (top : Bool) (f : List ℕ) (at end : ℕ) → end ≤ at → tiles top f at end ≡ Ok []
unfolding tiles
tiles_end top f at end past = let e : end - at ≡ 0 = omega arith in rw e refl

pub tiles_step : (top : Bool) (f : List ℕ) (at end : ℕ) → at < end
    → tiles top f at end ≡ (box_at top f at end >>= λ b. tiles top f b.end end >>= λ bs. Ok (b ∷ bs))
unfolding tiles
tiles_step top f at end less =
    let e : end - at ≡ suc (end - at - 1) = omega arith in
    rw (e, lt-ltb at end less) (bind_same (Onward at) (box_at top f at end) _ _ (box_onward top f at end) (λ b on.
    ap (λ (r : Result (List Box) BoxRefusal). r >>= λ bs. Ok (b ∷ bs)) (boxes_enough (end - at - 1) (end - b.end) top f b.end end (omega arith) (omega arith))))

pub tiles_next : (top : Bool) (f : List ℕ) (at end : ℕ) (b : Box) → at < end → box_at top f at end ≡ Ok b
    → tiles top f at end ≡ (tiles top f b.end end >>= λ bs. Ok (b ∷ bs))
tiles_next top f at end b less read = tiles_step top f at end less ∙ ap (λ (r : Result Box BoxRefusal). r >>= λ c. tiles top f c.end end >>= λ bs. Ok (c ∷ bs)) read

pub tiles_fault : (top : Bool) (f : List ℕ) (at end : ℕ) (e : BoxRefusal) → at < end → box_at top f at end ≡ Err e → tiles top f at end ≡ Err e
tiles_fault top f at end e less read = tiles_step top f at end less ∙ ap (λ (r : Result Box BoxRefusal). r >>= λ c. tiles top f c.end end >>= λ bs. Ok (c ∷ bs)) read

-- the verdict on the rest is the verdict on the whole
pub record Decides (rest whole : Result (List Box) BoxRefusal) : Type 0 where
  pub stands : is_ok rest ≡ true → is_ok whole ≡ true
  pub fails : (e : BoxRefusal) → rest ≡ Err e → whole ≡ Err e

pub decides_start : (r : Result (List Box) BoxRefusal) → Decides r r
decides_start r = record { stands = λ h. h; fails = λ e h. h }

ok_of : (r : Result (List Box) BoxRefusal) (b : Box) → is_ok r ≡ true → is_ok (r >>= λ bs. Ok (b ∷ bs)) ≡ true
ok_of (Ok x) b h = refl
ok_of (Err e) b h = cc

ok_back : (r : Result (List Box) BoxRefusal) (b : Box) → is_ok (r >>= λ bs. Ok (b ∷ bs)) ≡ true → is_ok r ≡ true
ok_back (Ok x) b h = refl
ok_back (Err e) b h = h

fault_of : (r : Result (List Box) BoxRefusal) (b : Box) (e : BoxRefusal) → r ≡ Err e → (r >>= λ bs. Ok (b ∷ bs)) ≡ Err e
fault_of r b e h = ap (λ (s : Result (List Box) BoxRefusal). s >>= λ bs. Ok (b ∷ bs)) h

pub decides_next : (top : Bool) (f : List ℕ) (at end : ℕ) (b : Box) (whole : Result (List Box) BoxRefusal) → at < end → box_at top f at end ≡ Ok b
    → Decides (tiles top f at end) whole → Decides (tiles top f b.end end) whole
decides_next top f at end b whole less read so_far =
    let e = tiles_next top f at end b less read in
    record {
      stands = λ h. so_far.stands (rw e (ok_of (tiles top f b.end end) b h));
      fails = λ x h. so_far.fails x (rw e (fault_of (tiles top f b.end end) b x h));
    }

pub is_read : (r : Result (List Box) BoxRefusal) → is_ok r ≡ true → r ≡ Ok (boxes_in r)
is_read (Ok x) h = refl
is_read (Err e) h = cc

pub tiled_next : (top : Bool) (f : List ℕ) (at end : ℕ) (b : Box) → at < end → box_at top f at end ≡ Ok b → is_ok (tiles top f at end) ≡ true → is_ok (tiles top f b.end end) ≡ true
tiled_next top f at end b less read tiled = ok_back (tiles top f b.end end) b (rw (tiles_next top f at end b less read) at tiled)

consed : (r : Result (List Box) BoxRefusal) (b : Box) → is_ok r ≡ true → boxes_in (r >>= λ bs. Ok (b ∷ bs)) ≡ b ∷ boxes_in r
consed (Ok x) b h = refl
consed (Err e) b h = cc

pub boxes_next : (top : Bool) (f : List ℕ) (at end : ℕ) (b : Box) → at < end → box_at top f at end ≡ Ok b → is_ok (tiles top f at end) ≡ true
    → boxes_in (tiles top f at end) ≡ b ∷ boxes_in (tiles top f b.end end)
boxes_next top f at end b less read tiled =
    ap boxes_in (tiles_next top f at end b less read) ∙ consed (tiles top f b.end end) b (tiled_next top f at end b less read tiled)

pub no_fault : (top : Bool) (f : List ℕ) (at end : ℕ) (e : BoxRefusal) → at < end → box_at top f at end ≡ Err e → is_ok (tiles top f at end) ≡ true → ⊥
no_fault top f at end e less read tiled = let x = tiles_fault top f at end e less read in let t = rw x at tiled in cc

pub read_end : (top : Bool) (f : List ℕ) (at end : ℕ) → end ≤ at → is_ok (tiles top f at end) ≡ true
read_end top f at end past = ap is_ok (tiles_end top f at end past)

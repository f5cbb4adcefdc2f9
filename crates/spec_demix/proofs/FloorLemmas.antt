use Rattle.std.proofs.Common.{arith, ◌≡◌, ◌<◌, ◌≤◌, ℕ, ℤ, pos, negsuc, ◌+ℤ◌, ◌-ℤ◌, ◌*ℤ◌, ◌≤ℤ◌, ◌<ℤ◌, ◌+◌, ◌*◌, ap, ◌∙◌, neg_ℤ, nat_le, true, false}
use Rattle.std.proofs.lemmas.Int.{ints}
use Rattle.std.proofs.lemmas.Bool.Decides.{nat_tests}
use Rattle.std.proofs.Math.Nat.{mul-le-mul_right}
use borrow.Author.Differences.{up, down, sum_is_lem, product_is, neg_is}
use Rattle.spec_demix.proofs.Near.{Near}
use Rattle.spec_demix.specs.Floor.{floor_of}
use Rattle.spec_demix.specs.Kinds.{reaches, gives_three, gives_two, leaves_three, gives_four, gives_back, splits_two}
use Rattle.spec_demix.specs.declared.Kind.{Kind}
use Rattle.std.proofs.Math.IntN.{*ℤ_comm}

pub floor-low : (z : ℤ) (n : ℕ) → 0 < n → (floor_of z n *ℤ pos n) ≤ℤ z
floor-low (pos a) n h = omega (arith, ints)
floor-low (negsuc a) n h = omega (arith, ints)

pub floor-high : (z : ℤ) (n : ℕ) → 0 < n → z <ℤ (floor_of z n *ℤ pos n +ℤ pos n)
floor-high (pos a) n h = omega (arith, ints)
floor-high (negsuc a) n h = omega (arith, ints)

pub distribute : (a b c : ℤ) → (a +ℤ b) *ℤ c ≡ a *ℤ c +ℤ b *ℤ c
distribute a b c =
    let e = sum_is_lem a b in
    let p = ap (λ x. x * up c) e in
    let q = ap (λ x. x * down c) e in
    omega (arith, ints)

pub negated : (b c : ℤ) → neg_ℤ b *ℤ c ≡ neg_ℤ (b *ℤ c)
negated b c =
    let n = neg_is b in
    let r = ap (λ x. x * up c) n.0 in
    let s = ap (λ x. x * down c) n.0 in
    let t = ap (λ x. x * up c) n.1 in
    let v = ap (λ x. x * down c) n.1 in
    omega (arith, ints)

pub distribute_minus : (a b c : ℤ) → (a -ℤ b) *ℤ c ≡ a *ℤ c -ℤ b *ℤ c
distribute_minus a b c = let d = distribute a (neg_ℤ b) c in let n = negated b c in omega (arith, ints)

pub swapped : (q : ℤ) (n b : ℕ) → (q *ℤ pos n) *ℤ pos b ≡ (q *ℤ pos b) *ℤ pos n
swapped q n b =
    let left = product_is q (pos n) in
    let right = product_is q (pos b) in
    let p = ap (λ x. x * b) left.0 in
    let r = ap (λ x. x * b) left.1 in
    let s = ap (λ x. x * n) right.0 in
    let t = ap (λ x. x * n) right.1 in
    omega (arith, ints)

pub swapped_left : (q : ℤ) (n b : ℕ) → (pos n *ℤ q) *ℤ pos b ≡ pos n *ℤ (q *ℤ pos b)
swapped_left q n b =
    let left = product_is (pos n) q in
    let right = product_is q (pos b) in
    let p = ap (λ x. x * b) left.0 in
    let r = ap (λ x. x * b) left.1 in
    let s = ap (λ x. n * x) right.0 in
    let t = ap (λ x. n * x) right.1 in
    omega (arith, ints)

pub mul-ordered : (a b : ℤ) (n : ℕ) → a ≤ℤ b → (a *ℤ pos n) ≤ℤ (b *ℤ pos n)
mul-ordered a b n h = let e : up a + down b ≤ up b + down a = omega (arith, ints) in let m = mul-le-mul_right n e in omega (arith, ints)

-- a floor times b, against z times b
pub floor_near : (z : ℤ) (n b : ℕ) → 0 < n → Near n b (pos n *ℤ (floor_of z n *ℤ pos b) -ℤ z *ℤ pos b)
floor_near z n b some =
    let q = floor_of z n in
    let low = mul-ordered (q *ℤ pos n) z b (floor-low z n some) in
    let high' : z ≤ℤ (q *ℤ pos n +ℤ pos n) = let h = floor-high z n some in omega (arith, ints) in
    let high = mul-ordered z (q *ℤ pos n +ℤ pos n) b high' in
    let d = distribute (q *ℤ pos n) (pos n) (pos b) in
    let s = swapped q n b in
    omega (arith, ints)

pub reached : (kind before now : ℕ) → before < kind → kind ≤ now → reaches kind before now ≡ true
reached kind before now b n = grind (arith, nat_tests)

pub not_reached : (kind before now : ℕ) → kind ≤ before → reaches kind before now ≡ false
not_reached kind before now b = grind (arith, nat_tests)

pub spread : (k : ℕ) (x y : ℤ) → pos k *ℤ (x -ℤ y) ≡ pos k *ℤ x -ℤ pos k *ℤ y
spread k x y = *ℤ_comm (pos k) (x -ℤ y) ∙ distribute_minus x y (pos k) ∙ ap (λ t. t -ℤ y *ℤ pos k) (*ℤ_comm x (pos k)) ∙ ap (λ t. pos k *ℤ x -ℤ t) (*ℤ_comm y (pos k))

pub factors : (n m : ℕ) (y : ℤ) → pos n *ℤ (pos m *ℤ y) ≡ pos (n * m) *ℤ y
factors n m y =
    let p = product_is (pos m) y in
    let q = ap (λ t. n * t) p.0 in
    let r = ap (λ t. n * t) p.1 in
    omega (arith, ints)

pub factors_swapped : (k m : ℕ) (z : ℤ) → pos k *ℤ (pos m *ℤ z) ≡ pos m *ℤ (pos k *ℤ z)
factors_swapped k m z =
    let p = product_is (pos m) z in
    let q = product_is (pos k) z in
    let a = ap (λ t. k * t) p.0 in
    let b = ap (λ t. k * t) p.1 in
    let c = ap (λ t. m * t) q.0 in
    let d = ap (λ t. m * t) q.1 in
    omega (arith, ints)

pub passes : (a b : ℕ) → a ≤ b → nat_le a b ≡ true
passes a b h = grind (arith, nat_tests)

pub fails : (a b : ℕ) → b < a → nat_le a b ≡ false
fails a b h = grind (arith, nat_tests)

-- the tests of the heights
pub three_given : (before now : Kind) → before.height < 2 → 2 ≤ now.height → now.surround < 5 → gives_three before now ≡ true
three_given before now a b c = grind (arith, nat_tests)

pub three_not_given : (before now : Kind) → 2 ≤ before.height → gives_three before now ≡ false
three_not_given before now a = grind (arith, nat_tests)

pub two_given : (before now : Kind) → before.height < 2 → 2 ≤ now.height → now.height < 4 → 5 ≤ now.surround → gives_two before now ≡ true
two_given before now a b c d = grind (arith, nat_tests)

pub two_not_given : (before now : Kind) → 2 ≤ before.height → gives_two before now ≡ false
two_not_given before now a = grind (arith, nat_tests)

pub three_left : (before now : Kind) → 3 ≤ before.surround → before.surround < 5 → 5 ≤ now.surround → leaves_three before now ≡ true
three_left before now a b c = grind (arith, nat_tests)

pub three_not_left : (before now : Kind) → 5 ≤ before.surround → leaves_three before now ≡ false
three_not_left before now a = grind (arith, nat_tests)

pub none_left : (before now : Kind) → before.surround < 3 → leaves_three before now ≡ false
none_left before now a = grind (arith, nat_tests)

pub four_given : (before now : Kind) → before.height < 4 → 4 ≤ now.height → gives_four before now ≡ true
four_given before now a b = grind (arith, nat_tests)

pub four_not_given : (before now : Kind) → 4 ≤ before.height → gives_four before now ≡ false
four_not_given before now a = grind (arith, nat_tests)

pub back_given : (before now : Kind) → before.height < 2 → 4 ≤ now.height → gives_back before now ≡ true
back_given before now a b = grind (arith, nat_tests)

pub back_not_given : (before now : Kind) → 2 ≤ before.height → gives_back before now ≡ false
back_not_given before now a = grind (arith, nat_tests)

pub two_split : (before now : Kind) → 2 ≤ before.height → before.height < 4 → 4 ≤ now.height → splits_two before now ≡ true
two_split before now a b c = grind (arith, nat_tests)

pub not_split_low : (before now : Kind) → before.height < 2 → splits_two before now ≡ false
not_split_low before now a = grind (arith, nat_tests)

pub not_split_high : (before now : Kind) → 4 ≤ before.height → splits_two before now ≡ false
not_split_high before now a = grind (arith, nat_tests)

-- The row that the exact demix writes: fractions of the exact walk, which fit and are small.
use Rattle.std.proofs.Common.{arith, ◌≡◌, ◌<◌, ◌≤◌, ℕ, ℤ, pos, ◌*ℤ◌, ◌*◌, ◌^◌, List, [], ◌∷◌, map, unsigned_abs, slice_index_or, Bool, true, false, if◌then◌else◌, nat_le}
use Rattle.std.specs.Prelude.{All}
use Rattle.std.specs.List.{AllZip}
use Rattle.std.proofs.lemmas.Int.{ints}
use Rattle.std.proofs.lemmas.List.Elements.{All-head, All-tail, All-map}
use Rattle.std.proofs.Math.Nat.{mul-le-mul}
use Rattle.spec_layouts.specs.declared.Channel.{Channel}
use Rattle.spec_layouts.specs.declared.Channel.TheVariants.{M, L, R, C, Lfe, Ls, Rs, Lss, Rss, Lrs, Rrs, Ltf, Rtf, Ltb, Rtb}
use Rattle.spec_gains.specs.declared.DemixMode.{DemixMode}
use Rattle.spec_gains.specs.Modes.{Coefficients, coefficients_of, IsMode, AreBounded}
use Rattle.spec_demix.specs.declared.DemixLayer.{DemixLayer}
use Rattle.spec_demix.specs.declared.Fraction.{Fraction}
use Rattle.spec_demix.specs.declared.Kind.{Kind}
use Rattle.spec_demix.specs.declared.Side.{Side}
use Rattle.spec_demix.specs.declared.Tops.{Tops}
use Rattle.spec_demix.specs.declared.Bed.{Bed}
use Rattle.spec_demix.specs.Values.{channel_of}
use Rattle.spec_demix.specs.Sent.{kinds_of, sent_by, IsLayers}
use Rattle.spec_demix.specs.Fits.{Fits, IsChannel, target_channels}
use Rattle.spec_demix.specs.ExactWalk.{Quotient, HalfQuotients, Quotients, exact, parts_of, whole_of, part_of}
use Rattle.spec_demix.specs.Laws.{exact_list, exact_bottom}
use Rattle.spec_demix.proofs.Layered.{some_list_fits}
use Rattle.spec_demix.proofs.Fractions.{exact_fits_all}
use Rattle.demix_layers.specs.declared.fractions.Whole.{Whole}
use Rattle.demix_layers.specs.Within.{IsWithinSide, IsWithinTops, IsWithin}
use Rattle.demix_layers.specs.Quotients.{IsQuotient, AreWhole, IsBounded, fraction_at}

quotient_at : (q : Quotients) (x : Whole) → AreWhole q x → (c : Channel) → IsQuotient (part_of q c) (fraction_at x c)
quotient_at q x w M = w.mono
quotient_at q x w L = w.left.front
quotient_at q x w R = w.right.front
quotient_at q x w C = w.center
quotient_at q x w Lfe = w.low
quotient_at q x w Ls = w.left.surround
quotient_at q x w Rs = w.right.surround
quotient_at q x w Lss = w.left.side
quotient_at q x w Rss = w.right.side
quotient_at q x w Lrs = w.left.rear
quotient_at q x w Rrs = w.right.rear
quotient_at q x w Ltf = w.left.top
quotient_at q x w Rtf = w.right.top
quotient_at q x w Ltb = w.left.top_back
quotient_at q x w Rtb = w.right.top_back

is_channel : (q : Quotient) (f : Fraction) (bottom : ℕ) (z : ℤ) → IsQuotient q f → q.top *ℤ pos bottom ≡ z *ℤ pos q.bottom → f.top *ℤ pos bottom ≡ z *ℤ f.bottom
is_channel q f bottom z i e = rw (i.top, i.bottom) e

zipped : {B : Type 0} (S : Channel → B → Type 0) (v : Channel → B) (cs : List Channel) → All (λ c. S c (v c)) cs → AllZip S cs (map v cs)
zipped S v [] h = tt
zipped S v (c ∷ cs) h = (All-head (λ c. S c (v c)) c cs h, zipped S v cs (All-tail (λ c. S c (v c)) c cs h))

-- the row fits
pub row_fits : (layers : List DemixLayer) (target : ℕ) (mode : DemixMode) (w : ℕ) (coded : List ℤ) (x : Whole) → IsLayers layers target → IsMode mode → w ≤ 5000
    → AreWhole (whole_of (kinds_of layers target) (coefficients_of mode) (exact (kinds_of layers) (coefficients_of mode) w (sent_by layers coded) target)) x
    → Fits layers target (coefficients_of mode) w coded (map (fraction_at x) (target_channels layers target))
row_fits layers target mode w coded x chain m small a =
    let q = whole_of (kinds_of layers target) (coefficients_of mode) (exact (kinds_of layers) (coefficients_of mode) w (sent_by layers coded) target) in
    let bottom = exact_bottom mode in
    let z = exact_list layers target mode w coded in
    let some = some_list_fits layers target mode w coded chain m small in
    let fits = exact_fits_all layers target mode w coded bottom z chain m small some in
    let cs = target_channels layers target in (
      bottom,
      z,
      some,
      zipped (IsChannel bottom z) (fraction_at x) cs
          (λ k d h. let c = slice_index_or cs k d in is_channel (part_of q c) (fraction_at x c) bottom (channel_of z c) (quotient_at q x a c) (fits k d h)),
    )

-- ---- sizes

record IsSmallQuotient (q : Quotient) : Type 0 where
  top : unsigned_abs q.top < 2 ^ 120
  bottom : q.bottom < 2 ^ 80

bounded : (q : Quotient) (f : Fraction) → IsQuotient q f → IsSmallQuotient q → IsBounded f
bounded q f i s = record { top = rw i.top s.top; bottom = let b = s.bottom in rw i.bottom (omega (arith, ints, b)) }

chosen : (b : Bool) (p q : Quotient) → IsSmallQuotient p → IsSmallQuotient q → IsSmallQuotient (if b then p else q)
chosen true p q s t = s
chosen false p q s t = t

small_by : (n bottom : ℕ) (z : ℤ) → unsigned_abs z ≤ n * 2 ^ 77 → n ≤ 50000000 → bottom ≤ 10000000000000000000 → IsSmallQuotient (record { top = z; bottom = bottom })
small_by n bottom z h few b = record { top = omega (arith, h, few); bottom = omega (arith, b) }

product_most : (a b : ℕ) → a ≤ 866 → b ≤ 1000 → a * b ≤ 866 * 1000
product_most a b h k = mul-le-mul h k

record AreSmallHalf (q : HalfQuotients) : Type 0 where
  front : IsSmallQuotient q.front
  surround : IsSmallQuotient q.surround
  side : IsSmallQuotient q.side
  rear : IsSmallQuotient q.rear
  top : IsSmallQuotient q.top
  top_back : IsSmallQuotient q.top_back

half_small : (kind : Kind) (k : Coefficients) (v : Side) (t : Tops) → AreBounded k → IsWithinSide (2 ^ 77) v → IsWithinTops (2 ^ 77) t → AreSmallHalf (parts_of kind k v t)
half_small kind k v t b s u =
    let p = product_most k.delta k.beta b.delta b.beta in
    let d = b.delta in
    let g = b.gamma in
    record {
      front = chosen (nat_le 5 kind.surround) _ _ (small_by 1 1000000000000 v.five s.five (omega arith) (omega arith))
          (chosen (nat_le 3 kind.surround) _ _ (small_by 4000 1000000000000000 v.three s.three (omega arith) (omega arith)) (small_by 3 1000000000000 v.two s.two (omega arith) (omega arith)));
      surround = small_by 5000 (1000000000000 * k.delta) v.surround s.surround (omega arith) (omega (arith, d));
      side = small_by 1 1000000000000 v.side s.side (omega arith) (omega arith);
      rear = small_by 6000000 (1000000000000 * (k.delta * k.beta)) v.rear s.rear (omega arith) (omega (arith, p));
      top = chosen (nat_le 4 kind.height) _ _ (small_by 1 1000000000000 t.four u.four (omega arith) (omega arith))
          (chosen (nat_le 5 kind.surround) _ _ (small_by 40000000 10000000000000000000 t.two u.two (omega arith) (omega arith)) (small_by 1 1000000000000 t.three u.three (omega arith) (omega arith)));
      top_back = small_by 50000000 (10000000000000000 * k.gamma) t.back u.back (omega arith) (omega (arith, g));
    }

quotient_small : (kind : Kind) (k : Coefficients) (v : Bed) → AreBounded k → IsWithin (2 ^ 77) v → (c : Channel) → IsSmallQuotient (part_of (whole_of kind k v) c)
quotient_small kind k v b s M = small_by 1 1000000000000 v.mono s.mono (omega arith) (omega arith)
quotient_small kind k v b s C = small_by 1 1000000000000 v.center s.center (omega arith) (omega arith)
quotient_small kind k v b s Lfe = small_by 1 1000000000000 v.low s.low (omega arith) (omega arith)
quotient_small kind k v b s L = (half_small kind k v.left v.left_top b s.left s.left_top).front
quotient_small kind k v b s Ls = (half_small kind k v.left v.left_top b s.left s.left_top).surround
quotient_small kind k v b s Lss = (half_small kind k v.left v.left_top b s.left s.left_top).side
quotient_small kind k v b s Lrs = (half_small kind k v.left v.left_top b s.left s.left_top).rear
quotient_small kind k v b s Ltf = (half_small kind k v.left v.left_top b s.left s.left_top).top
quotient_small kind k v b s Ltb = (half_small kind k v.left v.left_top b s.left s.left_top).top_back
quotient_small kind k v b s R = (half_small kind k v.right v.right_top b s.right s.right_top).front
quotient_small kind k v b s Rs = (half_small kind k v.right v.right_top b s.right s.right_top).surround
quotient_small kind k v b s Rss = (half_small kind k v.right v.right_top b s.right s.right_top).side
quotient_small kind k v b s Rrs = (half_small kind k v.right v.right_top b s.right s.right_top).rear
quotient_small kind k v b s Rtf = (half_small kind k v.right v.right_top b s.right s.right_top).top
quotient_small kind k v b s Rtb = (half_small kind k v.right v.right_top b s.right s.right_top).top_back

-- the row's numbers are small
pub row_small : (kind : Kind) (k : Coefficients) (v : Bed) (x : Whole) (cs : List Channel) → AreBounded k → IsWithin (2 ^ 77) v → AreWhole (whole_of kind k v) x → All IsBounded (map (fraction_at x) cs)
row_small kind k v x cs b s a =
    All-map IsBounded (fraction_at x) cs
    (λ i d h. let c = slice_index_or cs i d in bounded (part_of (whole_of kind k v) c) (fraction_at x c) (quotient_at (whole_of kind k v) x a c) (quotient_small kind k v b s c))

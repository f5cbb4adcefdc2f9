-- The origins after each layer: which channels follow from others, that they give the walk in one go, and that what is sent
-- stands among the coded samples.
use Rattle.std.proofs.Common.{arith, ◌≡◌, ◌<◌, ◌≤◌, ℕ, zero, suc, ◌+◌, ℤ, refl, ap, ◌∙◌, Bool, true, false, ◌||◌, List, if◌then◌else◌}
use Rattle.std.proofs.lemmas.Bool.Decides.{nat_tests}
use Rattle.spec_layouts.specs.declared.Layout.{Layout}
use Rattle.spec_layouts.specs.declared.Layout.TheVariants.{Mono, Stereo, L51, L512, L514, L71, L712, L714, L312, Binaural}
use Rattle.spec_layouts.specs.Layouts.{surround, height}
use Rattle.spec_layouts.specs.Steps.{IsStep}
use Rattle.spec_gains.specs.Modes.{Coefficients}
use Rattle.spec_demix.specs.declared.DemixLayer.{DemixLayer}
use Rattle.spec_demix.specs.declared.Kind.{Kind}
use Rattle.spec_demix.specs.declared.Sent.{Sent}
use Rattle.spec_demix.specs.declared.SentSide.{SentSide}
use Rattle.spec_demix.specs.declared.SentTops.{SentTops}
use Rattle.spec_demix.specs.declared.SentBed.{SentBed}
use Rattle.spec_demix.specs.Kinds.{kind_of, reaches, leaves_three, splits_two, gives_three, gives_two, gives_four, gives_back}
use Rattle.spec_demix.specs.Sent.{bed_of, layer_at, kinds_of, place_after, next_sent, sent_at, sent_by, IsLayers}
use Rattle.spec_demix.specs.Sizes.{AreModest}
use Rattle.spec_demix.specs.FixedWalk.{bed_units, bed_after, fixed}
use Rattle.demix_channels.specs.Room.{IsSentWithin, AreSidesWithin, AreTopsWithin, AreWithin}
use Rattle.demix_channels.proofs.Standing.{sent_within}
use Rattle.mix_fixed.specs.declared.origins.Origins.{Origins}
use Rattle.mix_fixed.specs.Origins.{side_origins, tops_origins, sent_origins, first_origins, origins_after, origins_of, bed_from}
use Rattle.mix_fixed.proofs.AtOnce.{IsStage, bed_next}

pub origins_next : (layers : List DemixLayer) (i : ℕ) (before now : Kind) (next : SentBed) (at : ℕ) → before ≡ kinds_of layers i → now ≡ kinds_of layers (i + 1)
    → at ≡ place_after layers i → next ≡ next_sent before (layer_at layers (i + 1)) at → origins_after before now (origins_of layers i) next ≡ origins_of layers (i + 1)
origins_next layers i before now next at kb kn ka kx = let e : i + 1 ≡ suc i = omega arith in rw kx (rw (kb, kn, ka, e) refl)

-- ---- what the counts are once channels follow from others

either_way : (a b : Bool) (P : Type 0) → (a ≡ true → P) → (b ≡ true → P) → (a || b) ≡ true → P
either_way true b P f g e = f refl
either_way false b P f g e = g e

reached_now : (k before now : ℕ) → reaches k before now ≡ true → k ≤ now
reached_now k before now e = grind (arith, nat_tests)

left_now : (before now : Kind) → leaves_three before now ≡ true → 5 ≤ now.surround
left_now before now e = grind (arith, nat_tests)

left_from : (before now : Kind) → leaves_three before now ≡ true → 3 ≤ before.surround
left_from before now e = grind (arith, nat_tests)

left_below : (before now : Kind) → leaves_three before now ≡ true → before.surround < 5
left_below before now e = grind (arith, nat_tests)

split_now : (before now : Kind) → splits_two before now ≡ true → 4 ≤ now.height
split_now before now e = grind (arith, nat_tests)

three_high : (layout : Layout) → 3 ≤ surround layout → surround layout < 5 → 2 ≤ height layout
three_high Mono l h = omega arith
three_high Stereo l h = omega arith
three_high L51 l h = omega arith
three_high L512 l h = omega arith
three_high L514 l h = omega arith
three_high L71 l h = omega arith
three_high L712 l h = omega arith
three_high L714 l h = omega arith
three_high L312 l h = omega arith
three_high Binaural l h = omega arith

four_wide : (layout : Layout) → 4 ≤ height layout → 5 ≤ surround layout
four_wide Mono h = omega arith
four_wide Stereo h = omega arith
four_wide L51 h = omega arith
four_wide L512 h = omega arith
four_wide L514 h = omega arith
four_wide L71 h = omega arith
four_wide L712 h = omega arith
four_wide L714 h = omega arith
four_wide L312 h = omega arith
four_wide Binaural h = omega arith

stage_first : (kind : Kind) (layer : DemixLayer) → IsStage kind (first_origins layer)
stage_first kind layer = record { three = λ e. absurd (cc); surround = λ e. absurd (cc); rear = λ e. absurd (cc); top = λ e. absurd (cc); back = λ e. absurd (cc) }

stage_next : (before now : Layout) (o : Origins) (next : SentBed) → IsStep before now → IsStage (kind_of before) o → IsStage (kind_of now) (origins_after (kind_of before) (kind_of now) o next)
stage_next before now o next step stage =
    let b = kind_of before in
    let n = kind_of now in
    let wide = step.keeps_surround in
    let high = step.keeps_height in
    record {
      three = either_way (reaches 3 b.surround n.surround) o.three (3 ≤ n.surround) (reached_now 3 b.surround n.surround) (λ e. let s = stage.three e in omega (arith, s, wide));
      surround = either_way (reaches 5 b.surround n.surround) o.surround (5 ≤ n.surround) (reached_now 5 b.surround n.surround) (λ e. let s = stage.surround e in omega (arith, s, wide));
      rear = either_way (reaches 7 b.surround n.surround) o.rear (7 ≤ n.surround) (reached_now 7 b.surround n.surround) (λ e. let s = stage.rear e in omega (arith, s, wide));
      top = either_way (leaves_three b n) o.top ((5 ≤ n.surround) × (2 ≤ n.height))
          (λ e. let t = three_high before (left_from b n e) (left_below b n e) in (left_now b n e, omega (arith, t, high)))
          (λ e. let s = stage.top e in let x = s.0 in let y = s.1 in (omega (arith, x, wide), omega (arith, y, high)));
      back = either_way (splits_two b n) o.back ((5 ≤ n.surround) × (4 ≤ n.height))
          (λ e. (four_wide now (split_now b n e), split_now b n e))
          (λ e. let s = stage.back e in let x = s.0 in let y = s.1 in (omega (arith, x, wide), omega (arith, y, high)));
    }

stage_at : (layers : List DemixLayer) (target : ℕ) → IsLayers layers target → (j : ℕ) → j ≤ target → IsStage (kinds_of layers j) (origins_of layers j)
stage_at layers target chain zero h = stage_first (kinds_of layers 0) (layer_at layers 0)
stage_at layers target chain (suc j) h =
    stage_next (layer_at layers j).layout (layer_at layers (suc j)).layout (origins_of layers j) (sent_at layers (suc j)) (chain.steps j h) (stage_at layers target chain j (omega arith))

-- ---- the walk in one go

pub at_once : (layers : List DemixLayer) (target : ℕ) (mode : Coefficients) (w : ℕ) (coded : List ℤ) → IsLayers layers target → (j : ℕ) → j ≤ target
    → bed_from (origins_of layers j) mode w coded ≡ fixed (kinds_of layers) mode w (sent_by layers coded) j
at_once layers target mode w coded chain zero h = refl
at_once layers target mode w coded chain (suc j) h =
    let stage = stage_at layers target chain j (omega arith) in
    bed_next (kinds_of layers j) (kinds_of layers (suc j)) mode w (origins_of layers j) (sent_at layers (suc j)) coded stage
    ∙ ap (λ all. bed_after (kinds_of layers j) (kinds_of layers (suc j)) mode w all (bed_units (bed_of coded (sent_at layers (suc j))))) (at_once layers target mode w coded chain j (omega arith))

-- ---- places and factors

within_if : (n : ℕ) (t : Bool) (a b : Sent) → IsSentWithin n a → IsSentWithin n b → IsSentWithin n (if t then a else b)
within_if n true a b x y = x
within_if n false a b x y = y

side_kept : (n before now : ℕ) (old next : SentSide) → AreSidesWithin n old → AreSidesWithin n next → AreSidesWithin n (side_origins before now old next)
side_kept n before now old next x y = record {
  two = within_if n (reaches 2 before now) next.two old.two y.two x.two;
  three = x.three;
  five = within_if n (reaches 5 before now) next.five old.five y.five x.five;
  surround = x.surround;
  side = within_if n (reaches 7 before now) next.side old.side y.side x.side;
  rear = x.rear;
}

tops_kept : (n : ℕ) (before now : Kind) (old next : SentTops) → AreTopsWithin n old → AreTopsWithin n next → AreTopsWithin n (tops_origins before now old next)
tops_kept n before now old next x y = record {
  three = within_if n (gives_three before now) next.three old.three y.three x.three;
  two = within_if n (gives_two before now) next.two old.two y.two x.two;
  four = within_if n (gives_four before now) next.four old.four y.four x.four;
  back = within_if n (gives_back before now) next.back old.back y.back x.back;
}

sent_kept : (n : ℕ) (before now : Kind) (old next : SentBed) → AreWithin n old → AreWithin n next → AreWithin n (sent_origins before now old next)
sent_kept n before now old next x y = record {
  mono = x.mono;
  center = within_if n (reaches 3 before.surround now.surround) next.center old.center y.center x.center;
  low = within_if n (reaches 3 before.surround now.surround) next.low old.low y.low x.low;
  left = side_kept n before.surround now.surround old.left next.left x.left y.left;
  right = side_kept n before.surround now.surround old.right next.right x.right y.right;
  left_top = tops_kept n before now old.left_top next.left_top x.left_top y.left_top;
  right_top = tops_kept n before now old.right_top next.right_top x.right_top y.right_top;
}

pub origins_within : (layers : List DemixLayer) (target n : ℕ) → IsLayers layers target → AreModest layers target → place_after layers target ≤ n → (j : ℕ) → j ≤ target → AreWithin n (origins_of layers j).sent
origins_within layers target n chain modest room zero h = sent_within layers target n 0 chain modest room h
origins_within layers target n chain modest room (suc j) h =
    sent_kept n (kinds_of layers j) (kinds_of layers (suc j)) (origins_of layers j).sent (sent_at layers (suc j))
    (origins_within layers target n chain modest room j (omega arith)) (sent_within layers target n (suc j) chain modest room h)

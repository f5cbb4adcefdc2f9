-- Where a layer's channels stand among an element's coded samples: each has its place.
use Rattle.std.proofs.Common.{arith, ◌≡◌, ◌≢◌, ◌<◌, ◌≤◌, ℕ, zero, suc, ◌+◌, ◌-◌, refl, List, length, Bool, true, false, if◌then◌else◌, nat_lt, nat_le, ◌&&◌}
use Rattle.std.proofs.lemmas.Bool.Decides.{nat_tests}
use Rattle.std.proofs.lemmas.Bool.{cases_lt}
use Rattle.std.proofs.Math.Logic.{⊎_elim}
use Rattle.spec_layouts.specs.declared.Layout.{Layout}
use Rattle.spec_layouts.specs.declared.Layout.TheVariants.{Mono, Stereo, L51, L512, L514, L71, L712, L714, L312, Binaural}
use Rattle.spec_layouts.specs.Layouts.{channels, surround, height}
use Rattle.spec_demix.specs.declared.DemixLayer.{DemixLayer}
use Rattle.spec_demix.specs.declared.Kind.{Kind}
use Rattle.spec_demix.specs.declared.Sent.{Sent}
use Rattle.spec_demix.specs.declared.SentSide.{SentSide}
use Rattle.spec_demix.specs.declared.SentTops.{SentTops}
use Rattle.spec_demix.specs.declared.SentBed.{SentBed}
use Rattle.spec_demix.specs.Kinds.{kind_of, reaches, gives_three, gives_two, gives_four, gives_back}
use Rattle.spec_demix.specs.OutputGains.{factor_of, flag_of_left, flag_of_right, flag_of_left_surround, flag_of_right_surround, flag_of_left_top, flag_of_right_top}
use Rattle.spec_demix.specs.Sent.{sent_if, plain_if, count_if, first_top, first_side, first_tops, first_sent, next_side_at, next_top_at, next_back_at, next_center_at, next_stereo_at, next_end_at, next_tops, next_sent, layer_at, kinds_of, place_after, sent_at, IsLayers}
use Rattle.spec_demix.specs.Sizes.{AreModest}
use Rattle.spec_demix.proofs.FloorLemmas.{passes, fails, reached, not_reached, back_given, back_not_given}
use Rattle.spec_demix.proofs.KindFits.{IsKind}
use Rattle.spec_demix.proofs.NextCarried.{kind_is}
use Rattle.spec_demix.proofs.Factors.{IsFactoredSide, IsFactoredTops, sent_factored}
use Rattle.demix_channels.specs.Room.{IsSentWithin, AreSidesWithin, AreTopsWithin, AreWithin}

record ArePlacedSide (n : ℕ) (sent : SentSide) : Type 0 where
  two : sent.two.place < n
  three : sent.three.place < n
  five : sent.five.place < n
  surround : sent.surround.place < n
  side : sent.side.place < n
  rear : sent.rear.place < n

record ArePlacedTops (n : ℕ) (sent : SentTops) : Type 0 where
  three : sent.three.place < n
  two : sent.two.place < n
  four : sent.four.place < n
  back : sent.back.place < n

record ArePlaced (n : ℕ) (sent : SentBed) : Type 0 where
  mono : sent.mono.place < n
  center : sent.center.place < n
  low : sent.low.place < n
  left : ArePlacedSide n sent.left
  right : ArePlacedSide n sent.right
  left_top : ArePlacedTops n sent.left_top
  right_top : ArePlacedTops n sent.right_top

-- ---- how many channels a layout has, by its counts

-- the channels at ear height, with Lfe: each count of surround channels that is reached brings its own
abbrev ear : ℕ → ℕ
ear surround = (((1 + count_if (nat_le 2 surround) 1) + count_if (nat_le 3 surround) 2) + count_if (nat_le 5 surround) 2) + count_if (nat_le 7 surround) 2

counted : (layout : Layout) → layout ≢ Binaural → length (channels layout) ≡ ear (surround layout) + height layout
counted Mono b = refl
counted Stereo b = refl
counted L51 b = refl
counted L512 b = refl
counted L514 b = refl
counted L71 b = refl
counted L712 b = refl
counted L714 b = refl
counted L312 b = refl
counted Binaural b = absurd (b refl)

from_two : (s : ℕ) → 2 ≤ s → 2 ≤ ear s
from_two s h = rw (passes 2 s h) (omega arith)

from_five : (s : ℕ) → 5 ≤ s → 6 ≤ ear s
from_five s h = rw (passes 2 s (omega arith)) (rw (passes 3 s (omega arith)) (rw (passes 5 s h) (omega arith)))

from_seven : (s : ℕ) → 7 ≤ s → 8 ≤ ear s
from_seven s h = rw (passes 2 s (omega arith)) (rw (passes 3 s (omega arith)) (rw (passes 5 s (omega arith)) (rw (passes 7 s h) (omega arith))))

-- C and Lfe come after the pairs at ear height
from_three : (s : ℕ) → 3 ≤ s → first_top s + 2 ≡ ear s
from_three s h =
    rw (passes 2 s (omega arith)) (rw (passes 3 s h)
    (⊎_elim (λ l. rw (fails 7 s (omega arith)) (rw (fails 5 s l) refl))
    (λ m. ⊎_elim (λ l. rw (fails 7 s l) (rw (passes 5 s m) refl)) (λ g. rw (passes 7 s g) (rw (passes 5 s m) refl)) (cases_lt s 7)) (cases_lt s 5)))

-- ---- a first layer

ahead_if : (t : Bool) (f i n : ℕ) → 0 < n → (t ≡ true → i < n) → (sent_if t f i).place < n
ahead_if true f i n some h = h refl
ahead_if false f i n some h = some

first_side_placed : (layer : DemixLayer) (right front back n : ℕ) → right < 2 → 0 < n → ear (surround layer.layout) ≤ n → ArePlacedSide n (first_side layer right front back)
first_side_placed layer right front back n one some h =
    let s = surround layer.layout in
    let plain : ℕ = 1000000000000 in
    let two : 2 ≤ s → right < n = λ a. let e = from_two s a in omega arith in
    let five : 5 ≤ s → 2 + right < n = λ a. let e = from_five s a in omega arith in
    let seven : 7 ≤ s → 4 + right < n = λ a. let e = from_seven s a in omega arith in
    record {
      two = ahead_if (nat_le 2 s && nat_lt s 3) (factor_of layer front) right n some (λ t. two (grind (arith, nat_tests)));
      three = ahead_if (nat_le 3 s && nat_lt s 5) (factor_of layer front) right n some (λ t. let a : 3 ≤ s = grind (arith, nat_tests) in two (omega arith));
      five = ahead_if (nat_le 5 s) plain right n some (λ t. let a : 5 ≤ s = grind (arith, nat_tests) in two (omega arith));
      surround = ahead_if (nat_le 5 s && nat_lt s 7) (factor_of layer back) (2 + right) n some (λ t. five (grind (arith, nat_tests)));
      side = ahead_if (nat_le 7 s) plain (2 + right) n some (λ t. let a : 7 ≤ s = grind (arith, nat_tests) in five (omega arith));
      rear = ahead_if (nat_le 7 s) plain (4 + right) n some (λ t. seven (grind (arith, nat_tests)));
    }

first_tops_placed : (layer : DemixLayer) (right flag n : ℕ) → right < 2 → 0 < n → ear (surround layer.layout) + height layer.layout ≤ n → ArePlacedTops n (first_tops layer right flag)
first_tops_placed layer right flag n one some h =
    let s = surround layer.layout in
    let high = height layer.layout in
    let low = (kind_is layer.layout).low in
    let at = first_top s + right in
    let begins : 2 ≤ high → at + 1 ≤ ear s = λ a. let b : 3 ≤ s = ⊎_elim (λ l. let e = low l in omega arith) (λ m. m) (cases_lt s 3) in let e = from_three s b in omega arith in
    let two : 2 ≤ high → at < n = λ a. let e = begins a in omega arith in
    let four : 4 ≤ high → 2 + at < n = λ a. let e = begins (omega arith) in omega arith in
    record {
      three = ahead_if (nat_le 2 high && nat_lt s 5) (factor_of layer flag) at n some (λ t. two (grind (arith, nat_tests)));
      two = ahead_if (nat_le 2 high && (nat_lt high 4 && nat_le 5 s)) (factor_of layer flag) at n some (λ t. two (grind (arith, nat_tests)));
      four = ahead_if (nat_le 4 high) (factor_of layer flag) at n some (λ t. let a : 4 ≤ high = grind (arith, nat_tests) in two (omega arith));
      back = ahead_if (nat_le 4 high) 1000000000000 (2 + at) n some (λ t. four (grind (arith, nat_tests)));
    }

first_placed : (layer : DemixLayer) (n : ℕ) → layer.layout ≢ Binaural → length (channels layer.layout) ≤ n → ArePlaced n (first_sent layer)
first_placed layer n b h =
    let s = surround layer.layout in
    let e = counted layer.layout b in
    let some : 0 < n = omega arith in
    let center = first_top s + height layer.layout in
    let after : 3 ≤ s → 1 + center < n = λ a. let c = from_three s a in omega arith in
    record {
      mono = ahead_if (nat_lt s 2) (factor_of layer flag_of_left) 0 n some (λ t. some);
      center = ahead_if (nat_le 3 s) 1000000000000 center n some (λ t. let a = after (grind (arith, nat_tests)) in omega arith);
      low = ahead_if (nat_le 3 s) 1000000000000 (1 + center) n some (λ t. after (grind (arith, nat_tests)));
      left = first_side_placed layer 0 flag_of_left flag_of_left_surround n (omega arith) some (omega arith);
      right = first_side_placed layer 1 flag_of_right flag_of_right_surround n (omega arith) some (omega arith);
      left_top = first_tops_placed layer 0 flag_of_left_top n (omega arith) some (omega arith);
      right_top = first_tops_placed layer 1 flag_of_right_top n (omega arith) some (omega arith);
    }

-- ---- a next layer, whose channels begin at `at` and end before `n`

place_if : (t : Bool) (f i n k : ℕ) → 0 < n → 0 < k → i + count_if t k ≤ n → (sent_if t f i).place < n
place_if true f i n k some few h = omega arith
place_if false f i n k some few h = some

later_if : (t : Bool) (f i n : ℕ) → 0 < n → i + count_if t 2 ≤ n → (sent_if t f (i + 1)).place < n
later_if true f i n some h = omega arith
later_if false f i n some h = some

-- a test of tops says that the height count rises
top_if : (t rises : Bool) (f i n right : ℕ) → 0 < n → right < 2 → (t ≡ true → rises ≡ true) → i + count_if rises 2 ≤ n → (sent_if t f (i + right)).place < n
top_if false rises f i n right some two up h = some
top_if true true f i n right some two up h = omega arith
top_if true false f i n right some two up h = absurd (let e = up refl in cc)

back_if : (t : Bool) (i n right : ℕ) → 0 < n → right < 2 → i + count_if t 2 ≤ n → (plain_if t (i + right)).place < n
back_if true i n right some two h = omega arith
back_if false i n right some two h = some

three_rises : (before now : Kind) → gives_three before now ≡ true → nat_lt before.height now.height ≡ true
three_rises before now e = grind (arith, nat_tests)

two_rises : (before now : Kind) → gives_two before now ≡ true → nat_lt before.height now.height ≡ true
two_rises before now e = grind (arith, nat_tests)

four_rises : (before now : Kind) → gives_four before now ≡ true → nat_lt before.height now.height ≡ true
four_rises before now e = grind (arith, nat_tests)

next_tops_placed : (before : Kind) (layer : DemixLayer) (at n right flag : ℕ) → 0 < n → right < 2 → next_end_at before (kind_of layer.layout) at ≤ n → ArePlacedTops n (next_tops before layer at right flag)
next_tops_placed before layer at n right flag some two h =
    let now = kind_of layer.layout in
    let top = next_top_at before now at in
    let f = factor_of layer flag in
    let room : top + count_if (nat_lt before.height now.height) 2 ≤ n = omega arith in
    record {
      three = top_if (gives_three before now) (nat_lt before.height now.height) f top n right some two (three_rises before now) room;
      two = top_if (gives_two before now) (nat_lt before.height now.height) f top n right some two (two_rises before now) room;
      four = top_if (gives_four before now) (nat_lt before.height now.height) f top n right some two (four_rises before now) room;
      back = back_if (gives_back before now) (next_back_at before now at) n right some two (omega arith);
    }

next_placed : (before : Kind) (layer : DemixLayer) (at n : ℕ) → 0 < n → next_end_at before (kind_of layer.layout) at ≤ n → ArePlaced n (next_sent before layer at)
next_placed before layer at n some h =
    let now = kind_of layer.layout in
    let one : ℕ = 1000000000000 in
    let five = reaches 5 before.surround now.surround in
    let seven = reaches 7 before.surround now.surround in
    let three = reaches 3 before.surround now.surround in
    record {
      mono = some;
      center = place_if three one (next_center_at before now at) n 2 some (omega arith) (omega arith);
      low = later_if three one (next_center_at before now at) n some (omega arith);
      left = record {
        two = place_if (reaches 2 before.surround now.surround) (if nat_lt now.surround 5 then factor_of layer 5 else one) (next_stereo_at before now at) n 1 some (omega arith) (omega arith);
        three = some;
        five = place_if five one at n 2 some (omega arith) (omega arith);
        surround = some;
        side = place_if seven one (next_side_at before now at) n 2 some (omega arith) (omega arith);
        rear = some;
      };
      right = record {
        two = some;
        three = some;
        five = later_if five one at n some (omega arith);
        surround = some;
        side = later_if seven one (next_side_at before now at) n some (omega arith);
        rear = some;
      };
      left_top = next_tops_placed before layer at n 0 1 some (omega arith) h;
      right_top = next_tops_placed before layer at n 1 0 some (omega arith) h;
    }

-- what a count brings that is reached from another
brought : (count before now n : ℕ) → before ≤ now → count_if (nat_le count before) n + count_if (reaches count before now) n ≡ count_if (nat_le count now) n
brought count before now n h =
    ⊎_elim (λ low. rw (fails count before low)
    (⊎_elim (λ short. let e : reaches count before now ≡ false = grind (arith, nat_tests) in rw e (rw (fails count now short) refl)) (λ met. rw (reached count before now low met) (rw (passes count now met) (omega arith))) (cases_lt now count)))
    (λ kept. rw (passes count before kept) (rw (not_reached count before now kept) (rw (passes count now (omega arith)) (omega arith)))) (cases_lt before count)

raised : (before now : Kind) → IsKind before → IsKind now → before.height ≤ now.height → (before.height + count_if (nat_lt before.height now.height) 2) + count_if (gives_back before now) 2 ≤ now.height
raised before now p q h =
    let a = p.even in
    let b = q.even in
    let top = q.high in
    let flat : nat_lt before.height now.height ≡ false → gives_back before now ≡ false → (before.height + count_if (nat_lt before.height now.height) 2) + count_if (gives_back before now) 2 ≤ now.height
    = λ t g. rw t (rw g (omega arith)) in
    ⊎_elim (λ l. let t : nat_lt before.height now.height ≡ true = grind (arith, nat_tests) in rw t
    (⊎_elim (λ few. let none = a.0 few in ⊎_elim
    (λ two. let g : gives_back before now ≡ false = grind (arith, nat_tests) in let e : 2 ≤ now.height = ⊎_elim (λ x. let y = b.0 x in omega arith) (λ x. x) (cases_lt now.height 2) in rw g (omega arith))
    (λ four. rw (back_given before now few four) (omega arith)) (cases_lt now.height 4))
    (λ some. let e = b.1 (omega arith) in let f : before.height ≤ 2 = ⊎_elim (λ x. let y = a.1 x in omega arith) (λ x. x) (cases_lt 2 before.height) in rw (back_not_given before now some) (omega arith)) (cases_lt before.height 2)))
    (λ m. flat (grind (arith, nat_tests)) (grind (arith, nat_tests))) (cases_lt before.height now.height)

-- a next layer ends where the channels of its layout do
ends : (before now : Layout) → before ≢ Binaural → now ≢ Binaural → surround before ≤ surround now → height before ≤ height now
    → next_end_at (kind_of before) (kind_of now) (length (channels before)) ≤ length (channels now)
ends before now m n x z =
    let s = surround before in
    let t = surround now in
    let a = counted before m in
    let b = counted now n in
    let two = brought 2 s t 1 x in
    let three = brought 3 s t 2 x in
    let five = brought 5 s t 2 x in
    let seven = brought 7 s t 2 x in
    let tops = raised (kind_of before) (kind_of now) (kind_is before) (kind_is now) z in
    omega arith

some_channels : (layout : Layout) → 0 < length (channels layout)
some_channels Mono = omega arith
some_channels Stereo = omega arith
some_channels L51 = omega arith
some_channels L512 = omega arith
some_channels L514 = omega arith
some_channels L71 = omega arith
some_channels L712 = omega arith
some_channels L714 = omega arith
some_channels L312 = omega arith
some_channels Binaural = omega arith

pub few_channels : (layout : Layout) → length (channels layout) ≤ 12
few_channels Mono = omega arith
few_channels Stereo = omega arith
few_channels L51 = omega arith
few_channels L512 = omega arith
few_channels L514 = omega arith
few_channels L71 = omega arith
few_channels L712 = omega arith
few_channels L714 = omega arith
few_channels L312 = omega arith
few_channels Binaural = omega arith

-- ---- the layers of an element

grows : (layers : List DemixLayer) (target : ℕ) → IsLayers layers target → (d j : ℕ) → j + d ≤ target → place_after layers j ≤ place_after layers (j + d)
grows layers target chain zero j h = let e : j + 0 ≡ j = omega arith in rw e (omega arith)
grows layers target chain (suc d) j h =
    let rest = grows layers target chain d j (omega arith) in
    let s = chain.steps (j + d) (omega arith) in
    let r = ends (layer_at layers (j + d)).layout (layer_at layers (suc (j + d))).layout s.from_speakers s.to_speakers s.keeps_surround s.keeps_height in
    let e : j + suc d ≡ suc (j + d) = omega arith in
    rw e (omega (arith, rest, r))

grown : (layers : List DemixLayer) (target j n : ℕ) → IsLayers layers target → j ≤ target → place_after layers target ≤ n → place_after layers j ≤ n
grown layers target j n chain h room =
    let e : j + (target - j) ≡ target = omega arith in
    let g = rw e at (grows layers target chain (target - j) j (omega arith)) in
    omega (arith, g, room)

placed : (layers : List DemixLayer) (target n j : ℕ) → IsLayers layers target → place_after layers target ≤ n → j ≤ target → ArePlaced n (sent_at layers j)
placed layers target n zero chain room h =
    let first = layer_at layers 0 in
    first_placed first n (chain.speakers 0 h) (grown layers target 0 n chain h room)
placed layers target n (suc j) chain room h =
    let s = chain.steps j h in
    let now = layer_at layers (suc j) in
    let g = grown layers target (suc j) n chain h room in
    let e = ends (layer_at layers j).layout now.layout s.from_speakers s.to_speakers s.keeps_surround s.keeps_height in
    let some = some_channels now.layout in
    next_placed (kinds_of layers j) now (place_after layers j) n (omega (arith, g, some)) (omega (arith, g, e))

within : (n m : ℕ) (sent : Sent) → m ≤ 39810717055340 → sent.place < n → sent.factor ≤ m → IsSentWithin n sent
within n m sent most p f = record { place = p; factor = omega (arith, most, f) }

sides_within : (n : ℕ) (sent : SentSide) → ArePlacedSide n sent → IsFactoredSide 39810717055340 sent → AreSidesWithin n sent
sides_within n sent p f = record {
  two = within n 39810717055340 sent.two (omega arith) p.two f.two;
  three = within n 39810717055340 sent.three (omega arith) p.three f.three;
  five = within n 1000000000000 sent.five (omega arith) p.five f.five;
  surround = within n 39810717055340 sent.surround (omega arith) p.surround f.surround;
  side = within n 1000000000000 sent.side (omega arith) p.side f.side;
  rear = within n 1000000000000 sent.rear (omega arith) p.rear f.rear;
}

tops_within : (n : ℕ) (sent : SentTops) → ArePlacedTops n sent → IsFactoredTops 39810717055340 sent → AreTopsWithin n sent
tops_within n sent p f = record {
  three = within n 39810717055340 sent.three (omega arith) p.three f.three;
  two = within n 39810717055340 sent.two (omega arith) p.two f.two;
  four = within n 39810717055340 sent.four (omega arith) p.four f.four;
  back = within n 1000000000000 sent.back (omega arith) p.back f.back;
}

-- what each layer up to the target transmits stands among n coded samples
pub sent_within : (layers : List DemixLayer) (target n j : ℕ) → IsLayers layers target → AreModest layers target → place_after layers target ≤ n → j ≤ target → AreWithin n (sent_at layers j)
sent_within layers target n j chain modest room h =
    let p = placed layers target n j chain room h in
    let f = sent_factored layers target 39810717055340 (omega arith) modest j h in
    let sent = sent_at layers j in
    record {
      mono = within n 39810717055340 sent.mono (omega arith) p.mono f.mono;
      center = within n 1000000000000 sent.center (omega arith) p.center f.center;
      low = within n 1000000000000 sent.low (omega arith) p.low f.low;
      left = sides_within n sent.left p.left f.left;
      right = sides_within n sent.right p.right f.right;
      left_top = tops_within n sent.left_top p.left_top f.left_top;
      right_top = tops_within n sent.right_top p.right_top f.right_top;
    }

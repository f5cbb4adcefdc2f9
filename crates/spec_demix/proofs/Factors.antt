-- How large the factors of what a layer transmits are: an output gain acts on some channels, and on the others none does.
use Rattle.std.proofs.Common.{arith, ◌≤◌, ℕ, zero, suc, ◌+◌, ◌&&◌, List, Bool, true, false, nat_le, nat_lt, if◌then◌else◌}
use Rattle.spec_demix.specs.declared.DemixLayer.{DemixLayer}
use Rattle.spec_demix.specs.declared.Kind.{Kind}
use Rattle.spec_demix.specs.declared.SentSide.{SentSide}
use Rattle.spec_demix.specs.declared.SentTops.{SentTops}
use Rattle.spec_demix.specs.declared.SentBed.{SentBed}
use Rattle.spec_demix.specs.Kinds.{kind_of, reaches, gives_three, gives_two, gives_four, gives_back}
use Rattle.spec_demix.specs.OutputGains.{is_set, factor_of, flag_of_left, flag_of_right, flag_of_left_surround, flag_of_right_surround, flag_of_left_top, flag_of_right_top}
use Rattle.spec_demix.specs.Sent.{sent_if, plain_if, first_top, first_side, first_tops, first_sent, next_side_at, next_top_at, next_back_at, next_center_at, next_stereo_at, next_tops, next_sent, layer_at, kinds_of, place_after, sent_at}

pub record IsFactoredSide (n : ℕ) (sent : SentSide) : Type 0 where
  pub two : sent.two.factor ≤ n
  pub three : sent.three.factor ≤ n
  pub five : sent.five.factor ≤ 1000000000000
  pub surround : sent.surround.factor ≤ n
  pub side : sent.side.factor ≤ 1000000000000
  pub rear : sent.rear.factor ≤ 1000000000000

pub record IsFactoredTops (n : ℕ) (sent : SentTops) : Type 0 where
  pub three : sent.three.factor ≤ n
  pub two : sent.two.factor ≤ n
  pub four : sent.four.factor ≤ n
  pub back : sent.back.factor ≤ 1000000000000

pub record IsFactored (n : ℕ) (sent : SentBed) : Type 0 where
  pub mono : sent.mono.factor ≤ n
  pub center : sent.center.factor ≤ 1000000000000
  pub low : sent.low.factor ≤ 1000000000000
  pub left : IsFactoredSide n sent.left
  pub right : IsFactoredSide n sent.right
  pub left_top : IsFactoredTops n sent.left_top
  pub right_top : IsFactoredTops n sent.right_top

factor_if : (t : Bool) (f i n : ℕ) → f ≤ n → (sent_if t f i).factor ≤ n
factor_if true f i n h = h
factor_if false f i n h = omega arith

plain : (t : Bool) (i : ℕ) → (plain_if t i).factor ≤ 1000000000000
plain t i = factor_if t 1000000000000 i 1000000000000 (omega arith)

chosen : (b : Bool) (f n : ℕ) → 1000000000000 ≤ n → f ≤ n → (if b then f else 1000000000000) ≤ n
chosen true f n o h = h
chosen false f n o h = o

factor_most : (layer : DemixLayer) (flag n : ℕ) → 1000000000000 ≤ n → layer.factor ≤ n → factor_of layer flag ≤ n
factor_most layer flag n o h = chosen (is_set layer.flags flag) layer.factor n o h

first_side_factored : (layer : DemixLayer) (right front back n : ℕ) → 1000000000000 ≤ n → layer.factor ≤ n → IsFactoredSide n (first_side layer right front back)
first_side_factored layer right front back n o h =
    let s = (kind_of layer.layout).surround in
    let a = factor_most layer front n o h in
    let b = factor_most layer back n o h in
    record {
      two = factor_if (nat_le 2 s && nat_lt s 3) (factor_of layer front) right n a;
      three = factor_if (nat_le 3 s && nat_lt s 5) (factor_of layer front) right n a;
      five = plain (nat_le 5 s) right;
      surround = factor_if (nat_le 5 s && nat_lt s 7) (factor_of layer back) (2 + right) n b;
      side = plain (nat_le 7 s) (2 + right);
      rear = plain (nat_le 7 s) (4 + right);
    }

first_tops_factored : (layer : DemixLayer) (right flag n : ℕ) → 1000000000000 ≤ n → layer.factor ≤ n → IsFactoredTops n (first_tops layer right flag)
first_tops_factored layer right flag n o h =
    let kind = kind_of layer.layout in
    let at = first_top kind.surround + right in
    let a = factor_most layer flag n o h in
    record {
      three = factor_if (nat_le 2 kind.height && nat_lt kind.surround 5) (factor_of layer flag) at n a;
      two = factor_if (nat_le 2 kind.height && (nat_lt kind.height 4 && nat_le 5 kind.surround)) (factor_of layer flag) at n a;
      four = factor_if (nat_le 4 kind.height) (factor_of layer flag) at n a;
      back = plain (nat_le 4 kind.height) (2 + at);
    }

pub first_factored : (layer : DemixLayer) (n : ℕ) → 1000000000000 ≤ n → layer.factor ≤ n → IsFactored n (first_sent layer)
first_factored layer n o h =
    let kind = kind_of layer.layout in
    let center = first_top kind.surround + kind.height in
    record {
      mono = factor_if (nat_lt kind.surround 2) (factor_of layer flag_of_left) 0 n (factor_most layer flag_of_left n o h);
      center = plain (nat_le 3 kind.surround) center;
      low = plain (nat_le 3 kind.surround) (1 + center);
      left = first_side_factored layer 0 flag_of_left flag_of_left_surround n o h;
      right = first_side_factored layer 1 flag_of_right flag_of_right_surround n o h;
      left_top = first_tops_factored layer 0 flag_of_left_top n o h;
      right_top = first_tops_factored layer 1 flag_of_right_top n o h;
    }

next_tops_factored : (before : Kind) (layer : DemixLayer) (at right flag n : ℕ) → 1000000000000 ≤ n → layer.factor ≤ n → IsFactoredTops n (next_tops before layer at right flag)
next_tops_factored before layer at right flag n o h =
    let now = kind_of layer.layout in
    let top = next_top_at before now at + right in
    let a = factor_most layer flag n o h in
    record {
      three = factor_if (gives_three before now) (factor_of layer flag) top n a;
      two = factor_if (gives_two before now) (factor_of layer flag) top n a;
      four = factor_if (gives_four before now) (factor_of layer flag) top n a;
      back = plain (gives_back before now) (next_back_at before now at + right);
    }

pub next_factored : (before : Kind) (layer : DemixLayer) (at n : ℕ) → 1000000000000 ≤ n → layer.factor ≤ n → IsFactored n (next_sent before layer at)
next_factored before layer at n o h =
    let now = kind_of layer.layout in
    let five = reaches 5 before.surround now.surround in
    let seven = reaches 7 before.surround now.surround in
    record {
      mono = omega arith;
      center = plain (reaches 3 before.surround now.surround) (next_center_at before now at);
      low = plain (reaches 3 before.surround now.surround) (next_center_at before now at + 1);
      left = record {
        two = factor_if (reaches 2 before.surround now.surround) (if nat_lt now.surround 5 then factor_of layer flag_of_left else 1000000000000) (next_stereo_at before now at) n
            (chosen (nat_lt now.surround 5) (factor_of layer flag_of_left) n o (factor_most layer flag_of_left n o h));
        three = omega arith;
        five = plain five at;
        surround = omega arith;
        side = plain seven (next_side_at before now at);
        rear = omega arith;
      };
      right = record {
        two = omega arith;
        three = omega arith;
        five = plain five (at + 1);
        surround = omega arith;
        side = plain seven (next_side_at before now at + 1);
        rear = omega arith;
      };
      left_top = next_tops_factored before layer at 0 flag_of_left_top n o h;
      right_top = next_tops_factored before layer at 1 flag_of_right_top n o h;
    }

-- and of a layer of an element
pub sent_factored : (layers : List DemixLayer) (target n : ℕ) → 1000000000000 ≤ n → ((j : ℕ) → j ≤ target → (layer_at layers j).factor ≤ n) → (j : ℕ) → j ≤ target → IsFactored n (sent_at layers j)
sent_factored layers target n o m zero h = first_factored (layer_at layers 0) n o (m 0 h)
sent_factored layers target n o m (suc j) h = next_factored (kinds_of layers j) (layer_at layers (suc j)) (place_after layers j) n o (m (suc j) h)

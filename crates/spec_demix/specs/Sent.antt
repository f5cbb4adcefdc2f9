-- What a layer transmits, set out by kinds of channels: which coded sample each channel is, and by what it is multiplied, in
-- parts of 10^12. Coded samples stand in coded order: IAMF 1.0.0, "Scalable Channel Layout Config Syntax and Semantics", channel groups.
use Rattle.std.specs.Prelude.{ℕ, zero, suc, ◌+◌, ◌≢◌, ◌≤◌, ◌<◌, ◌&&◌, List, ℤ, pos, ◌*ℤ◌, slice_index_or, if◌then◌else◌, Bool, nat_lt, nat_le, true, false, length}
use Rattle.spec_layouts.specs.declared.Layout.{Layout}
use Rattle.spec_layouts.specs.Layouts.{channels}
use Rattle.spec_layouts.specs.Steps.{IsStep}
use Rattle.spec_demix.specs.declared.Kind.{Kind}
use Rattle.spec_demix.specs.Kinds.{kind_of, reaches, gives_three, gives_two, gives_four, gives_back}
use Rattle.spec_demix.specs.OutputGains.{flag_of_left, flag_of_right, flag_of_left_surround, flag_of_right_surround, flag_of_left_top, flag_of_right_top, factor_of}
use Rattle.spec_demix.specs.declared.DemixLayer.{DemixLayer}
use Rattle.spec_demix.specs.declared.Side.{Side}
use Rattle.spec_demix.specs.declared.Tops.{Tops}
use Rattle.spec_demix.specs.declared.Bed.{Bed}
use Rattle.spec_demix.specs.declared.Sent.{Sent}
use Rattle.spec_demix.specs.declared.SentSide.{SentSide}
use Rattle.spec_demix.specs.declared.SentTops.{SentTops}
use Rattle.spec_demix.specs.declared.SentBed.{SentBed}

-- a channel that a layer does not transmit
abbrev pub nothing_sent : Sent
nothing_sent = record { place = 0; factor = 0 }

-- coded sample i times a factor where a test holds
abbrev pub sent_if : Bool → ℕ → ℕ → Sent
sent_if test factor i = if test then record { place = i; factor = factor } else nothing_sent

-- a channel that no flag acts on
abbrev pub plain_if : Bool → ℕ → Sent
plain_if test i = sent_if test 1000000000000 i

-- n where a test holds, else nothing
abbrev pub count_if : Bool → ℕ → ℕ
count_if true n = n
count_if false n = 0

-- where the tops of a first layer begin: after the pairs at ear height
abbrev pub first_top : ℕ → ℕ
first_top s = if nat_le 7 s then 6 else (if nat_le 5 s then 4 else 2)

-- what a first layer transmits: the pairs and then C, Lfe and M
abbrev pub first_side : DemixLayer → ℕ → ℕ → ℕ → SentSide
first_side layer right front back =
    let s = (kind_of layer.layout).surround in
    record {
      two = sent_if (nat_le 2 s && nat_lt s 3) (factor_of layer front) right;
      three = sent_if (nat_le 3 s && nat_lt s 5) (factor_of layer front) right;
      five = plain_if (nat_le 5 s) right;
      surround = sent_if (nat_le 5 s && nat_lt s 7) (factor_of layer back) (2 + right);
      side = plain_if (nat_le 7 s) (2 + right);
      rear = plain_if (nat_le 7 s) (4 + right);
    }

abbrev pub first_tops : DemixLayer → ℕ → ℕ → SentTops
first_tops layer right flag =
    let kind = kind_of layer.layout in
    let at = first_top kind.surround + right in
    record {
      three = sent_if (nat_le 2 kind.height && nat_lt kind.surround 5) (factor_of layer flag) at;
      two = sent_if (nat_le 2 kind.height && (nat_lt kind.height 4 && nat_le 5 kind.surround)) (factor_of layer flag) at;
      four = sent_if (nat_le 4 kind.height) (factor_of layer flag) at;
      back = plain_if (nat_le 4 kind.height) (2 + at);
    }

abbrev pub first_sent : DemixLayer → SentBed
first_sent layer =
    let kind = kind_of layer.layout in
    let center = first_top kind.surround + kind.height in
    record {
      mono = sent_if (nat_lt kind.surround 2) (factor_of layer flag_of_left) 0;
      center = plain_if (nat_le 3 kind.surround) center;
      low = plain_if (nat_le 3 kind.surround) (1 + center);
      left = first_side layer 0 flag_of_left flag_of_left_surround;
      right = first_side layer 1 flag_of_right flag_of_right_surround;
      left_top = first_tops layer 0 flag_of_left_top;
      right_top = first_tops layer 1 flag_of_right_top;
    }

-- the places of a next layer's channels, from `at`
abbrev pub next_side_at : Kind → Kind → ℕ → ℕ
next_side_at before now at = at + count_if (reaches 5 before.surround now.surround) 2

abbrev pub next_top_at : Kind → Kind → ℕ → ℕ
next_top_at before now at = next_side_at before now at + count_if (reaches 7 before.surround now.surround) 2

abbrev pub next_back_at : Kind → Kind → ℕ → ℕ
next_back_at before now at = next_top_at before now at + count_if (nat_lt before.height now.height) 2

abbrev pub next_center_at : Kind → Kind → ℕ → ℕ
next_center_at before now at = next_back_at before now at + count_if (gives_back before now) 2

abbrev pub next_stereo_at : Kind → Kind → ℕ → ℕ
next_stereo_at before now at = next_center_at before now at + count_if (reaches 3 before.surround now.surround) 2

abbrev pub next_end_at : Kind → Kind → ℕ → ℕ
next_end_at before now at = next_stereo_at before now at + count_if (reaches 2 before.surround now.surround) 1

abbrev pub next_tops : Kind → DemixLayer → ℕ → ℕ → ℕ → SentTops
next_tops before layer at right flag =
    let now = kind_of layer.layout in
    let top = next_top_at before now at + right in
    record {
      three = sent_if (gives_three before now) (factor_of layer flag) top;
      two = sent_if (gives_two before now) (factor_of layer flag) top;
      four = sent_if (gives_four before now) (factor_of layer flag) top;
      back = plain_if (gives_back before now) (next_back_at before now at + right);
    }

-- what a next layer transmits: the pairs L R, Lss Rss, Ltf Rtf and Ltb Rtb, and then C, Lfe and the single L of stereo
abbrev pub next_sent : Kind → DemixLayer → ℕ → SentBed
next_sent before layer at =
    let now = kind_of layer.layout in
    record {
      mono = nothing_sent;
      center = plain_if (reaches 3 before.surround now.surround) (next_center_at before now at);
      low = plain_if (reaches 3 before.surround now.surround) (next_center_at before now at + 1);
      left = record {
        two = sent_if (reaches 2 before.surround now.surround) (if nat_lt now.surround 5 then factor_of layer flag_of_left else 1000000000000) (next_stereo_at before now at);
        three = nothing_sent;
        five = plain_if (reaches 5 before.surround now.surround) at;
        surround = nothing_sent;
        side = plain_if (reaches 7 before.surround now.surround) (next_side_at before now at);
        rear = nothing_sent;
      };
      right = record {
        two = nothing_sent;
        three = nothing_sent;
        five = plain_if (reaches 5 before.surround now.surround) (at + 1);
        surround = nothing_sent;
        side = plain_if (reaches 7 before.surround now.surround) (next_side_at before now at + 1);
        rear = nothing_sent;
      };
      left_top = next_tops before layer at 0 flag_of_left_top;
      right_top = next_tops before layer at 1 flag_of_right_top;
    }

-- ---- the samples themselves, in parts of 10^12

abbrev pub sample_of : List ℤ → Sent → ℤ
sample_of coded sent = slice_index_or coded sent.place (pos 0) *ℤ pos sent.factor

abbrev pub side_of : List ℤ → SentSide → Side
side_of coded sent = record {
  two = sample_of coded sent.two;
  three = sample_of coded sent.three;
  five = sample_of coded sent.five;
  surround = sample_of coded sent.surround;
  side = sample_of coded sent.side;
  rear = sample_of coded sent.rear;
}

abbrev pub tops_of : List ℤ → SentTops → Tops
tops_of coded sent = record {
  three = sample_of coded sent.three;
  two = sample_of coded sent.two;
  four = sample_of coded sent.four;
  back = sample_of coded sent.back;
}

abbrev pub bed_of : List ℤ → SentBed → Bed
bed_of coded sent = record {
  mono = sample_of coded sent.mono;
  center = sample_of coded sent.center;
  low = sample_of coded sent.low;
  left = side_of coded sent.left;
  right = side_of coded sent.right;
  left_top = tops_of coded sent.left_top;
  right_top = tops_of coded sent.right_top;
}

-- ---- the layers of an element

-- layer j, with mono past the end
abbrev pub layer_at : List DemixLayer → ℕ → DemixLayer
layer_at layers j = slice_index_or layers j (record { layout = Layout.Mono; flags = 0; factor = 0 })

abbrev pub kinds_of : List DemixLayer → ℕ → Kind
kinds_of layers j = kind_of (layer_at layers j).layout

-- where the coded samples of layer j + 1 begin: the layers up to layer j transmit as many channels as its layout has
abbrev pub place_after : List DemixLayer → ℕ → ℕ
place_after layers j = length (channels (layer_at layers j).layout)

-- what layer j transmits
abbrev pub sent_at : List DemixLayer → ℕ → SentBed
sent_at layers zero = first_sent (layer_at layers 0)
sent_at layers (suc j) = next_sent (kinds_of layers j) (layer_at layers (suc j)) (place_after layers j)

abbrev pub sent_by : List DemixLayer → List ℤ → ℕ → Bed
sent_by layers coded j = bed_of coded (sent_at layers j)

-- an allowed chain of layers up to a target, without binaural: each next one is an allowed step
pub record IsLayers (layers : List DemixLayer) (target : ℕ) : Type 0 where
  pub steps : (j : ℕ) → j < target → IsStep (layer_at layers j).layout (layer_at layers (suc j)).layout
  pub speakers : (j : ℕ) → j ≤ target → (layer_at layers j).layout ≢ Layout.Binaural

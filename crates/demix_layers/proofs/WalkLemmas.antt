-- The exact walk: how large what a layer transmits is, and one layer more.
use Rattle.std.proofs.Common.{arith, ◌≡◌, ◌<◌, ◌≤◌, ℕ, suc, ℤ, pos, ◌+◌, ◌*◌, ◌^◌, refl, List, length, get_or, unsigned_abs, slice_index_or}
use Rattle.std.proofs.lemmas.Int.{unsigned_abs-mul}
use Rattle.std.proofs.lemmas.List.Elements.{All-get_or}
use Rattle.std.proofs.Math.Nat.{mul-le-mul}
use Rattle.spec_layouts.specs.Layouts.{channels}
use Rattle.spec_gains.specs.Modes.{Coefficients}
use Rattle.spec_demix.specs.declared.Kind.{Kind}
use Rattle.spec_demix.specs.Kinds.{kind_of}
use Rattle.spec_demix.specs.Elements.{demix_layer_of}
use Rattle.obu_element_config.specs.declared.layer.Layer.{Layer}
use Rattle.obu_element_config.specs.LayerView.{view_layer}
use Rattle.demix_channels.proofs.SeenLayers.{seen, seen_at, layout_at, no_layer}
use Rattle.spec_demix.specs.declared.DemixLayer.{DemixLayer}
use Rattle.spec_demix.specs.declared.Sent.{Sent}
use Rattle.spec_demix.specs.declared.SentSide.{SentSide}
use Rattle.spec_demix.specs.declared.SentTops.{SentTops}
use Rattle.spec_demix.specs.declared.SentBed.{SentBed}
use Rattle.spec_demix.specs.Sent.{sample_of, side_of, tops_of, bed_of, first_sent, next_sent, sent_at, sent_by, kinds_of}
use Rattle.spec_demix.specs.ExactWalk.{exact_after, exact}
use Rattle.spec_demix.specs.Sizes.{AreSamples}
use Rattle.demix_channels.specs.Room.{IsSentWithin, AreSidesWithin, AreTopsWithin, AreWithin}
use Rattle.demix_layers.specs.Within.{AtMost, IsSentSide, IsSentTops, IsSent}

sample_most : (coded : List ℤ) (sent : Sent) → IsSentWithin (length coded) sent → AreSamples coded → AtMost (2 ^ 77) 1 (sample_of coded sent)
sample_most coded sent w s =
    let y : unsigned_abs (slice_index_or coded sent.place (pos 0)) ≤ 2 ^ 31 = All-get_or (λ y. unsigned_abs y ≤ 2 ^ 31) coded sent.place (pos 0) w.place s in
    let p : unsigned_abs (sample_of coded sent) ≤ 2 ^ 31 * 39810717055340 = rw unsigned_abs-mul (mul-le-mul y w.factor) in
    omega (arith, p)

side_sent : (coded : List ℤ) (sent : SentSide) → AreSidesWithin (length coded) sent → AreSamples coded → IsSentSide (2 ^ 77) (side_of coded sent)
side_sent coded sent w s = record {
  two = sample_most coded sent.two w.two s;
  three = sample_most coded sent.three w.three s;
  five = sample_most coded sent.five w.five s;
  surround = sample_most coded sent.surround w.surround s;
  side = sample_most coded sent.side w.side s;
  rear = sample_most coded sent.rear w.rear s;
}

tops_sent : (coded : List ℤ) (sent : SentTops) → AreTopsWithin (length coded) sent → AreSamples coded → IsSentTops (2 ^ 77) (tops_of coded sent)
tops_sent coded sent w s = record {
  three = sample_most coded sent.three w.three s;
  two = sample_most coded sent.two w.two s;
  four = sample_most coded sent.four w.four s;
  back = sample_most coded sent.back w.back s;
}

pub bed_sent : (coded : List ℤ) (sent : SentBed) → AreWithin (length coded) sent → AreSamples coded → IsSent (2 ^ 77) (bed_of coded sent)
bed_sent coded sent w s = record {
  mono = sample_most coded sent.mono w.mono s;
  center = sample_most coded sent.center w.center s;
  low = sample_most coded sent.low w.low s;
  left = side_sent coded sent.left w.left s;
  right = side_sent coded sent.right w.right s;
  left_top = tops_sent coded sent.left_top w.left_top s;
  right_top = tops_sent coded sent.right_top w.right_top s;
}

pub walk_next : (layers : List DemixLayer) (mode : Coefficients) (w : ℕ) (coded : List ℤ) (i : ℕ) → exact (kinds_of layers) mode w (sent_by layers coded) (i + 1)
    ≡ exact_after (kinds_of layers i) (kinds_of layers (i + 1)) mode w (exact (kinds_of layers) mode w (sent_by layers coded) i) (bed_of coded (sent_at layers (i + 1)))
walk_next layers mode w coded i = let e : i + 1 ≡ suc i = omega arith in rw e refl

-- what the code looks up in the descriptors' layers is what the definitions do
pub first_is : (layers : List Layer) (first : DemixLayer) → 0 < length layers → first ≡ demix_layer_of (view_layer (get_or layers 0 no_layer)) → first_sent first ≡ sent_at (seen layers) 0
first_is layers first h e = rw (e, ← (seen_at layers 0 no_layer h)) refl

pub next_is : (layers : List Layer) (i : ℕ) (before : Kind) (new : DemixLayer) (at : ℕ) → suc i < length layers → before ≡ kind_of (get_or layers i no_layer).layout
    → new ≡ demix_layer_of (view_layer (get_or layers (suc i) no_layer)) → at ≡ length (channels (get_or layers i no_layer).layout)
    → next_sent before new at ≡ sent_at (seen layers) (suc i)
next_is layers i before new at h b n a =
    let l = layout_at layers i (omega arith) in
    let s = seen_at layers (suc i) no_layer h in
    rw (b, n, a) (rw (← l, ← s) refl)

pub before_is : (layers : List Layer) (i : ℕ) (before : Kind) → i < length layers → before ≡ kind_of (get_or layers i no_layer).layout → before ≡ kinds_of (seen layers) i
before_is layers i before h b = rw (b, ← (layout_at layers i h)) refl

pub now_is : (layers : List Layer) (i : ℕ) (now : Kind) (new : DemixLayer) → i < length layers → now ≡ kind_of new.layout → new ≡ demix_layer_of (view_layer (get_or layers i no_layer)) → now ≡ kinds_of (seen layers) i
now_is layers i now new h k n = rw (k, n, ← (seen_at layers i no_layer h)) refl

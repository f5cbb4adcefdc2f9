-- The laws of demixing for the layers of an element, from those by kinds of channels.
use Rattle.std.proofs.Common.{arith, ◌<◌, ◌≤◌, ℕ, ℤ, pos, ◌*◌, ◌^◌, refl, sym, subst, List, length, unsigned_abs, slice_index_or}
use Rattle.std.specs.Prelude.{All}
use Rattle.std.proofs.lemmas.Int.{unsigned_abs-mul}
use Rattle.std.proofs.lemmas.List.{get_or_past}
use Rattle.std.proofs.lemmas.List.Elements.{All-get_or}
use Rattle.std.proofs.lemmas.Bool.{cases_lt}
use Rattle.std.proofs.Math.Logic.{⊎_elim}
use Rattle.std.proofs.Math.Nat.{mul-le-mul}
use Rattle.spec_gains.specs.declared.DemixMode.{DemixMode}
use Rattle.spec_gains.specs.Modes.{Coefficients, coefficients_of, IsMode}
use Rattle.spec_gains.proofs.ModeLemmas.{Row, of, row_is}
use Rattle.spec_demix.specs.declared.DemixLayer.{DemixLayer}
use Rattle.spec_demix.specs.declared.Sent.{Sent}
use Rattle.spec_demix.specs.declared.SentSide.{SentSide}
use Rattle.spec_demix.specs.declared.SentTops.{SentTops}
use Rattle.spec_demix.specs.Values.{channel_of}
use Rattle.spec_demix.specs.Sent.{sample_of, side_of, tops_of, sent_at, layer_at, kinds_of, sent_by, IsLayers}
use Rattle.spec_demix.specs.Fits.{FitsOver, IsSame, target_channels}
use Rattle.spec_demix.specs.FixedWalk.{fixed_value}
use Rattle.spec_demix.specs.ExactWalk.{exact, exact_channels, bottom_of}
use Rattle.spec_demix.specs.Sizes.{AreSamples, AreModest, IsNear, IsSmall}
use Rattle.spec_demix.specs.Laws.{SomeListFits, OnlyOneFits, FixedIsNear, FittingIsSmall, FixedIsSmall}
use Rattle.spec_demix.proofs.KindFits.{IsChain}
use Rattle.spec_demix.proofs.KindLaws.{IsSmallSide, IsSmallTops, IsSmallBed}
use Rattle.spec_demix.proofs.Channels.{some_fits, only_one_fits, fixed_is_near}
use Rattle.spec_demix.proofs.Sized.{fitting_is_small, fixed_is_small}
use Rattle.spec_demix.proofs.Factors.{IsFactoredSide, IsFactoredTops, sent_factored}
use Rattle.spec_demix.proofs.Carried.{fits_kinds, fits_lists}
use Rattle.spec_demix.proofs.NextCarried.{kind_is}

-- the counts of the layers
pub chain_of : (layers : List DemixLayer) (target : ℕ) → IsLayers layers target → IsChain (kinds_of layers) target
chain_of layers target c = record {
  kinds = λ j h. kind_is (layer_at layers j).layout;
  rises = λ j h. (c.steps j h).keeps_surround;
  climbs = λ j h. (c.steps j h).keeps_height;
}

-- what holds at each row of coefficients holds at a mode of the table
by_row : (P : Coefficients → Type 0) (mode : DemixMode) → IsMode mode → ((row : Row) → P (of row)) → P (coefficients_of mode)
by_row P mode m each = let r = row_is mode m in subst P (sym r.1) (each r.0)

pub some_list_fits : SomeListFits
some_list_fits layers target mode w coded chain m small =
    by_row (λ k. FitsOver layers target k w coded (bottom_of k) (exact_channels (kinds_of layers target) k (exact (kinds_of layers) k w (sent_by layers coded) target))) mode m
    (λ row. fits_lists layers target row w coded (bottom_of (of row)) (exact_channels (kinds_of layers target) (of row) (exact (kinds_of layers) (of row) w (sent_by layers coded) target)) chain
    (some_fits (kinds_of layers) target row w (sent_by layers coded) (chain_of layers target chain)))

pub only_one_list_fits : OnlyOneFits
only_one_list_fits layers target mode w coded a b x z chain m small =
    by_row (λ k. FitsOver layers target k w coded a x → FitsOver layers target k w coded b z → All (λ c. IsSame (channel_of x c) a (channel_of z c) b) (target_channels layers target)) mode m
    (λ row f g. only_one_fits (layer_at layers target).layout (kinds_of layers) target row w (sent_by layers coded) a b x z (chain_of layers target chain) small refl (chain.speakers target (omega arith))
    (fits_kinds layers target row w coded a x chain f) (fits_kinds layers target row w coded b z chain g))

pub walk_is_near : FixedIsNear
walk_is_near layers target mode w coded bottom x chain m small =
    by_row (λ k. FitsOver layers target k w coded bottom x → All (λ c. IsNear bottom x c (fixed_value layers target k w coded c)) (target_channels layers target)) mode m
    (λ row f. fixed_is_near (layer_at layers target).layout (kinds_of layers) target row w (sent_by layers coded) bottom x (chain_of layers target chain) small refl (chain.speakers target (omega arith))
    (fits_kinds layers target row w coded bottom x chain f))

coded_small : (coded : List ℤ) (i : ℕ) → All (λ y. unsigned_abs y ≤ 2 ^ 31) coded → unsigned_abs (slice_index_or coded i (pos 0)) ≤ 2 ^ 31
coded_small coded i s =
    ⊎_elim (λ low. All-get_or (λ y. unsigned_abs y ≤ 2 ^ 31) coded i (pos 0) low s) (λ high. rw (get_or_past coded i (pos 0) high) (omega arith)) (cases_lt i (length coded))

sample_small : (coded : List ℤ) (sent : Sent) (n : ℕ) → AreSamples coded → sent.factor ≤ n → unsigned_abs (sample_of coded sent) ≤ 2 ^ 31 * n
sample_small coded sent n s h = rw unsigned_abs-mul (mul-le-mul (coded_small coded sent.place s) h)

side_small : (coded : List ℤ) (sent : SentSide) → AreSamples coded → IsFactoredSide 39810717055340 sent → IsSmallSide (side_of coded sent)
side_small coded sent s f = record {
  two = sample_small coded sent.two 39810717055340 s f.two;
  three = sample_small coded sent.three 39810717055340 s f.three;
  five = sample_small coded sent.five 1000000000000 s f.five;
  surround = sample_small coded sent.surround 39810717055340 s f.surround;
  side = sample_small coded sent.side 1000000000000 s f.side;
  rear = sample_small coded sent.rear 1000000000000 s f.rear;
}

tops_small : (coded : List ℤ) (sent : SentTops) → AreSamples coded → IsFactoredTops 39810717055340 sent → IsSmallTops (tops_of coded sent)
tops_small coded sent s f = record {
  three = sample_small coded sent.three 39810717055340 s f.three;
  two = sample_small coded sent.two 39810717055340 s f.two;
  four = sample_small coded sent.four 39810717055340 s f.four;
  back = sample_small coded sent.back 1000000000000 s f.back;
}

sent_small : (layers : List DemixLayer) (target : ℕ) (coded : List ℤ) → AreSamples coded → AreModest layers target → (j : ℕ) → j ≤ target → IsSmallBed (sent_by layers coded j)
sent_small layers target coded s m j h =
    let f = sent_factored layers target 39810717055340 (omega arith) m j h in
    let sent = sent_at layers j in
    record {
      mono = sample_small coded sent.mono 39810717055340 s f.mono;
      center = sample_small coded sent.center 1000000000000 s f.center;
      low = sample_small coded sent.low 1000000000000 s f.low;
      left = side_small coded sent.left s f.left;
      right = side_small coded sent.right s f.right;
      left_top = tops_small coded sent.left_top s f.left_top;
      right_top = tops_small coded sent.right_top s f.right_top;
    }

pub fitting_list_is_small : FittingIsSmall
fitting_list_is_small layers target mode w coded bottom x chain m small s g =
    by_row (λ k. FitsOver layers target k w coded bottom x → All (IsSmall bottom x) (target_channels layers target)) mode m
    (λ row f. fitting_is_small (layer_at layers target).layout (kinds_of layers) target row w (sent_by layers coded) bottom x (chain_of layers target chain) small refl (chain.speakers target (omega arith))
    (sent_small layers target coded s g) (fits_kinds layers target row w coded bottom x chain f))

pub walk_is_small : FixedIsSmall
walk_is_small layers target mode w coded chain m small s g =
    by_row (λ k. All (λ c. unsigned_abs (fixed_value layers target k w coded c) < 2 ^ 39 * 2 ^ 28) (target_channels layers target)) mode m
    (λ row. fixed_is_small (layer_at layers target).layout (kinds_of layers) target row w (sent_by layers coded) (chain_of layers target chain) small refl (chain.speakers target (omega arith))
    (sent_small layers target coded s g))

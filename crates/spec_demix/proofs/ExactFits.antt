use Rattle.std.proofs.Common.{arith, ◌≡◌, ◌<◌, ◌≤◌, ℕ, suc, ℤ, pos, ◌*ℤ◌, ◌*◌}
use Rattle.std.proofs.lemmas.Bool.{cases_lt}
use Rattle.std.proofs.Math.Logic.{⊎_elim}
use Rattle.spec_demix.proofs.Agreement.{rises_up, mono_down}
use Rattle.spec_demix.proofs.ExactLemmas.{IsTied, IsTopTied, IsSentFirstSide, IsSentFirstTops, IsSentNextTops, tops_seen, world_surround, world_three, world_two, world_top_two, world_top_three, exact_is, mono_both, mono_one, plain, direct, thousand, seven, back, last, top_back, some_bottom}
use Rattle.spec_demix.proofs.FloorLemmas.{passes, fails}
use Rattle.spec_demix.proofs.KindFits.{IsKind, CarriesAs, CarriesFirstSide, CarriesFirstTops, CarriesNextTops, FitsKinds, IsChain}
use Rattle.spec_demix.specs.Downmix.{side_down}
use Rattle.spec_demix.specs.ExactWalk.{exact, exact_half, exact_channels, scale_of, bottom_of}
use Rattle.spec_demix.specs.declared.Bed.{Bed}
use Rattle.spec_demix.specs.declared.Kind.{Kind}
use Rattle.spec_demix.specs.declared.Side.{Side}
use Rattle.spec_demix.specs.declared.Tops.{Tops}
use Rattle.spec_gains.proofs.ModeLemmas.{Row, of}

first_side_fits : (k : Kind) (first : ℕ) (mode : Row) (c : ℤ) (v : Side) (t : Tops) (y : Side) → first ≤ k.surround → IsTied first k.surround mode c v → IsSentFirstSide first mode v y
    → CarriesFirstSide first (bottom_of (of mode)) (side_down k.surround (of mode) (pos (10000000 * scale_of (of mode)) *ℤ c) (exact_half k (of mode) v t)) y
first_side_fits k first mode c v t y from e f =
    let n = scale_of (of mode) in
    record {
      two = λ l m. plain n _ v.two y.two (world_two k first mode c v t e m (omega arith)) (f.two l m);
      three = λ l m. thousand n _ v.three y.three (world_three k first mode c v t e m (omega arith)) (f.three l m);
      five = λ l. rw (passes 5 k.surround (omega arith)) (direct n v.five y.five (f.five l));
      surround = λ l m. back mode _ v.surround y.surround (world_surround k first mode c v t e m (omega arith)) (f.surround l m);
      side = λ l. direct n v.side y.side (f.side l);
      rear = λ l. last mode v.rear y.rear (f.rear l);
    }

-- the tops that the target's downmixes have: each is known where a layer that transmits it stands at or below the target
top_three_seen : (kind : ℕ → Kind) (target j : ℕ) (mode : Row) (w : ℕ) (c : ℤ) (v : Side) (t : Tops) (y : ℤ) → IsChain kind target → j ≤ target → 2 ≤ (kind j).height → (kind j).surround < 5
    → IsTied (kind 0).surround (kind target).surround mode c v → IsTopTied kind target w v.surround t → t.three ≡ y → CarriesAs (bottom_of (of mode)) (tops_seen (kind target) mode w v t).three y
top_three_seen kind target j mode w c v t y chain h two few e tied s =
    let k = kind target in
    let here : IsKind (kind j) = chain.kinds j h in
    let three : 3 ≤ (kind j).surround = ⊎_elim (λ low. absurd (let z = here.low low in omega arith)) (λ x. x) (cases_lt (kind j).surround 3) in
    let from = rises_up kind target chain j 0 (omega arith) h in
    plain (scale_of (of mode)) _ t.three y
    (world_top_three k (kind 0).surround mode w c v t (chain.kinds target (omega arith)) e (omega (arith, from.0))
    (λ wide. tied.three j h three few wide)
    (λ wide four. tied.two j h two (let z = here.three three few in omega arith) four))
    s

top_two_seen : (kind : ℕ → Kind) (target j : ℕ) (mode : Row) (w : ℕ) (v : Side) (t : Tops) (y : ℤ) → IsChain kind target → j ≤ target → 2 ≤ (kind j).height → (kind j).height < 4 → 5 ≤ (kind j).surround
    → IsTopTied kind target w v.surround t → t.two ≡ pos 10000000 *ℤ y → CarriesAs (bottom_of (of mode)) (tops_seen (kind target) mode w v t).two y
top_two_seen kind target j mode w v t y chain h two few wide tied s =
    let up = rises_up kind target chain target j h (omega arith) in
    seven (scale_of (of mode)) _ t.two y (world_top_two (kind target) mode w v t (omega (arith, up.0)) (λ four. tied.two j h two few four)) s

top_four_seen : (kind : Kind) (mode : Row) (w : ℕ) (v : Side) (t : Tops) (y : ℤ) → 4 ≤ kind.height → t.four ≡ y → CarriesAs (bottom_of (of mode)) (tops_seen kind mode w v t).four y
top_four_seen kind mode w v t y four s = rw (passes 4 kind.height four) (direct (scale_of (of mode)) t.four y s)

first_tops_fit : (kind : ℕ → Kind) (target : ℕ) (mode : Row) (w : ℕ) (c : ℤ) (v : Side) (t y : Tops) → IsChain kind target → IsTied (kind 0).surround (kind target).surround mode c v → IsTopTied kind target w v.surround t → IsSentFirstTops (kind 0) mode t y
    → CarriesFirstTops (kind 0) (bottom_of (of mode)) (tops_seen (kind target) mode w v t) y
first_tops_fit kind target mode w c v t y chain e tied f =
    let up = rises_up kind target chain target 0 (omega arith) (omega arith) in
    record {
      three = λ l m. top_three_seen kind target 0 mode w c v t y.three chain (omega arith) l m e tied (f.three l m);
      two = λ l m o. top_two_seen kind target 0 mode w v t y.two chain (omega arith) l m o tied (f.two l m o);
      four = λ l. top_four_seen (kind target) mode w v t y.four (omega (arith, up.1)) (f.four l);
      back = λ l. top_back mode t.back y.back (f.back l);
    }

next_tops_fit : (kind : ℕ → Kind) (target j : ℕ) (mode : Row) (w : ℕ) (c : ℤ) (v : Side) (t y : Tops) → IsChain kind target → j < target → IsTied (kind 0).surround (kind target).surround mode c v → IsTopTied kind target w v.surround t
    → IsSentNextTops (kind j) (kind (suc j)) mode t y → CarriesNextTops (kind j) (kind (suc j)) (bottom_of (of mode)) (tops_seen (kind target) mode w v t) y
next_tops_fit kind target j mode w c v t y chain h e tied f =
    let up = rises_up kind target chain target (suc j) (omega arith) (omega arith) in
    record {
      three = λ l m o. top_three_seen kind target (suc j) mode w c v t y.three chain (omega arith) m o e tied (f.three l m o);
      two = λ l m o p. top_two_seen kind target (suc j) mode w v t y.two chain (omega arith) m o p tied (f.two l m o p);
      four = λ l m. top_four_seen (kind target) mode w v t y.four (omega (arith, up.1)) (f.four l m);
      back = λ l m. top_back mode t.back y.back (f.back l m);
    }

-- what the exact walk gives fits
pub exact_fits : (kind : ℕ → Kind) (target : ℕ) (mode : Row) (w : ℕ) (y : ℕ → Bed) → IsChain kind target
    → FitsKinds kind target mode w y (bottom_of (of mode)) (exact_channels (kind target) (of mode) (exact kind (of mode) w y target))
exact_fits kind target mode w y chain =
    let k = kind target in
    let v = exact kind (of mode) w y target in
    let e = exact_is kind target mode w y chain target (omega arith) in
    let kk : IsKind k = chain.kinds target (omega arith) in
    let n = scale_of (of mode) in
    let f = e.first in
    let from = rises_up kind target chain target 0 (omega arith) (omega arith) in
    record {
      some = some_bottom mode;
      first = record {
        mono = λ l. ⊎_elim
            (λ low. rw (fails 2 k.surround low) (mono_one n v.mono (y 0).mono (f.mono l)))
            (λ high. mono_both n _ v.left.two v.right.two _ _ v.mono (y 0).mono (mono_down k mode w (exact_channels k (of mode) v) high)
            (world_two k (kind 0).surround mode v.center v.left v.left_top e.left (omega arith) high) (world_two k (kind 0).surround mode v.center v.right v.right_top e.right (omega arith) high) (e.mono l high) (f.mono l))
            (cases_lt k.surround 2);
        center = λ l. direct n v.center (y 0).center (f.center l);
        low = λ l. direct n v.low (y 0).low (f.low l);
        left = first_side_fits k (kind 0).surround mode v.center v.left v.left_top (y 0).left from.0 e.left f.left;
        right = first_side_fits k (kind 0).surround mode v.center v.right v.right_top (y 0).right from.0 e.right f.right;
        left_top = first_tops_fit kind target mode w v.center v.left v.left_top (y 0).left_top chain e.left e.left_top f.left_top;
        right_top = first_tops_fit kind target mode w v.center v.right v.right_top (y 0).right_top chain e.right e.right_top f.right_top;
      };
      next = λ j h.
          let p = e.next j h in
          let low = rises_up kind target chain j 0 (omega arith) (omega arith) in
          let up = rises_up kind target chain target (suc j) (omega arith) (omega arith) in
          record {
            stereo = λ l n. plain (scale_of (of mode)) _ v.left.two (y (suc j)).left.two (world_two k (kind 0).surround mode v.center v.left v.left_top e.left (omega (arith, low.0)) (omega (arith, up.0))) (p.stereo l n);
            center = λ l n. direct (scale_of (of mode)) v.center (y (suc j)).center (p.center l n);
            low = λ l n. direct (scale_of (of mode)) v.low (y (suc j)).low (p.low l n);
            left = record {
              five = λ l n. let wide : 5 ≤ k.surround = omega (arith, up.0) in rw (passes 5 k.surround wide) (direct (scale_of (of mode)) v.left.five (y (suc j)).left.five (p.left_five l n));
              side = λ l n. direct (scale_of (of mode)) v.left.side (y (suc j)).left.side (p.left_side l n);
            };
            right = record {
              five = λ l n. let wide : 5 ≤ k.surround = omega (arith, up.0) in rw (passes 5 k.surround wide) (direct (scale_of (of mode)) v.right.five (y (suc j)).right.five (p.right_five l n));
              side = λ l n. direct (scale_of (of mode)) v.right.side (y (suc j)).right.side (p.right_side l n);
            };
            left_top = next_tops_fit kind target j mode w v.center v.left v.left_top (y (suc j)).left_top chain h e.left e.left_top p.left_top;
            right_top = next_tops_fit kind target j mode w v.center v.right v.right_top (y (suc j)).right_top chain h e.right e.right_top p.right_top;
          };
    }

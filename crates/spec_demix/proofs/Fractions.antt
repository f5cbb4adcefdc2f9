-- The fractions of the exact walk, each over its own bottom.
use Rattle.std.proofs.Common.{arith, ◌≡◌, ℕ, ℤ, pos, ◌*ℤ◌, ◌*◌, List, Bool, true, false, slice_index_or, if◌then◌else◌, nat_le, sym, subst}
use Rattle.std.specs.Prelude.{All}
use Rattle.std.proofs.lemmas.Int.{ints}
use Rattle.spec_layouts.specs.declared.Channel.{Channel}
use Rattle.spec_layouts.specs.declared.Channel.TheVariants.{M, L, R, C, Lfe, Ls, Rs, Lss, Rss, Lrs, Rrs, Ltf, Rtf, Ltb, Rtb}
use Rattle.spec_gains.proofs.ModeLemmas.{Row, Zero, One, Two, of, beta_of, gamma_of, delta_of, row_is}
use Rattle.spec_demix.specs.declared.DemixLayer.{DemixLayer}
use Rattle.spec_demix.specs.declared.Kind.{Kind}
use Rattle.spec_demix.specs.declared.Bed.{Bed}
use Rattle.spec_demix.specs.Downmix.{Channels}
use Rattle.spec_demix.specs.Values.{channel_of}
use Rattle.spec_demix.specs.Fits.{IsSame, target_channels}
use Rattle.spec_demix.specs.Sent.{kinds_of, sent_by}
use Rattle.spec_demix.specs.ExactWalk.{exact, exact_channels, scale_of, bottom_of, over, fraction_of, exact_fraction}
use Rattle.spec_demix.specs.Laws.{ExactFits, exact_list, exact_bottom}
use Rattle.spec_demix.proofs.FloorLemmas.{swapped_left}
use Rattle.spec_demix.proofs.Layered.{some_list_fits, only_one_list_fits}

direct : (mode : Row) (bottom : ℕ) (x top : ℤ) → IsSame x bottom (pos (10000000 * scale_of (of mode)) *ℤ top) (bottom_of (of mode)) → top *ℤ pos bottom ≡ x *ℤ pos (1000000000000)
direct Zero bottom x top e = let g = swapped_left top (10000000 * scale_of (of Zero)) bottom in omega (arith, ints)
direct One bottom x top e = let g = swapped_left top (10000000 * scale_of (of One)) bottom in omega (arith, ints)
direct Two bottom x top e = let g = swapped_left top (10000000 * scale_of (of Two)) bottom in omega (arith, ints)

thousand : (mode : Row) (bottom : ℕ) (x top : ℤ) → IsSame x bottom (pos (10000 * scale_of (of mode)) *ℤ top) (bottom_of (of mode)) → top *ℤ pos bottom ≡ x *ℤ pos (1000000000000000)
thousand Zero bottom x top e = let g = swapped_left top (10000 * scale_of (of Zero)) bottom in omega (arith, ints)
thousand One bottom x top e = let g = swapped_left top (10000 * scale_of (of One)) bottom in omega (arith, ints)
thousand Two bottom x top e = let g = swapped_left top (10000 * scale_of (of Two)) bottom in omega (arith, ints)

surround : (mode : Row) (bottom : ℕ) (x top : ℤ) → IsSame x bottom (pos (10000000 * (beta_of mode * gamma_of mode)) *ℤ top) (bottom_of (of mode)) → top *ℤ pos bottom ≡ x *ℤ pos (1000000000000 * delta_of mode)
surround Zero bottom x top e = let g = swapped_left top (10000000 * (beta_of Zero * gamma_of Zero)) bottom in omega (arith, ints)
surround One bottom x top e = let g = swapped_left top (10000000 * (beta_of One * gamma_of One)) bottom in omega (arith, ints)
surround Two bottom x top e = let g = swapped_left top (10000000 * (beta_of Two * gamma_of Two)) bottom in omega (arith, ints)

rear : (mode : Row) (bottom : ℕ) (x top : ℤ) → IsSame x bottom (pos (10000000 * gamma_of mode) *ℤ top) (bottom_of (of mode)) → top *ℤ pos bottom ≡ x *ℤ pos (1000000000000 * (delta_of mode * beta_of mode))
rear Zero bottom x top e = let g = swapped_left top (10000000 * gamma_of Zero) bottom in omega (arith, ints)
rear One bottom x top e = let g = swapped_left top (10000000 * gamma_of One) bottom in omega (arith, ints)
rear Two bottom x top e = let g = swapped_left top (10000000 * gamma_of Two) bottom in omega (arith, ints)

two : (mode : Row) (bottom : ℕ) (x top : ℤ) → IsSame x bottom (pos (scale_of (of mode)) *ℤ top) (bottom_of (of mode)) → top *ℤ pos bottom ≡ x *ℤ pos (10000000000000000000)
two Zero bottom x top e = let g = swapped_left top (scale_of (of Zero)) bottom in omega (arith, ints)
two One bottom x top e = let g = swapped_left top (scale_of (of One)) bottom in omega (arith, ints)
two Two bottom x top e = let g = swapped_left top (scale_of (of Two)) bottom in omega (arith, ints)

back : (mode : Row) (bottom : ℕ) (x top : ℤ) → IsSame x bottom (pos (1000 * (beta_of mode * delta_of mode)) *ℤ top) (bottom_of (of mode)) → top *ℤ pos bottom ≡ x *ℤ pos (10000000000000000 * gamma_of mode)
back Zero bottom x top e = let g = swapped_left top (1000 * (beta_of Zero * delta_of Zero)) bottom in omega (arith, ints)
back One bottom x top e = let g = swapped_left top (1000 * (beta_of One * delta_of One)) bottom in omega (arith, ints)
back Two bottom x top e = let g = swapped_left top (1000 * (beta_of Two * delta_of Two)) bottom in omega (arith, ints)

front : (b5 b3 : Bool) (mode : Row) (bottom : ℕ) (x v5 v3 v2 : ℤ)
    → IsSame x bottom (if b5 then pos (10000000 * scale_of (of mode)) *ℤ v5 else (if b3 then pos (10000 * scale_of (of mode)) *ℤ v3 else pos (10000000 * scale_of (of mode)) *ℤ v2)) (bottom_of (of mode))
    → (if b5 then over v5 1000000000000 else (if b3 then over v3 1000000000000000 else over v2 1000000000000)).top *ℤ pos bottom ≡ x *ℤ pos (if b5 then over v5 1000000000000 else (if b3 then over v3 1000000000000000 else over v2 1000000000000)).bottom
front true b3 mode bottom x v5 v3 v2 e = direct mode bottom x v5 e
front false true mode bottom x v5 v3 v2 e = thousand mode bottom x v3 e
front false false mode bottom x v5 v3 v2 e = direct mode bottom x v2 e

top : (b4 b5 : Bool) (mode : Row) (bottom : ℕ) (x v4 v2 v3 : ℤ)
    → IsSame x bottom (if b4 then pos (10000000 * scale_of (of mode)) *ℤ v4 else (if b5 then pos (scale_of (of mode)) *ℤ v2 else pos (10000000 * scale_of (of mode)) *ℤ v3)) (bottom_of (of mode))
    → (if b4 then over v4 1000000000000 else (if b5 then over v2 10000000000000000000 else over v3 1000000000000)).top *ℤ pos bottom ≡ x *ℤ pos (if b4 then over v4 1000000000000 else (if b5 then over v2 10000000000000000000 else over v3 1000000000000)).bottom
top true b5 mode bottom x v4 v2 v3 e = direct mode bottom x v4 e
top false true mode bottom x v4 v2 v3 e = two mode bottom x v2 e
top false false mode bottom x v4 v2 v3 e = direct mode bottom x v3 e

same_at : (kind : Kind) (mode : Row) (v : Bed) (bottom : ℕ) (x : Channels) (c : Channel) → IsSame (channel_of x c) bottom (channel_of (exact_channels kind (of mode) v) c) (bottom_of (of mode))
    → (fraction_of kind (of mode) v c).top *ℤ pos bottom ≡ channel_of x c *ℤ pos (fraction_of kind (of mode) v c).bottom
same_at kind mode v bottom x M e = direct mode bottom x.mono v.mono e
same_at kind mode v bottom x C e = direct mode bottom x.center v.center e
same_at kind mode v bottom x Lfe e = direct mode bottom x.low v.low e
same_at kind mode v bottom x L e = front (nat_le 5 kind.surround) (nat_le 3 kind.surround) mode bottom x.left.front v.left.five v.left.three v.left.two e
same_at kind mode v bottom x Ls e = surround mode bottom x.left.surround v.left.surround e
same_at kind mode v bottom x Lss e = direct mode bottom x.left.side v.left.side e
same_at kind mode v bottom x Lrs e = rear mode bottom x.left.rear v.left.rear e
same_at kind mode v bottom x Ltf e = top (nat_le 4 kind.height) (nat_le 5 kind.surround) mode bottom x.left.top v.left_top.four v.left_top.two v.left_top.three e
same_at kind mode v bottom x Ltb e = back mode bottom x.left.top_back v.left_top.back e
same_at kind mode v bottom x R e = front (nat_le 5 kind.surround) (nat_le 3 kind.surround) mode bottom x.right.front v.right.five v.right.three v.right.two e
same_at kind mode v bottom x Rs e = surround mode bottom x.right.surround v.right.surround e
same_at kind mode v bottom x Rss e = direct mode bottom x.right.side v.right.side e
same_at kind mode v bottom x Rrs e = rear mode bottom x.right.rear v.right.rear e
same_at kind mode v bottom x Rtf e = top (nat_le 4 kind.height) (nat_le 5 kind.surround) mode bottom x.right.top v.right_top.four v.right_top.two v.right_top.three e
same_at kind mode v bottom x Rtb e = back mode bottom x.right.top_back v.right_top.back e

exact_row : (row : Row) (layers : List DemixLayer) (target : ℕ) (w : ℕ) (coded : List ℤ) (bottom : ℕ) (x : Channels)
    → All (λ c. IsSame (channel_of x c) bottom (channel_of (exact_channels (kinds_of layers target) (of row) (exact (kinds_of layers) (of row) w (sent_by layers coded) target)) c) (bottom_of (of row))) (target_channels layers target)
    → All (λ c. (exact_fraction layers target (of row) w coded c).top *ℤ pos bottom ≡ channel_of x c *ℤ pos (exact_fraction layers target (of row) w coded c).bottom) (target_channels layers target)
exact_row row layers target w coded bottom x same k d h =
    same_at (kinds_of layers target) row (exact (kinds_of layers) (of row) w (sent_by layers coded) target) bottom x (slice_index_or (target_channels layers target) k d) (same k d h)

pub exact_fits_all : ExactFits
exact_fits_all layers target mode w coded bottom x chain m small f =
    let some = some_list_fits layers target mode w coded chain m small in
    let same = only_one_list_fits layers target mode w coded bottom (exact_bottom mode) x (exact_list layers target mode w coded) chain m small f some in
    let r = row_is mode m in
    subst
    (λ k. All (λ c. IsSame (channel_of x c) bottom (channel_of (exact_channels (kinds_of layers target) k (exact (kinds_of layers) k w (sent_by layers coded) target)) c) (bottom_of k)) (target_channels layers target)
    → All (λ c. (exact_fraction layers target k w coded c).top *ℤ pos bottom ≡ channel_of x c *ℤ pos (exact_fraction layers target k w coded c).bottom) (target_channels layers target))
    (sym r.1) (exact_row r.0 layers target w coded bottom x) same

use Rattle.std.proofs.Common.{arith, ◌≡◌, ◌≢◌, ◌<◌, ◌≤◌, ℕ, ℤ, pos, ◌-ℤ◌, ◌*ℤ◌, ◌*◌, refl, unsigned_abs}
use Rattle.std.specs.Prelude.{All, List, [], ◌∷◌}
use Rattle.std.proofs.lemmas.List.Elements.{All-cons, All-nil}
use Rattle.spec_layouts.specs.declared.Channel.{Channel}
use Rattle.std.proofs.lemmas.Int.{ints}
use Rattle.std.proofs.Math.Nat.{mul-le-mul_right}
use Rattle.spec_layouts.specs.declared.Layout.{Layout}
use Rattle.spec_layouts.specs.declared.Layout.TheVariants.{Mono, Stereo, L51, L512, L514, L71, L712, L714, L312, Binaural}
use Rattle.spec_layouts.specs.Layouts.{channels}
use Rattle.spec_demix.proofs.Agreement.{cross, cross_bed, fits_agree, ten}
use Rattle.spec_demix.proofs.Bound.{bed_errors, fixed_held}
use Rattle.spec_demix.proofs.ExactFits.{exact_fits}
use Rattle.spec_demix.proofs.FloorLemmas.{swapped_left}
use Rattle.spec_demix.proofs.KindLaws.{KindSomeFits, KindOnlyOneFits, KindFixedIsNear}
use Rattle.spec_demix.proofs.Near.{Near, IsBedHeld}
use Rattle.spec_demix.specs.Downmix.{Channels, down}
use Rattle.spec_demix.specs.Fits.{IsSame}
use Rattle.spec_demix.specs.FixedWalk.{fixed}
use Rattle.spec_demix.specs.Floor.{unit}
use Rattle.spec_demix.specs.Kinds.{kind_of}
use Rattle.spec_demix.specs.Values.{channel_of, value_of}
use Rattle.spec_demix.specs.declared.Bed.{Bed}
use Rattle.spec_gains.proofs.ModeLemmas.{Row, of}

abbrev Each : (Channel → Type 0) → List Channel → Type 0
Each P [] = Unit {0}
Each P (c ∷ cs) = P c × Each P cs

each_all : (P : Channel → Type 0) (cs : List Channel) → Each P cs → All P cs
each_all P [] e = All-nil P
each_all P (c ∷ cs) e = All-cons P c cs e.0 (each_all P cs e.1)

-- mono is counted twice, and a surround of the kind 5 in thousandths
ten_mono : (a b : ℕ) (v w : ℤ) (k : ℕ) → Near k 0 (cross a b (pos 20000000000 *ℤ v) (pos 20000000000 *ℤ w)) → v *ℤ pos b ≡ w *ℤ pos a
ten_mono a b v w k n = let g = swapped_left v 20000000000 b in let h = swapped_left w 20000000000 a in omega (arith, ints)

ten_surround : (a b : ℕ) (v w : ℤ) (k : ℕ) → Near k 0 (cross a b (pos 10000000 *ℤ (pos 1000 *ℤ v)) (pos 10000000 *ℤ (pos 1000 *ℤ w))) → v *ℤ pos b ≡ w *ℤ pos a
ten_surround a b v w k n =
    let g = swapped_left (pos 1000 *ℤ v) 10000000 b in
    let h = swapped_left (pos 1000 *ℤ w) 10000000 a in
    let i = swapped_left v 1000 b in
    let j = swapped_left w 1000 a in
    omega (arith, ints)

near_ten : (k bottom : ℕ) (f x : ℤ) → k ≤ 17 → 0 < bottom → Near k (10000000000 * bottom) (f *ℤ pos (10000000000 * bottom) -ℤ pos unit *ℤ (pos 10000000000 *ℤ x)) → unsigned_abs (f *ℤ pos bottom -ℤ pos unit *ℤ x) < 64 * bottom
near_ten k bottom f x small some n =
    let m = mul-le-mul_right (10000000000 * bottom) small in
    let t : f *ℤ pos (10000000000 * bottom) ≡ pos 10000000000 *ℤ (f *ℤ pos bottom) = omega (arith, ints) in
    let u : unsigned_abs (f *ℤ pos (10000000000 * bottom) -ℤ pos unit *ℤ (pos 10000000000 *ℤ x)) ≤ 17 * (10000000000 * bottom) = omega (arith, m, n) in
    omega (arith, ints)

near_mono : (bottom : ℕ) (f x : ℤ) → 0 < bottom → Near 2 (10000000000 * bottom) (pos 2 *ℤ (f *ℤ pos (10000000000 * bottom)) -ℤ pos unit *ℤ (pos 20000000000 *ℤ x)) → unsigned_abs (f *ℤ pos bottom -ℤ pos unit *ℤ x) < 64 * bottom
near_mono bottom f x some n =
    let t : f *ℤ pos (10000000000 * bottom) ≡ pos 10000000000 *ℤ (f *ℤ pos bottom) = omega (arith, ints) in
    omega (arith, ints)

near_surround : (bottom : ℕ) (f x : ℤ) → 0 < bottom → Near 10 (10000000000 * bottom) (f *ℤ pos (10000000000 * bottom) -ℤ pos unit *ℤ (pos 10000000 *ℤ (pos 1000 *ℤ x))) → unsigned_abs (f *ℤ pos bottom -ℤ pos unit *ℤ x) < 64 * bottom
near_surround bottom f x some n =
    let t : f *ℤ pos (10000000000 * bottom) ≡ pos 10000000000 *ℤ (f *ℤ pos bottom) = omega (arith, ints) in
    omega (arith, ints)

-- each channel of the target is the same fraction
same_channels : (layout : Layout) (mode : Row) (w a b : ℕ) (x z : Channels) → layout ≢ Binaural → IsBedHeld (kind_of layout) 0 (cross_bed a b (down (kind_of layout) (of mode) w x) (down (kind_of layout) (of mode) w z))
    → All (λ c. IsSame (channel_of x c) a (channel_of z c) b) (channels layout)
same_channels Mono mode w a b x z n e = each_all (λ c. IsSame (channel_of x c) a (channel_of z c) b) (channels Mono) (ten_mono a b x.mono z.mono 2 (e.mono (omega arith)), tt)
same_channels Stereo mode w a b x z n e = each_all (λ c. IsSame (channel_of x c) a (channel_of z c) b) (channels Stereo) (ten a b x.left.front z.left.front 3 (e.left.two (omega arith) (omega arith)), (ten a b x.right.front z.right.front 3 (e.right.two (omega arith) (omega arith)), tt))
same_channels L51 mode w a b x z n e = each_all (λ c. IsSame (channel_of x c) a (channel_of z c) b) (channels L51) (ten a b x.left.front z.left.front 1 (e.left.five (omega arith)), (ten a b x.right.front z.right.front 1 (e.right.five (omega arith)), (ten a b x.center z.center 1 (e.center (omega arith)), (ten a b x.low z.low 1 (e.low (omega arith)), (ten_surround a b x.left.surround z.left.surround 10 (e.left.surround (omega arith) (omega arith)), (ten_surround a b x.right.surround z.right.surround 10 (e.right.surround (omega arith) (omega arith)), tt))))))
same_channels L512 mode w a b x z n e = each_all (λ c. IsSame (channel_of x c) a (channel_of z c) b) (channels L512) (ten a b x.left.front z.left.front 1 (e.left.five (omega arith)), (ten a b x.right.front z.right.front 1 (e.right.five (omega arith)), (ten a b x.center z.center 1 (e.center (omega arith)), (ten a b x.low z.low 1 (e.low (omega arith)), (ten_surround a b x.left.surround z.left.surround 10 (e.left.surround (omega arith) (omega arith)), (ten_surround a b x.right.surround z.right.surround 10 (e.right.surround (omega arith) (omega arith)), (ten a b x.left.top z.left.top 7 (e.left_top.two (omega arith) (omega arith) (omega arith)), (ten a b x.right.top z.right.top 7 (e.right_top.two (omega arith) (omega arith) (omega arith)), tt))))))))
same_channels L514 mode w a b x z n e = each_all (λ c. IsSame (channel_of x c) a (channel_of z c) b) (channels L514) (ten a b x.left.front z.left.front 1 (e.left.five (omega arith)), (ten a b x.right.front z.right.front 1 (e.right.five (omega arith)), (ten a b x.center z.center 1 (e.center (omega arith)), (ten a b x.low z.low 1 (e.low (omega arith)), (ten_surround a b x.left.surround z.left.surround 10 (e.left.surround (omega arith) (omega arith)), (ten_surround a b x.right.surround z.right.surround 10 (e.right.surround (omega arith) (omega arith)), (ten a b x.left.top z.left.top 1 (e.left_top.four (omega arith)), (ten a b x.right.top z.right.top 1 (e.right_top.four (omega arith)), (ten a b x.left.top_back z.left.top_back 13 (e.left_top.back (omega arith)), (ten a b x.right.top_back z.right.top_back 13 (e.right_top.back (omega arith)), tt))))))))))
same_channels L71 mode w a b x z n e = each_all (λ c. IsSame (channel_of x c) a (channel_of z c) b) (channels L71) (ten a b x.left.front z.left.front 1 (e.left.five (omega arith)), (ten a b x.right.front z.right.front 1 (e.right.five (omega arith)), (ten a b x.center z.center 1 (e.center (omega arith)), (ten a b x.low z.low 1 (e.low (omega arith)), (ten a b x.left.rear z.left.rear 17 (e.left.rear (omega arith)), (ten a b x.right.rear z.right.rear 17 (e.right.rear (omega arith)), (ten a b x.left.side z.left.side 1 (e.left.side (omega arith)), (ten a b x.right.side z.right.side 1 (e.right.side (omega arith)), tt))))))))
same_channels L712 mode w a b x z n e = each_all (λ c. IsSame (channel_of x c) a (channel_of z c) b) (channels L712) (ten a b x.left.front z.left.front 1 (e.left.five (omega arith)), (ten a b x.right.front z.right.front 1 (e.right.five (omega arith)), (ten a b x.center z.center 1 (e.center (omega arith)), (ten a b x.low z.low 1 (e.low (omega arith)), (ten a b x.left.rear z.left.rear 17 (e.left.rear (omega arith)), (ten a b x.right.rear z.right.rear 17 (e.right.rear (omega arith)), (ten a b x.left.side z.left.side 1 (e.left.side (omega arith)), (ten a b x.right.side z.right.side 1 (e.right.side (omega arith)), (ten a b x.left.top z.left.top 7 (e.left_top.two (omega arith) (omega arith) (omega arith)), (ten a b x.right.top z.right.top 7 (e.right_top.two (omega arith) (omega arith) (omega arith)), tt))))))))))
same_channels L714 mode w a b x z n e = each_all (λ c. IsSame (channel_of x c) a (channel_of z c) b) (channels L714) (ten a b x.left.front z.left.front 1 (e.left.five (omega arith)), (ten a b x.right.front z.right.front 1 (e.right.five (omega arith)), (ten a b x.center z.center 1 (e.center (omega arith)), (ten a b x.low z.low 1 (e.low (omega arith)), (ten a b x.left.rear z.left.rear 17 (e.left.rear (omega arith)), (ten a b x.right.rear z.right.rear 17 (e.right.rear (omega arith)), (ten a b x.left.side z.left.side 1 (e.left.side (omega arith)), (ten a b x.right.side z.right.side 1 (e.right.side (omega arith)), (ten a b x.left.top z.left.top 1 (e.left_top.four (omega arith)), (ten a b x.right.top z.right.top 1 (e.right_top.four (omega arith)), (ten a b x.left.top_back z.left.top_back 13 (e.left_top.back (omega arith)), (ten a b x.right.top_back z.right.top_back 13 (e.right_top.back (omega arith)), tt))))))))))))
same_channels L312 mode w a b x z n e = each_all (λ c. IsSame (channel_of x c) a (channel_of z c) b) (channels L312) (ten a b x.left.front z.left.front 5 (e.left.three (omega arith) (omega arith)), (ten a b x.right.front z.right.front 5 (e.right.three (omega arith) (omega arith)), (ten a b x.center z.center 1 (e.center (omega arith)), (ten a b x.low z.low 1 (e.low (omega arith)), (ten a b x.left.top z.left.top 1 (e.left_top.three (omega arith) (omega arith)), (ten a b x.right.top z.right.top 1 (e.right_top.three (omega arith) (omega arith)), tt))))))
same_channels Binaural mode w a b x z n e = absurd (n refl)

-- and each of the walk's is near
near_channels : (layout : Layout) (mode : Row) (w bottom : ℕ) (f : Bed) (x : Channels) → layout ≢ Binaural → 0 < bottom → IsBedHeld (kind_of layout) (10000000000 * bottom) (bed_errors (10000000000 * bottom) f (down (kind_of layout) (of mode) w x))
    → All (λ c. unsigned_abs (value_of (kind_of layout) f c *ℤ pos bottom -ℤ pos unit *ℤ channel_of x c) < 64 * bottom) (channels layout)
near_channels Mono mode w bottom f x n some e = each_all (λ c. unsigned_abs (value_of (kind_of Mono) f c *ℤ pos bottom -ℤ pos unit *ℤ channel_of x c) < 64 * bottom) (channels Mono) (near_mono bottom f.mono x.mono some (e.mono (omega arith)), tt)
near_channels Stereo mode w bottom f x n some e = each_all (λ c. unsigned_abs (value_of (kind_of Stereo) f c *ℤ pos bottom -ℤ pos unit *ℤ channel_of x c) < 64 * bottom) (channels Stereo) (near_ten 3 bottom f.left.two x.left.front (omega arith) some (e.left.two (omega arith) (omega arith)), (near_ten 3 bottom f.right.two x.right.front (omega arith) some (e.right.two (omega arith) (omega arith)), tt))
near_channels L51 mode w bottom f x n some e = each_all (λ c. unsigned_abs (value_of (kind_of L51) f c *ℤ pos bottom -ℤ pos unit *ℤ channel_of x c) < 64 * bottom) (channels L51) (near_ten 1 bottom f.left.five x.left.front (omega arith) some (e.left.five (omega arith)), (near_ten 1 bottom f.right.five x.right.front (omega arith) some (e.right.five (omega arith)), (near_ten 1 bottom f.center x.center (omega arith) some (e.center (omega arith)), (near_ten 1 bottom f.low x.low (omega arith) some (e.low (omega arith)), (near_surround bottom f.left.surround x.left.surround some (e.left.surround (omega arith) (omega arith)), (near_surround bottom f.right.surround x.right.surround some (e.right.surround (omega arith) (omega arith)), tt))))))
near_channels L512 mode w bottom f x n some e = each_all (λ c. unsigned_abs (value_of (kind_of L512) f c *ℤ pos bottom -ℤ pos unit *ℤ channel_of x c) < 64 * bottom) (channels L512) (near_ten 1 bottom f.left.five x.left.front (omega arith) some (e.left.five (omega arith)), (near_ten 1 bottom f.right.five x.right.front (omega arith) some (e.right.five (omega arith)), (near_ten 1 bottom f.center x.center (omega arith) some (e.center (omega arith)), (near_ten 1 bottom f.low x.low (omega arith) some (e.low (omega arith)), (near_surround bottom f.left.surround x.left.surround some (e.left.surround (omega arith) (omega arith)), (near_surround bottom f.right.surround x.right.surround some (e.right.surround (omega arith) (omega arith)), (near_ten 7 bottom f.left_top.two x.left.top (omega arith) some (e.left_top.two (omega arith) (omega arith) (omega arith)), (near_ten 7 bottom f.right_top.two x.right.top (omega arith) some (e.right_top.two (omega arith) (omega arith) (omega arith)), tt))))))))
near_channels L514 mode w bottom f x n some e = each_all (λ c. unsigned_abs (value_of (kind_of L514) f c *ℤ pos bottom -ℤ pos unit *ℤ channel_of x c) < 64 * bottom) (channels L514) (near_ten 1 bottom f.left.five x.left.front (omega arith) some (e.left.five (omega arith)), (near_ten 1 bottom f.right.five x.right.front (omega arith) some (e.right.five (omega arith)), (near_ten 1 bottom f.center x.center (omega arith) some (e.center (omega arith)), (near_ten 1 bottom f.low x.low (omega arith) some (e.low (omega arith)), (near_surround bottom f.left.surround x.left.surround some (e.left.surround (omega arith) (omega arith)), (near_surround bottom f.right.surround x.right.surround some (e.right.surround (omega arith) (omega arith)), (near_ten 1 bottom f.left_top.four x.left.top (omega arith) some (e.left_top.four (omega arith)), (near_ten 1 bottom f.right_top.four x.right.top (omega arith) some (e.right_top.four (omega arith)), (near_ten 13 bottom f.left_top.back x.left.top_back (omega arith) some (e.left_top.back (omega arith)), (near_ten 13 bottom f.right_top.back x.right.top_back (omega arith) some (e.right_top.back (omega arith)), tt))))))))))
near_channels L71 mode w bottom f x n some e = each_all (λ c. unsigned_abs (value_of (kind_of L71) f c *ℤ pos bottom -ℤ pos unit *ℤ channel_of x c) < 64 * bottom) (channels L71) (near_ten 1 bottom f.left.five x.left.front (omega arith) some (e.left.five (omega arith)), (near_ten 1 bottom f.right.five x.right.front (omega arith) some (e.right.five (omega arith)), (near_ten 1 bottom f.center x.center (omega arith) some (e.center (omega arith)), (near_ten 1 bottom f.low x.low (omega arith) some (e.low (omega arith)), (near_ten 17 bottom f.left.rear x.left.rear (omega arith) some (e.left.rear (omega arith)), (near_ten 17 bottom f.right.rear x.right.rear (omega arith) some (e.right.rear (omega arith)), (near_ten 1 bottom f.left.side x.left.side (omega arith) some (e.left.side (omega arith)), (near_ten 1 bottom f.right.side x.right.side (omega arith) some (e.right.side (omega arith)), tt))))))))
near_channels L712 mode w bottom f x n some e = each_all (λ c. unsigned_abs (value_of (kind_of L712) f c *ℤ pos bottom -ℤ pos unit *ℤ channel_of x c) < 64 * bottom) (channels L712) (near_ten 1 bottom f.left.five x.left.front (omega arith) some (e.left.five (omega arith)), (near_ten 1 bottom f.right.five x.right.front (omega arith) some (e.right.five (omega arith)), (near_ten 1 bottom f.center x.center (omega arith) some (e.center (omega arith)), (near_ten 1 bottom f.low x.low (omega arith) some (e.low (omega arith)), (near_ten 17 bottom f.left.rear x.left.rear (omega arith) some (e.left.rear (omega arith)), (near_ten 17 bottom f.right.rear x.right.rear (omega arith) some (e.right.rear (omega arith)), (near_ten 1 bottom f.left.side x.left.side (omega arith) some (e.left.side (omega arith)), (near_ten 1 bottom f.right.side x.right.side (omega arith) some (e.right.side (omega arith)), (near_ten 7 bottom f.left_top.two x.left.top (omega arith) some (e.left_top.two (omega arith) (omega arith) (omega arith)), (near_ten 7 bottom f.right_top.two x.right.top (omega arith) some (e.right_top.two (omega arith) (omega arith) (omega arith)), tt))))))))))
near_channels L714 mode w bottom f x n some e = each_all (λ c. unsigned_abs (value_of (kind_of L714) f c *ℤ pos bottom -ℤ pos unit *ℤ channel_of x c) < 64 * bottom) (channels L714) (near_ten 1 bottom f.left.five x.left.front (omega arith) some (e.left.five (omega arith)), (near_ten 1 bottom f.right.five x.right.front (omega arith) some (e.right.five (omega arith)), (near_ten 1 bottom f.center x.center (omega arith) some (e.center (omega arith)), (near_ten 1 bottom f.low x.low (omega arith) some (e.low (omega arith)), (near_ten 17 bottom f.left.rear x.left.rear (omega arith) some (e.left.rear (omega arith)), (near_ten 17 bottom f.right.rear x.right.rear (omega arith) some (e.right.rear (omega arith)), (near_ten 1 bottom f.left.side x.left.side (omega arith) some (e.left.side (omega arith)), (near_ten 1 bottom f.right.side x.right.side (omega arith) some (e.right.side (omega arith)), (near_ten 1 bottom f.left_top.four x.left.top (omega arith) some (e.left_top.four (omega arith)), (near_ten 1 bottom f.right_top.four x.right.top (omega arith) some (e.right_top.four (omega arith)), (near_ten 13 bottom f.left_top.back x.left.top_back (omega arith) some (e.left_top.back (omega arith)), (near_ten 13 bottom f.right_top.back x.right.top_back (omega arith) some (e.right_top.back (omega arith)), tt))))))))))))
near_channels L312 mode w bottom f x n some e = each_all (λ c. unsigned_abs (value_of (kind_of L312) f c *ℤ pos bottom -ℤ pos unit *ℤ channel_of x c) < 64 * bottom) (channels L312) (near_ten 5 bottom f.left.three x.left.front (omega arith) some (e.left.three (omega arith) (omega arith)), (near_ten 5 bottom f.right.three x.right.front (omega arith) some (e.right.three (omega arith) (omega arith)), (near_ten 1 bottom f.center x.center (omega arith) some (e.center (omega arith)), (near_ten 1 bottom f.low x.low (omega arith) some (e.low (omega arith)), (near_ten 1 bottom f.left_top.three x.left.top (omega arith) some (e.left_top.three (omega arith) (omega arith)), (near_ten 1 bottom f.right_top.three x.right.top (omega arith) some (e.right_top.three (omega arith) (omega arith)), tt))))))
near_channels Binaural mode w bottom f x n some e = absurd (n refl)

pub some_fits : KindSomeFits
some_fits kind target mode w y chain = exact_fits kind target mode w y chain

pub only_one_fits : KindOnlyOneFits
only_one_fits layout kind target mode w y a b x z chain small e n f g = same_channels layout mode w a b x z n (rw e at (fits_agree kind target mode w y a b x z chain small f g))

pub fixed_is_near : KindFixedIsNear
fixed_is_near layout kind target mode w y bottom x chain small e n f =
    rw e (near_channels layout mode w bottom (fixed kind (of mode) w y target) x n f.some (rw e at (fixed_held kind target mode w y bottom x chain small f target (omega arith))))

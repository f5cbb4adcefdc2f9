-- What a next layer carries says the same by the list of what it transmits and by kinds of channels.
use Rattle.std.proofs.Common.{arith, ◌≡◌, ◌≤◌, ◌<◌, ℕ, ℤ, ◌+◌, refl, ◌∙◌, Bool, true, false, ◌||◌, List, [], ◌++◌, length}
use Rattle.std.proofs.lemmas.List.{append_assoc, append-nil}
use Rattle.std.proofs.lemmas.Bool.Decides.{nat_tests}
use Rattle.std.proofs.lemmas.Bool.{cases_lt}
use Rattle.std.proofs.Math.Logic.{⊎_elim}
use Rattle.std.specs.Prelude.{◌==◌, ◌&&◌, nat_lt, if◌then◌else◌}
use Rattle.std.specs.Option.{option_map_or}
use Rattle.spec_layouts.specs.declared.Layout.{Layout}
use Rattle.spec_layouts.specs.declared.Layout.TheVariants.{Mono, Stereo, L51, L512, L514, L71, L712, L714, L312, Binaural}
use Rattle.spec_layouts.specs.declared.Channel.{Channel}
use Rattle.spec_layouts.specs.declared.Channel.TheVariants.{L, R, C, Lfe, Lss, Rss, Ltf, Rtf, Ltb, Rtb}
use Rattle.spec_layouts.specs.Layouts.{surround, height}
use Rattle.spec_layouts.specs.Transmitted.{row, both_of, next_pairs, next_singles}
use Rattle.spec_demix.specs.declared.DemixLayer.{DemixLayer}
use Rattle.spec_demix.specs.declared.Bed.{Bed}
use Rattle.spec_demix.specs.declared.Sent.{Sent}
use Rattle.spec_demix.specs.declared.Kind.{Kind}
use Rattle.spec_demix.specs.declared.Tops.{Tops}
use Rattle.spec_demix.specs.Kinds.{kind_of, reaches, gives_three, gives_two, gives_four, gives_back}
use Rattle.spec_demix.specs.Values.{value_of, single_of, top_of}
use Rattle.spec_demix.specs.Fits.{AllCarry, NextCarries, parts_of}
use Rattle.spec_demix.specs.OutputGains.{flag_if, factor_of, factor_on, has_gained_front, has_gained_top, flag_of_left, flag_of_left_top, flag_of_right_top}
use Rattle.spec_demix.specs.Sent.{bed_of, next_sent, count_if, plain_if, sent_if, next_side_at, next_top_at, next_back_at, next_center_at, next_stereo_at}
use Rattle.spec_demix.proofs.KindFits.{IsKind, NextCarriesAs}
use Rattle.spec_demix.proofs.CarriedRows.{CarriesAt, PairCarries, SingleCarries, Stands, sent_as, carried_as, pair_first, pair_joined, single_first, single_joined, pair_length}
use Rattle.spec_demix.proofs.FloorLemmas.{reached, passes, fails, three_given, two_given, four_given, back_given}

pub kind_is : (layout : Layout) → IsKind (kind_of layout)
kind_is Mono = record { high = omega arith; even = (λ h. omega arith, λ h. omega arith); low = λ h. omega arith; three = λ a b. omega arith }
kind_is Stereo = record { high = omega arith; even = (λ h. omega arith, λ h. omega arith); low = λ h. omega arith; three = λ a b. omega arith }
kind_is L51 = record { high = omega arith; even = (λ h. omega arith, λ h. omega arith); low = λ h. omega arith; three = λ a b. omega arith }
kind_is L512 = record { high = omega arith; even = (λ h. omega arith, λ h. omega arith); low = λ h. omega arith; three = λ a b. omega arith }
kind_is L514 = record { high = omega arith; even = (λ h. omega arith, λ h. omega arith); low = λ h. omega arith; three = λ a b. omega arith }
kind_is L71 = record { high = omega arith; even = (λ h. omega arith, λ h. omega arith); low = λ h. omega arith; three = λ a b. omega arith }
kind_is L712 = record { high = omega arith; even = (λ h. omega arith, λ h. omega arith); low = λ h. omega arith; three = λ a b. omega arith }
kind_is L714 = record { high = omega arith; even = (λ h. omega arith, λ h. omega arith); low = λ h. omega arith; three = λ a b. omega arith }
kind_is L312 = record { high = omega arith; even = (λ h. omega arith, λ h. omega arith); low = λ h. omega arith; three = λ a b. omega arith }
kind_is Binaural = record { high = omega arith; even = (λ h. omega arith, λ h. omega arith); low = λ h. omega arith; three = λ a b. omega arith }

-- where the flags of front and top channels act, by counts
front_gained : (layout : Layout) → 2 ≤ surround layout → has_gained_front layout ≡ nat_lt (surround layout) 5
front_gained Mono h = absurd (omega arith)
front_gained Stereo h = refl
front_gained L51 h = refl
front_gained L512 h = refl
front_gained L514 h = refl
front_gained L71 h = refl
front_gained L712 h = refl
front_gained L714 h = refl
front_gained L312 h = refl
front_gained Binaural h = absurd (omega arith)

top_gained : (layout : Layout) → 2 ≤ height layout → has_gained_top layout ≡ true
top_gained Mono h = absurd (omega arith)
top_gained Stereo h = absurd (omega arith)
top_gained L51 h = absurd (omega arith)
top_gained L512 h = refl
top_gained L514 h = refl
top_gained L71 h = absurd (omega arith)
top_gained L712 h = refl
top_gained L714 h = refl
top_gained L312 h = refl
top_gained Binaural h = absurd (omega arith)

-- the tests of the rows of tops, as counts that rise
tops_rise : (a b : Kind) → IsKind a → IsKind b → a.height ≤ b.height → ((a.height == 0 && nat_lt 0 b.height) || (a.height == 2 && b.height == 4)) ≡ nat_lt a.height b.height
tops_rise a b p q z = let e = p.even in let f = q.even in let h = p.high in let k = q.high in grind (arith, nat_tests)

backs_rise : (a b : Kind) → IsKind a → IsKind b → (a.height == 0 && b.height == 4) ≡ gives_back a b
backs_rise a b p q = let e = p.even in let f = q.even in let k = q.high in grind (arith, nat_tests)

reached_from : (count before now : ℕ) → reaches count before now ≡ true → (before < count) × (count ≤ now)
reached_from count before now e = (grind (arith, nat_tests), grind (arith, nat_tests))

abbrev pair_front : Channel × Channel
pair_front = (L, R)

abbrev pair_side : Channel × Channel
pair_side = (Lss, Rss)

abbrev pair_top : Channel × Channel
pair_top = (Ltf, Rtf)

abbrev pair_back : Channel × Channel
pair_back = (Ltb, Rtb)

pairs_are : (before now : Layout) → next_pairs before now
    ≡ row (reaches 5 (surround before) (surround now)) pair_front ++ (row (reaches 7 (surround before) (surround now)) pair_side
    ++ (row ((height before == 0 && nat_lt 0 (height now)) || (height before == 2 && height now == 4)) pair_top ++ row (height before == 0 && height now == 4) pair_back))
unfolding next_pairs
pairs_are before now =
    let front = row (reaches 5 (surround before) (surround now)) pair_front in
    let side = row (reaches 7 (surround before) (surround now)) pair_side in
    let top = row ((height before == 0 && nat_lt 0 (height now)) || (height before == 2 && height now == 4)) pair_top in
    let back = row (height before == 0 && height now == 4) pair_back in
    append_assoc (front ++ side) top back ∙ append_assoc front side (top ++ back)

singles_are : (before now : Layout) → next_singles before now
    ≡ row (reaches 3 (surround before) (surround now)) C ++ (row (reaches 3 (surround before) (surround now)) Lfe ++ row (reaches 2 (surround before) (surround now)) L)
unfolding next_singles
singles_are before now =
    append_assoc (row (reaches 3 (surround before) (surround now)) C) (row (reaches 3 (surround before) (surround now)) Lfe) (row (reaches 2 (surround before) (surround now)) L)

-- ---- the rows, each from its place on

pub record NextRows (before : Layout) (layer : DemixLayer) (bottom : ℕ) (coded : List ℤ) (at : ℕ) (v : Bed) : Type 0 where
  pub front : PairCarries (value_of (kind_of layer.layout) v) layer bottom coded at (reaches 5 (surround before) (surround layer.layout)) pair_front
  pub side : PairCarries (value_of (kind_of layer.layout) v) layer bottom coded (next_side_at (kind_of before) (kind_of layer.layout) at) (reaches 7 (surround before) (surround layer.layout)) pair_side
  pub top : PairCarries (value_of (kind_of layer.layout) v) layer bottom coded (next_top_at (kind_of before) (kind_of layer.layout) at) (nat_lt (height before) (height layer.layout)) pair_top
  pub back : PairCarries (value_of (kind_of layer.layout) v) layer bottom coded (next_back_at (kind_of before) (kind_of layer.layout) at) (gives_back (kind_of before) (kind_of layer.layout)) pair_back
  pub center : SingleCarries (single_of v) layer bottom coded (next_center_at (kind_of before) (kind_of layer.layout) at) (reaches 3 (surround before) (surround layer.layout)) C
  pub low : SingleCarries (single_of v) layer bottom coded (next_center_at (kind_of before) (kind_of layer.layout) at + count_if (reaches 3 (surround before) (surround layer.layout)) 1) (reaches 3 (surround before) (surround layer.layout)) Lfe
  pub stereo : SingleCarries (single_of v) layer bottom coded (next_stereo_at (kind_of before) (kind_of layer.layout) at) (reaches 2 (surround before) (surround layer.layout)) L

twice : (test : Bool) (n : ℕ) → (n + count_if test 1) + count_if test 1 ≡ n + count_if test 2
twice true n = omega arith
twice false n = omega arith

-- the rows of pairs take as many places as they have channels
pairs_end : (at : ℕ) (t5 t7 top back : Bool)
    → at + length (both_of (row t5 pair_front ++ (row t7 pair_side ++ (row top pair_top ++ row back pair_back)))) ≡ (((at + count_if t5 2) + count_if t7 2) + count_if top 2) + count_if back 2
pairs_end at t5 t7 top back =
    let d = pair_length back pair_back [] in
    let none = append-nil (row back pair_back) in
    let d' : length (both_of (row back pair_back)) ≡ count_if back 2 + 0 = rw none at d in
    let c = pair_length top pair_top (row back pair_back) in
    let b = pair_length t7 pair_side (row top pair_top ++ row back pair_back) in
    let a = pair_length t5 pair_front (row t7 pair_side ++ (row top pair_top ++ row back pair_back)) in
    omega arith

rows_of : (before : Layout) (layer : DemixLayer) (bottom : ℕ) (coded : List ℤ) (at : ℕ) (v : Bed) → height before ≤ height layer.layout
    → NextCarries before layer bottom coded at v → NextRows before layer bottom coded at v
rows_of before layer bottom coded at v z h =
    let now = layer.layout in
    let value = value_of (kind_of now) v in
    let t5 = reaches 5 (surround before) (surround now) in
    let t7 = reaches 7 (surround before) (surround now) in
    let t3 = reaches 3 (surround before) (surround now) in
    let t2 = reaches 2 (surround before) (surround now) in
    let given_top = (height before == 0 && nat_lt 0 (height now)) || (height before == 2 && height now == 4) in
    let given_back = height before == 0 && height now == 4 in
    let top_is = tops_rise (kind_of before) (kind_of now) (kind_is before) (kind_is now) z in
    let back_is = backs_rise (kind_of before) (kind_of now) (kind_is before) (kind_is now) in
    let end = pairs_end at t5 t7 given_top given_back in
    let listed = rw (pairs_are before now) at (rw (singles_are before now) at h) in
    let front = pair_first value layer bottom coded at t5 pair_front (row t7 pair_side ++ (row given_top pair_top ++ row given_back pair_back)) listed.0 in
    let side = pair_first value layer bottom coded (at + count_if t5 2) t7 pair_side (row given_top pair_top ++ row given_back pair_back) front.1 in
    let top = pair_first value layer bottom coded ((at + count_if t5 2) + count_if t7 2) given_top pair_top (row given_back pair_back) side.1 in
    let at_back = ((at + count_if t5 2) + count_if t7 2) + count_if given_top 2 in
    let last : AllCarry value layer bottom coded at_back (both_of (row given_back pair_back ++ [])) = rw (append-nil (row given_back pair_back)) top.1 in
    let back = pair_first value layer bottom coded at_back given_back pair_back [] last in
    let at_center = at_back + count_if given_back 2 in
    let singles : AllCarry (single_of v) layer bottom coded at_center (row t3 C ++ (row t3 Lfe ++ row t2 L)) = rw end at listed.1 in
    let center = single_first (single_of v) layer bottom coded at_center t3 C (row t3 Lfe ++ row t2 L) singles in
    let low = single_first (single_of v) layer bottom coded (at_center + count_if t3 1) t3 Lfe (row t2 L) center.1 in
    let at_stereo = (at_center + count_if t3 1) + count_if t3 1 in
    let single : AllCarry (single_of v) layer bottom coded at_stereo (row t2 L ++ []) = rw (append-nil (row t2 L)) low.1 in
    let stereo = single_first (single_of v) layer bottom coded at_stereo t2 L [] single in
    record {
      front = front.0;
      side = side.0;
      top = rw top_is at top.0;
      back = rw back_is at (rw top_is at back.0);
      center = rw back_is at (rw top_is at center.0);
      low = rw back_is at (rw top_is at low.0);
      stereo = rw back_is at (rw top_is at (rw (twice t3 at_center) at stereo.0));
    }

-- and the rows make the list again
list_of : (before : Layout) (layer : DemixLayer) (bottom : ℕ) (coded : List ℤ) (at : ℕ) (v : Bed) → height before ≤ height layer.layout
    → NextRows before layer bottom coded at v → NextCarries before layer bottom coded at v
list_of before layer bottom coded at v z r =
    let now = layer.layout in
    let value = value_of (kind_of now) v in
    let t5 = reaches 5 (surround before) (surround now) in
    let t7 = reaches 7 (surround before) (surround now) in
    let t3 = reaches 3 (surround before) (surround now) in
    let t2 = reaches 2 (surround before) (surround now) in
    let given_top = (height before == 0 && nat_lt 0 (height now)) || (height before == 2 && height now == 4) in
    let given_back = height before == 0 && height now == 4 in
    let top_is = tops_rise (kind_of before) (kind_of now) (kind_is before) (kind_is now) z in
    let back_is = backs_rise (kind_of before) (kind_of now) (kind_is before) (kind_is now) in
    let end = pairs_end at t5 t7 given_top given_back in
    let at_top = (at + count_if t5 2) + count_if t7 2 in
    let at_back = at_top + count_if given_top 2 in
    let at_center = at_back + count_if given_back 2 in
    let at_stereo = (at_center + count_if t3 1) + count_if t3 1 in
    let top : PairCarries value layer bottom coded at_top given_top pair_top = rw top_is r.top in
    let back : PairCarries value layer bottom coded at_back given_back pair_back = rw back_is (rw top_is r.back) in
    let center : SingleCarries (single_of v) layer bottom coded at_center t3 C = rw back_is (rw top_is r.center) in
    let low : SingleCarries (single_of v) layer bottom coded (at_center + count_if t3 1) t3 Lfe = rw back_is (rw top_is r.low) in
    let stereo : SingleCarries (single_of v) layer bottom coded at_stereo t2 L = rw (twice t3 at_center) (rw back_is (rw top_is r.stereo)) in
    let last : AllCarry value layer bottom coded at_back (both_of (row given_back pair_back)) =
    rw (append-nil (row given_back pair_back)) at (pair_joined value layer bottom coded at_back given_back pair_back [] back tt) in
    let tops = pair_joined value layer bottom coded at_top given_top pair_top (row given_back pair_back) top last in
    let sides = pair_joined value layer bottom coded (at + count_if t5 2) t7 pair_side (row given_top pair_top ++ row given_back pair_back) r.side tops in
    let single : AllCarry (single_of v) layer bottom coded at_stereo (row t2 L) = rw (append-nil (row t2 L)) at (single_joined (single_of v) layer bottom coded at_stereo t2 L [] stereo tt) in
    let lows = single_joined (single_of v) layer bottom coded (at_center + count_if t3 1) t3 Lfe (row t2 L) low single in
    rw (pairs_are before now) (rw (singles_are before now) (
      pair_joined value layer bottom coded at t5 pair_front (row t7 pair_side ++ (row given_top pair_top ++ row given_back pair_back)) r.front sides,
      rw end (single_joined (single_of v) layer bottom coded at_center t3 C (row t3 Lfe ++ row t2 L) center lows),
    ))

-- ---- which channel of all layouts a row's channel is, and which sample is sent for it

fives : (before : Layout) (layer : DemixLayer) (at : ℕ) (v : Bed) → surround before < 5 → 5 ≤ surround layer.layout
    → let sent = plain_if (reaches 5 (surround before) (surround layer.layout)) in
    Stands (value_of (kind_of layer.layout) v) layer L at v.left.five (sent at) × Stands (value_of (kind_of layer.layout) v) layer R (at + 1) v.right.five (sent (at + 1))
fives before layer at v a b =
    let g : has_gained_front layer.layout ≡ false = rw (front_gained layer.layout (omega arith)) (grind (arith, nat_tests)) in
    let t = reached 5 (surround before) (surround layer.layout) a b in
    let p = passes 5 (surround layer.layout) b in
    (record { parts = refl; channel_is = rw p refl; sample_is = rw t (rw g refl) }, record { parts = refl; channel_is = rw p refl; sample_is = rw t (rw g refl) })

-- a channel on which no flag acts
plain : (value : Channel → ℤ) (layer : DemixLayer) (channel : Channel) (at : ℕ) (test : Bool) → parts_of channel ≡ 10000000000 → factor_on layer channel ≡ 1000000000000 → test ≡ true
    → Stands value layer channel at (value channel) (plain_if test at)
plain value layer channel at test p f t = record { parts = p; channel_is = refl; sample_is = rw t (rw f refl) }

abbrev sent_at_place : ℕ → ℕ → Sent
sent_at_place at factor = record { place = at; factor = factor }

gained_if : (layer : DemixLayer) (at : ℕ) (test : Bool) → sent_at_place at (if test then factor_of layer flag_of_left else 1000000000000) ≡ sent_at_place at (option_map_or (λ flag. factor_of layer flag) (flag_if test flag_of_left) 1000000000000)
gained_if layer at true = refl
gained_if layer at false = refl

-- left of stereo
stereo_left : (before : Layout) (layer : DemixLayer) (at : ℕ) (v : Bed) → surround before < 2 → 2 ≤ surround layer.layout
    → Stands (single_of v) layer L at v.left.two (sent_if (reaches 2 (surround before) (surround layer.layout)) (if nat_lt (surround layer.layout) 5 then factor_of layer flag_of_left else 1000000000000) at)
stereo_left before layer at v a b =
    record { parts = refl; channel_is = refl; sample_is = rw (reached 2 (surround before) (surround layer.layout) a b) (rw (front_gained layer.layout b) (gained_if layer at (nat_lt (surround layer.layout) 5))) }

-- the front tops, which are of one of three kinds
tops : (layer : DemixLayer) (at : ℕ) (v : Bed) → 2 ≤ height layer.layout → (test : Bool) (left right : ℤ) → test ≡ true → top_of (kind_of layer.layout) v.left_top ≡ left → top_of (kind_of layer.layout) v.right_top ≡ right
    → Stands (value_of (kind_of layer.layout) v) layer Ltf at left (sent_if test (factor_of layer flag_of_left_top) (at + 0))
    × Stands (value_of (kind_of layer.layout) v) layer Rtf (at + 1) right (sent_if test (factor_of layer flag_of_right_top) (at + 1))
tops layer at v h test left right t is_left is_right =
    let none : at + 0 ≡ at = omega arith in
    let g = top_gained layer.layout h in
    (record { parts = refl; channel_is = is_left; sample_is = rw none (rw t (rw g refl)) }, record { parts = refl; channel_is = is_right; sample_is = rw t (rw g refl) })

top_is_three : (kind : Kind) (t : Tops) → IsKind kind → kind.surround < 5 → top_of kind t ≡ t.three
top_is_three kind t k s =
    let low = k.low in let three = k.three in
    let h : kind.height < 4 = ⊎_elim (λ a. let e = low a in omega arith) (λ a. let e = three a s in omega arith) (cases_lt kind.surround 3) in
    rw (fails 4 kind.height h) (rw (fails 5 kind.surround s) refl)

top_is_two : (kind : Kind) (t : Tops) → kind.height < 4 → 5 ≤ kind.surround → top_of kind t ≡ t.two
top_is_two kind t h s = rw (fails 4 kind.height h) (rw (passes 5 kind.surround s) refl)

top_is_four : (kind : Kind) (t : Tops) → 4 ≤ kind.height → top_of kind t ≡ t.four
top_is_four kind t h = rw (passes 4 kind.height h) refl

-- what a next layer sends for its front tops, by the kind that they are of
pub record TopRows (before : Layout) (layer : DemixLayer) (at : ℕ) (v : Bed) : Type 0 where
  pub three : height before < 2 → 2 ≤ height layer.layout → surround layer.layout < 5
      → let test = gives_three (kind_of before) (kind_of layer.layout) in
      Stands (value_of (kind_of layer.layout) v) layer Ltf at v.left_top.three (sent_if test (factor_of layer flag_of_left_top) (at + 0))
      × Stands (value_of (kind_of layer.layout) v) layer Rtf (at + 1) v.right_top.three (sent_if test (factor_of layer flag_of_right_top) (at + 1))
  pub two : height before < 2 → 2 ≤ height layer.layout → height layer.layout < 4 → 5 ≤ surround layer.layout
      → let test = gives_two (kind_of before) (kind_of layer.layout) in
      Stands (value_of (kind_of layer.layout) v) layer Ltf at v.left_top.two (sent_if test (factor_of layer flag_of_left_top) (at + 0))
      × Stands (value_of (kind_of layer.layout) v) layer Rtf (at + 1) v.right_top.two (sent_if test (factor_of layer flag_of_right_top) (at + 1))
  pub four : height before < 4 → 4 ≤ height layer.layout
      → let test = gives_four (kind_of before) (kind_of layer.layout) in
      Stands (value_of (kind_of layer.layout) v) layer Ltf at v.left_top.four (sent_if test (factor_of layer flag_of_left_top) (at + 0))
      × Stands (value_of (kind_of layer.layout) v) layer Rtf (at + 1) v.right_top.four (sent_if test (factor_of layer flag_of_right_top) (at + 1))

top_rows : (before : Layout) (layer : DemixLayer) (at : ℕ) (v : Bed) → TopRows before layer at v
top_rows before layer at v =
    let b = kind_of before in
    let n = kind_of layer.layout in
    let k = kind_is layer.layout in
    record {
      three = λ l m s. tops layer at v m (gives_three b n) v.left_top.three v.right_top.three (three_given b n l m s) (top_is_three n v.left_top k s) (top_is_three n v.right_top k s);
      two = λ l m g s. tops layer at v m (gives_two b n) v.left_top.two v.right_top.two (two_given b n l m g s) (top_is_two n v.left_top g s) (top_is_two n v.right_top g s);
      four = λ l m. tops layer at v (omega arith) (gives_four b n) v.left_top.four v.right_top.four (four_given b n l m) (top_is_four n v.left_top m) (top_is_four n v.right_top m);
    }

-- a channel that stands on the left comes with no offset
from_left : {value : Channel → ℤ} {layer : DemixLayer} {channel : Channel} {w : ℤ} (at : ℕ) (sent : ℕ → Sent) → Stands value layer channel at w (sent at) → Stands value layer channel at w (sent (at + 0))
from_left at sent s = let e : at + 0 ≡ at = omega arith in rw e s

back_left : (before : Layout) (layer : DemixLayer) (at : ℕ) (v : Bed) → (t : gives_back (kind_of before) (kind_of layer.layout) ≡ true)
    → Stands (value_of (kind_of layer.layout) v) layer Ltb at v.left_top.back (plain_if (gives_back (kind_of before) (kind_of layer.layout)) (at + 0))
back_left before layer at v t =
    let test = gives_back (kind_of before) (kind_of layer.layout) in
    from_left at (λ i. plain_if test i) (plain (value_of (kind_of layer.layout) v) layer Ltb at test refl refl t)

pub next_by_kinds : (before : Layout) (layer : DemixLayer) (bottom : ℕ) (coded : List ℤ) (at : ℕ) (v : Bed) → height before ≤ height layer.layout
    → NextCarries before layer bottom coded at v → NextCarriesAs (kind_of before) (kind_of layer.layout) bottom v (bed_of coded (next_sent (kind_of before) layer at))
next_by_kinds before layer bottom coded at v z h =
    let s = surround before in
    let now = layer.layout in
    let b = kind_of before in
    let n = kind_of now in
    let value = value_of n v in
    let r = rows_of before layer bottom coded at v z h in
    let top = top_rows before layer (next_top_at b n at) v in
    let at_side = next_side_at b n at in
    let at_back = next_back_at b n at in
    let at_center = next_center_at b n at in
    let t3 = reached 3 s (surround now) in
    let t7 = reached 7 s (surround now) in
    let rises : (i : ℕ) → b.height < i → i ≤ n.height → nat_lt (height before) (height now) ≡ true = λ i l m. grind (arith, nat_tests) in
    let low_at : (l : s < 3) (m : 3 ≤ surround now) → at_center + count_if (reaches 3 s (surround now)) 1 ≡ at_center + 1 = λ l m. rw (t3 l m) refl in
    record {
      stereo = λ l m. sent_as bottom coded (stereo_left before layer (next_stereo_at b n at) v l m) (r.stereo (reached 2 s (surround now) l m));
      center = λ l m. sent_as bottom coded (plain (single_of v) layer C at_center (reaches 3 s (surround now)) refl refl (t3 l m)) (r.center (t3 l m));
      low = λ l m. sent_as bottom coded (plain (single_of v) layer Lfe (at_center + 1) (reaches 3 s (surround now)) refl refl (t3 l m)) (rw (low_at l m) at (r.low (t3 l m)));
      left = record {
        five = λ l m. sent_as bottom coded (fives before layer at v l m).0 (r.front (reached 5 s (surround now) l m)).0;
        side = λ l m. sent_as bottom coded (plain value layer Lss at_side (reaches 7 s (surround now)) refl refl (t7 l m)) (r.side (t7 l m)).0;
      };
      right = record {
        five = λ l m. sent_as bottom coded (fives before layer at v l m).1 (r.front (reached 5 s (surround now) l m)).1;
        side = λ l m. sent_as bottom coded (plain value layer Rss (at_side + 1) (reaches 7 s (surround now)) refl refl (t7 l m)) (r.side (t7 l m)).1;
      };
      left_top = record {
        three = λ l m g. sent_as bottom coded (top.three l m g).0 (r.top (rises 2 l m)).0;
        two = λ l m f g. sent_as bottom coded (top.two l m f g).0 (r.top (rises 2 l m)).0;
        four = λ l m. sent_as bottom coded (top.four l m).0 (r.top (rises 4 l m)).0;
        back = λ l m. sent_as bottom coded (back_left before layer at_back v (back_given b n l m)) (r.back (back_given b n l m)).0;
      };
      right_top = record {
        three = λ l m g. sent_as bottom coded (top.three l m g).1 (r.top (rises 2 l m)).1;
        two = λ l m f g. sent_as bottom coded (top.two l m f g).1 (r.top (rises 2 l m)).1;
        four = λ l m. sent_as bottom coded (top.four l m).1 (r.top (rises 4 l m)).1;
        back = λ l m. sent_as bottom coded (plain value layer Rtb (at_back + 1) (gives_back b n) refl refl (back_given b n l m)) (r.back (back_given b n l m)).1;
      };
    }

pub next_by_lists : (before : Layout) (layer : DemixLayer) (bottom : ℕ) (coded : List ℤ) (at : ℕ) (v : Bed) → height before ≤ height layer.layout
    → NextCarriesAs (kind_of before) (kind_of layer.layout) bottom v (bed_of coded (next_sent (kind_of before) layer at)) → NextCarries before layer bottom coded at v
next_by_lists before layer bottom coded at v z c =
    let s = surround before in
    let now = layer.layout in
    let b = kind_of before in
    let n = kind_of now in
    let value = value_of n v in
    let k = kind_is now in
    let at_side = next_side_at b n at in
    let at_top = next_top_at b n at in
    let at_back = next_back_at b n at in
    let at_center = next_center_at b n at in
    let top = top_rows before layer at_top v in
    let Both : Type 0 = CarriesAt value layer bottom coded at_top Ltf × CarriesAt value layer bottom coded (at_top + 1) Rtf in
    let threes : b.height < 2 → 2 ≤ n.height → n.surround < 5 → Both = λ l m g. let t = top.three l m g in
    (carried_as bottom coded t.0 (c.left_top.three l m g), carried_as bottom coded t.1 (c.right_top.three l m g)) in
    let twos : b.height < 2 → 2 ≤ n.height → n.height < 4 → 5 ≤ n.surround → Both = λ l m f g. let t = top.two l m f g in
    (carried_as bottom coded t.0 (c.left_top.two l m f g), carried_as bottom coded t.1 (c.right_top.two l m f g)) in
    let fours : b.height < 4 → 4 ≤ n.height → Both = λ l m. let t = top.four l m in
    (carried_as bottom coded t.0 (c.left_top.four l m), carried_as bottom coded t.1 (c.right_top.four l m)) in
    list_of before layer bottom coded at v z (record {
      front = λ t. let f = reached_from 5 s (surround now) t in let p = fives before layer at v f.0 f.1 in
          (carried_as bottom coded p.0 (c.left.five f.0 f.1), carried_as bottom coded p.1 (c.right.five f.0 f.1));
      side = λ t. let f = reached_from 7 s (surround now) t in (
        carried_as bottom coded (plain value layer Lss at_side (reaches 7 s (surround now)) refl refl t) (c.left.side f.0 f.1),
        carried_as bottom coded (plain value layer Rss (at_side + 1) (reaches 7 s (surround now)) refl refl t) (c.right.side f.0 f.1),
      );
      top = λ t.
          let some : b.height < n.height = grind (arith, nat_tests) in
          let e = k.even in
          ⊎_elim (λ g. let m : 2 ≤ n.height = ⊎_elim (λ a. let x = e.0 a in omega arith) (λ a. a) (cases_lt n.height 2) in
          let l : b.height < 2 = ⊎_elim (λ a. let x = e.1 a in omega arith) (λ a. omega arith) (cases_lt 2 n.height) in
          ⊎_elim (λ f. threes l m f) (λ f. twos l m g f) (cases_lt n.surround 5))
          (λ m. let l : b.height < 4 = (let h = k.high in omega arith) in fours l m) (cases_lt n.height 4);
      back = λ t.
          let l : b.height < 2 = grind (arith, nat_tests) in
          let m : 4 ≤ n.height = grind (arith, nat_tests) in (
            carried_as bottom coded (back_left before layer at_back v t) (c.left_top.back l m),
            carried_as bottom coded (plain value layer Rtb (at_back + 1) (gives_back b n) refl refl t) (c.right_top.back l m),
          );
      center = λ t. let f = reached_from 3 s (surround now) t in
          carried_as bottom coded (plain (single_of v) layer C at_center (reaches 3 s (surround now)) refl refl t) (c.center f.0 f.1);
      low = λ t. let f = reached_from 3 s (surround now) t in
          rw t (carried_as bottom coded (plain (single_of v) layer Lfe (at_center + 1) (reaches 3 s (surround now)) refl refl t) (c.low f.0 f.1));
      stereo = λ t. let f = reached_from 2 s (surround now) t in
          carried_as bottom coded (stereo_left before layer (next_stereo_at b n at) v f.0 f.1) (c.stereo f.0 f.1);
    })

-- The channels of a target need no coded samples past the first ones.
use Rattle.std.proofs.Common.{arith, ◌≡◌, ◌≤◌, ℕ, zero, suc, ℤ, pos, ◌*ℤ◌, false, refl, sym, ap, subst, ◌∙◌, List, [], ◌∷◌, ◌++◌, append-nil, length, Option, Some, None}
use Rattle.std.specs.List.{list_any}
use Rattle.std.proofs.lemmas.Bool.{not-false}
use Rattle.std.proofs.lemmas.List.{get_or_append_left}
use Rattle.spec_layouts.specs.declared.Layout.{Layout}
use Rattle.spec_layouts.specs.Layouts.{channels}
use Rattle.spec_gains.specs.Modes.{Coefficients}
use Rattle.spec_gains.proofs.GainLemmas.{gain_most}
use Rattle.spec_descriptors.specs.Layers.{OutputGainFields, LayerFields}
use Rattle.spec_descriptors.specs.AudioElement.{ConfigFields, Scalable, Ambisonics, Other}
use Rattle.spec_demix.specs.declared.Kind.{Kind}
use Rattle.spec_demix.specs.declared.Sent.{Sent}
use Rattle.spec_demix.specs.declared.SentSide.{SentSide}
use Rattle.spec_demix.specs.declared.SentTops.{SentTops}
use Rattle.spec_demix.specs.declared.SentBed.{SentBed}
use Rattle.spec_demix.specs.declared.Side.{Side}
use Rattle.spec_demix.specs.declared.Tops.{Tops}
use Rattle.spec_demix.specs.declared.Bed.{Bed}
use Rattle.spec_demix.specs.Elements.{layer_of, demix_layers_of}
use Rattle.spec_demix.specs.Sent.{sample_of, side_of, tops_of, bed_of, layer_at, kinds_of, place_after, sent_at, sent_by}
use Rattle.spec_demix.specs.Sizes.{AreModest}
use Rattle.spec_demix.specs.Values.{value_of}
use Rattle.spec_demix.specs.FixedWalk.{bed_units, bed_after, fixed}
use Rattle.demix_channels.specs.Room.{IsSentWithin, AreSidesWithin, AreTopsWithin, AreWithin}
use Rattle.demix_channels.proofs.Standing.{sent_within}
use Rattle.spec_play.specs.declared.target.Target.{Target}
use Rattle.spec_play.specs.declared.target.Target.TheVariants as target
use Rattle.spec_play.specs.DemixingOverTime.{Parameters}
use Rattle.spec_play.specs.UsedLayers.{is_of, layers_up_to, used_layers, last_of, channel_of_layout}
use Rattle.spec_play.specs.Selection.{lacks_layer, is_output_gain_above}
use Rattle.spec_play.specs.Exact.{coefficients_or_none}
use Rattle.spec_play.specs.FixedMix.{fixed_channel_in}
use Rattle.spec_play.specs.Laws.{IsHearable, HasChain}
use Rattle.spec_play.proofs.ChainsUpTo.{last_has, layers_allowed}
use Rattle.spec_play.proofs.Tests.{neither}
use Rattle.iamf_channels.specs.Needed.{needed}
use Rattle.iamf_channels.proofs.UsedKernels.{not_above}

-- ---- what is sent stands among the first coded samples

same_sample : (front rest : List ℤ) (sent : Sent) → IsSentWithin (length front) sent → sample_of (front ++ rest) sent ≡ sample_of front sent
same_sample front rest sent h = ap (λ y. y *ℤ pos sent.factor) (get_or_append_left front rest (pos 0) sent.place h.place)

same_side : (front rest : List ℤ) (sent : SentSide) → AreSidesWithin (length front) sent → side_of (front ++ rest) sent ≡ side_of front sent
same_side front rest sent h =
    let two = same_sample front rest sent.two h.two in
    let three = same_sample front rest sent.three h.three in
    let five = same_sample front rest sent.five h.five in
    let surround = same_sample front rest sent.surround h.surround in
    let side = same_sample front rest sent.side h.side in
    let rear = same_sample front rest sent.rear h.rear in
    rw (two, three, five, surround, side, rear) refl

same_tops : (front rest : List ℤ) (sent : SentTops) → AreTopsWithin (length front) sent → tops_of (front ++ rest) sent ≡ tops_of front sent
same_tops front rest sent h =
    let three = same_sample front rest sent.three h.three in
    let two = same_sample front rest sent.two h.two in
    let four = same_sample front rest sent.four h.four in
    let back = same_sample front rest sent.back h.back in
    rw (three, two, four, back) refl

abbrev bed_with : (mono center low : ℤ) → (left right : Side) → (left_top right_top : Tops) → Bed
bed_with mono center low left right left_top right_top = record { mono = mono; center = center; low = low; left = left; right = right; left_top = left_top; right_top = right_top }

same_parts : {m m' c c' l l' : ℤ} {a a' b b' : Side} {x x' y y' : Tops} → m ≡ m' → c ≡ c' → l ≡ l' → a ≡ a' → b ≡ b' → x ≡ x' → y ≡ y' → bed_with m c l a b x y ≡ bed_with m' c' l' a' b' x' y'
same_parts m c l a b x y = rw (m, c, l, a, b, x, y) refl

same_bed : (front rest : List ℤ) (sent : SentBed) → AreWithin (length front) sent → bed_of (front ++ rest) sent ≡ bed_of front sent
same_bed front rest sent h =
    let mono = same_sample front rest sent.mono h.mono in
    let center = same_sample front rest sent.center h.center in
    let low = same_sample front rest sent.low h.low in
    let left = same_side front rest sent.left h.left in
    let right = same_side front rest sent.right h.right in
    let left_top = same_tops front rest sent.left_top h.left_top in
    let right_top = same_tops front rest sent.right_top h.right_top in
    same_parts mono center low left right left_top right_top

-- ---- the walk

same_walk : (kind : ℕ → Kind) (mode : Coefficients) (w : ℕ) (y z : ℕ → Bed) (j : ℕ) → ((i : ℕ) → i ≤ j → y i ≡ z i) → fixed kind mode w y j ≡ fixed kind mode w z j
same_walk kind mode w y z zero e = ap bed_units (e 0 (omega arith))
same_walk kind mode w y z (suc j) e =
    ap (λ bed. bed_after (kind j) (kind (suc j)) mode w bed (bed_units (y (suc j)))) (same_walk kind mode w y z j (λ i h. e i (omega arith)))
    ∙ ap (λ bed. bed_after (kind j) (kind (suc j)) mode w (fixed kind mode w z j) (bed_units bed)) (e (suc j) (omega arith))

small_factor : (layout : Layout) (gain : Option OutputGainFields) → is_output_gain_above gain ≡ false → (layer_of layout gain).factor ≤ 39810717055340
small_factor layout None e = omega arith
small_factor layout (Some output) e = gain_most output.output_gain (not_above output.output_gain e)

small_factors : (layers : List LayerFields) → list_any (λ (layer : LayerFields). is_output_gain_above layer.gain) layers ≡ false → (j : ℕ) → (layer_at (demix_layers_of layers) j).factor ≤ 39810717055340
small_factors [] e j = omega arith
small_factors (layer ∷ layers) e zero = small_factor layer.loudspeaker_layout layer.gain (neither _ _ e).0
small_factors (layer ∷ layers) e (suc j) = small_factors layers (neither (is_output_gain_above layer.gain) _ e).1 j

-- ---- a channel

-- nothing of the coded samples is left out but what the layers above a layout's own transmit
abbrev pub IsFront : Target → List ℤ → Type 0
IsFront (target.Layer layout) rest = Unit {0}
IsFront target.Scene rest = rest ≡ []

pub same_channel_in : (played : Target) (config : ConfigFields) (p : Parameters) (front rest : List ℤ) (c : ℕ) → IsHearable played → HasChain config → lacks_layer played config ≡ false
    → list_any (λ (layer : LayerFields). is_output_gain_above layer.gain) (used_layers played config) ≡ false → needed played config ≤ length front → IsFront played rest
    → fixed_channel_in played config p front c ≡ fixed_channel_in played config p (front ++ rest) c
same_channel_in (target.Layer layout) (Scalable layers) p front rest c hearable chain there low enough is =
    let some = not-false (list_any (is_of layout) layers) there in
    let up = layers_up_to layout layers in
    let kernel = demix_layers_of up in
    let last = last_of up in
    let allowed = layers_allowed layout layers (λ e. hearable (ap (λ l. target.Layer l) e)) chain some in
    let modest : AreModest kernel last = λ j h. small_factors up low j in
    let room : place_after kernel last ≤ length front = subst (λ l. length (channels l) ≤ length front) (sym (last_has layout layers some)) enough in
    let mode = coefficients_or_none p.mode in
    ap (λ bed. value_of (kinds_of kernel last) bed (channel_of_layout layout c))
    (sym (same_walk (kinds_of kernel) mode p.weight (sent_by kernel (front ++ rest)) (sent_by kernel front) last (λ j h. same_bed front rest (sent_at kernel j) (sent_within kernel last (length front) j allowed modest room h))))
same_channel_in target.Scene (Ambisonics config) p front rest c hearable chain there low enough is =
    ap (λ ys. fixed_channel_in target.Scene (Ambisonics config) p ys c) (sym (ap (λ (ys : List ℤ). front ++ ys) is ∙ append-nil front))
same_channel_in (target.Layer layout) (Ambisonics config) p front rest c hearable chain there low enough is = refl
same_channel_in (target.Layer layout) (Other kind bytes) p front rest c hearable chain there low enough is = refl
same_channel_in target.Scene (Scalable layers) p front rest c hearable chain there low enough is = refl
same_channel_in target.Scene (Other kind bytes) p front rest c hearable chain there low enough is = refl

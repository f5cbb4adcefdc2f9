-- The channels of the WAV file of a rendition that is played.
use Rattle.std.proofs.Common.{arith, ◌≡◌, ◌<◌, ℕ, refl, sym, ap, subst, ◌∙◌, false, List, [], ◌∷◌, length, Some, lit≤, ◌||◌, nat_lt}
use Rattle.std.specs.Prelude.{slice_get}
use Rattle.spec_layouts.specs.declared.Layout.{Layout}
use Rattle.spec_layouts.specs.declared.Layout.TheVariants.{Mono, Stereo, L51, L512, L514, L71, L712, L714, L312, Binaural}
use Rattle.spec_layouts.specs.Layouts.{channels}
use Rattle.spec_descriptors.specs.Ambisonics.{AmbisonicsFields}
use Rattle.spec_descriptors.specs.AudioElement.{ConfigFields, Scalable, Ambisonics, Other, AudioElementFields}
use Rattle.spec_demix.specs.Scenes.{outputs_of}
use Rattle.spec_rules.specs.Units.{is_none_of}
use Rattle.spec_waves.specs.Wave.{Shape}
use Rattle.spec_play.specs.declared.target.Target.{Target}
use Rattle.spec_play.specs.declared.target.Target.TheVariants as target
use Rattle.spec_play.specs.Mixes.{MixedElement, Rendition}
use Rattle.spec_sequence.specs.Reading.{values_of}
use Rattle.spec_play.specs.Waves.{outputs_in, output_counts, first_count, channel_count, wave_shape}
use Rattle.spec_play.specs.Selection.{is_for_other, is_unknown, coded_channels}
use Rattle.spec_play.specs.Laws.{IsPlayable}
use Rattle.spec_play.proofs.Tests.{Each, neither}
use Rattle.spec_play.proofs.SelectedMixes.{is_selected}
use Rattle.iamf_select.specs.PlanView.{PlanValue, IsSelected}
use Rattle.iamf_select.proofs.Plans.{plan_is_playable}
use Rattle.iamf_play.proofs.Renditions.{target_is}
use Rattle.spec_demix.proofs.SceneOutputs.{IsCount, HasCount}

pub some_elements : (r : Rendition) → IsPlayable r → 0 < length r.elements
some_elements r playable = one r.elements (neither (is_none_of r.elements) (nat_lt 28 (length r.elements) || nat_lt 28 (coded_channels r.elements)) (is_selected r playable.selected).shape).0
  where
    one : (ms : List MixedElement) → is_none_of ms ≡ false → 0 < length ms
    one [] e = absurd (cc)
    one (m ∷ ms) e = omega arith

pub layout_count : (layout : Layout) → IsCount (length (channels layout))
layout_count Mono = (lit≤ tt, lit≤ tt)
layout_count Stereo = (lit≤ tt, lit≤ tt)
layout_count L51 = (lit≤ tt, lit≤ tt)
layout_count L512 = (lit≤ tt, lit≤ tt)
layout_count L514 = (lit≤ tt, lit≤ tt)
layout_count L71 = (lit≤ tt, lit≤ tt)
layout_count L712 = (lit≤ tt, lit≤ tt)
layout_count L714 = (lit≤ tt, lit≤ tt)
layout_count L312 = (lit≤ tt, lit≤ tt)
layout_count Binaural = (lit≤ tt, lit≤ tt)

-- the first element of a scene is an ambisonics element, and the file has a channel for each of its outputs
pub record IsScene (ms : List MixedElement) (m : MixedElement) : Type 0 where
  pub config : AmbisonicsFields
  pub config_is : m.element.config ≡ Ambisonics config
  pub count : first_count (output_counts ms) ≡ outputs_of config

scene_of : (config : ConfigFields) (x : MixedElement) (ms : List MixedElement) → x.element.config ≡ config → is_for_other target.Scene config ≡ false → is_unknown config ≡ false → IsScene (x ∷ ms) x
scene_of (Scalable layers) x ms is suits known = absurd (cc)
scene_of (Ambisonics config) x ms is suits known = record { config = config; config_is = is; count = rw is refl }
scene_of (Other kind bytes) x ms is suits known = absurd (cc)

first_of_scene : (ms : List MixedElement) (m : MixedElement) → slice_get ms 0 ≡ Some m → Each (λ m. is_for_other target.Scene m.element.config ≡ false) ms → Each (λ m. is_unknown m.element.config ≡ false) ms → IsScene ms m
first_of_scene [] m there suits known = absurd (cc)
first_of_scene (x ∷ ms) m there suits known = let same : x ≡ m = cc in subst (λ y. IsScene (x ∷ ms) y) same (scene_of x.element.config x ms refl suits.0 known.0)

pub scene_first : (r : Rendition) (m : MixedElement) → IsPlayable r → r.target ≡ target.Scene → slice_get r.elements 0 ≡ Some m → IsScene r.elements m
scene_first r m playable scene there =
    let s = is_selected r playable.selected in
    first_of_scene r.elements m there (subst (λ (t : Target). Each (λ (m : MixedElement). is_for_other t m.element.config ≡ false) r.elements) scene s.others) s.known

-- ---- of a plan

pub target_of : (p : PlanValue) (r : Rendition) → IsSelected p r → r.target ≡ p.target
target_of p r is = target_is (values_of p.sequence.entries) p.mix p.target r is.heard_is

pub layer_count : (p : PlanValue) (r : Rendition) (layout : Layout) → IsSelected p r → target.Layer layout ≡ p.target → length (channels layout) ≡ (wave_shape r).channels
layer_count p r layout is e = ap (λ (t : Target). channel_count t r.elements) (e ∙ sym (target_of p r is))

of_element : (p : PlanValue) (r : Rendition) (m : MixedElement) → IsSelected p r → target.Scene ≡ p.target → slice_get r.elements 0 ≡ Some m → IsScene r.elements m
of_element p r m is e there = scene_first r m (plan_is_playable p r is) (target_of p r is ∙ sym e) there

one_output : (el : AudioElementFields) (config : AmbisonicsFields) (outputs : ℕ) → el.config ≡ Ambisonics config → outputs ∷ [] ≡ outputs_in el.config → outputs ≡ outputs_of config
one_output el config outputs is e = let same : outputs ∷ [] ≡ outputs_of config ∷ [] = e ∙ ap outputs_in is in cc

pub scene_count : (p : PlanValue) (r : Rendition) (m : MixedElement) (el : AudioElementFields) (outputs : ℕ) → IsSelected p r → target.Scene ≡ p.target → slice_get r.elements 0 ≡ Some m → m.element ≡ el → outputs ∷ [] ≡ outputs_in el.config → outputs ≡ (wave_shape r).channels
scene_count p r m el outputs is e there same found =
    let scene = of_element p r m is e there in
    one_output el scene.config outputs (ap (λ (x : AudioElementFields). x.config) (sym same) ∙ scene.config_is) found
    ∙ sym scene.count ∙ ap (λ (t : Target). channel_count t r.elements) (e ∙ sym (target_of p r is))

pub scene_few : (p : PlanValue) (r : Rendition) (m : MixedElement) (el : AudioElementFields) (outputs : ℕ) → IsSelected p r → target.Scene ≡ p.target → slice_get r.elements 0 ≡ Some m → m.element ≡ el → HasCount el.config → outputs ∷ [] ≡ outputs_in el.config → IsCount outputs
scene_few p r m el outputs is e there same counted found =
    let scene = of_element p r m is e there in
    let config_is = ap (λ (x : AudioElementFields). x.config) (sym same) ∙ scene.config_is in
    subst IsCount (sym (one_output el scene.config outputs config_is found)) (subst HasCount config_is counted)

pub scene_some : (p : PlanValue) (r : Rendition) (m : MixedElement) (el : AudioElementFields) → IsSelected p r → target.Scene ≡ p.target → slice_get r.elements 0 ≡ Some m → m.element ≡ el → [] ≡ outputs_in el.config → ⊥
scene_some p r m el is e there same found =
    let scene = of_element p r m is e there in
    let none : [] ≡ outputs_of scene.config ∷ [] = found ∙ ap outputs_in (ap (λ (x : AudioElementFields). x.config) (sym same) ∙ scene.config_is) in
    absurd (cc)

pub no_fewer : (p : PlanValue) (r : Rendition) → IsSelected p r → 0 < length r.elements
no_fewer p r is = some_elements r (plan_is_playable p r is)

pub same_shape : (a b : Shape) → a.channels ≡ b.channels → a.mask ≡ b.mask → a.rate ≡ b.rate → a.depth ≡ b.depth → a.frames ≡ b.frames → a ≡ b
same_shape a b c m r d f =
    ap (λ (x : ℕ). let s : Shape = record { channels = x; mask = a.mask; rate = a.rate; depth = a.depth; frames = a.frames } in s) c
    ∙ ap (λ (x : ℕ). let s : Shape = record { channels = b.channels; mask = x; rate = a.rate; depth = a.depth; frames = a.frames } in s) m
    ∙ ap (λ (x : ℕ). let s : Shape = record { channels = b.channels; mask = b.mask; rate = x; depth = a.depth; frames = a.frames } in s) r
    ∙ ap (λ (x : ℕ). let s : Shape = record { channels = b.channels; mask = b.mask; rate = b.rate; depth = x; frames = a.frames } in s) d
    ∙ ap (λ (x : ℕ). let s : Shape = record { channels = b.channels; mask = b.mask; rate = b.rate; depth = b.depth; frames = x } in s) f

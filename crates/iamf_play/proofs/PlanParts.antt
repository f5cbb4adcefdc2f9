-- The elements of a plan before the first unit.
use Rattle.std.proofs.Common.{◌≡◌, ℕ, sym, ap, subst, ◌∙◌, false, List, [], ◌∷◌, map, Some}
use Rattle.std.specs.Prelude.{slice_get}
use Rattle.std.proofs.lemmas.Option.{get_or_from_slice_get, slice_get_within}
use Rattle.spec_syntax.specs.Payload.{IsValid}
use Rattle.spec_descriptors.specs.AudioElement.{AudioElementFields, audio_element}
use Rattle.spec_descriptors.specs.ElementFields.{audio_element_fields}
use Rattle.spec_descriptors.specs.MixGain.{MixGainFields}
use Rattle.obu_mix_elements.specs.MixGainView.{view_mix_gain}
use Rattle.spec_play.specs.declared.target.Target.{Target}
use Rattle.spec_play.specs.Mixes.{MixedElement, Rendition}
use Rattle.spec_play.specs.Selection.{is_gain_above}
use Rattle.spec_play.proofs.Tests.{Each, each_front, each_at}
use Rattle.spec_play.proofs.SelectedMixes.{is_selected}
use Rattle.iamf_sequence.specs.SequenceValue.{SequenceValue}
use Rattle.iamf_channels.specs.Heard.{ChannelsValue, IsHeard}
use Rattle.iamf_select.specs.PlanView.{PlanValue, IsSelected}
use Rattle.iamf_select.proofs.Plans.{plan_is_playable}
use Rattle.iamf_play.specs.declared.element.PlayedElement.{PlayedElement}
use Rattle.iamf_play.specs.Gains.{IsReady}
use Rattle.iamf_play.specs.PlayedElements.{IsPart}
use Rattle.iamf_play.proofs.Renditions.{short_unit}
use Rattle.iamf_play.proofs.PlanShapes.{target_of}

pub heard_in : (p : PlanValue) (r : Rendition) (i : ℕ) (m : MixedElement) (el : AudioElementFields) → IsSelected p r → slice_get r.elements i ≡ Some m → m.element ≡ el
    → ((n : ℕ) × IsValid (audio_element n) audio_element_fields el) → IsHeard p.sequence el p.target r
heard_in p r i m el is there same valid = record { mix = p.mix; heard_is = is.heard_is; playable = plan_is_playable p r is; place = i; mixed = m; there = there; element_is = same; valid = valid }

each_got : {A : Type 0} (P : A → Type 0) (xs : List A) (i : ℕ) (x : A) → slice_get xs i ≡ Some x → Each P xs → P x
each_got P xs i x there all = subst P (get_or_from_slice_get xs i x x there) (each_at P xs i x (slice_get_within xs i x there) all)

each_mapped : {A B : Type 0} (P : B → Type 0) (f : A → B) (xs : List A) → Each P (map f xs) → Each (λ x. P (f x)) xs
each_mapped P f [] all = tt
each_mapped P f (x ∷ xs) all = (all.0, each_mapped P f xs all.1)

gain_low : (r : Rendition) (p : PlanValue) (i : ℕ) (m : MixedElement) → IsSelected p r → slice_get r.elements i ≡ Some m → is_gain_above r m.gain ≡ false
gain_low r p i m is there =
    let gains = (is_selected r (plan_is_playable p r is).selected).gains in
    each_got (λ (x : MixedElement). is_gain_above r x.gain ≡ false) r.elements i m there
    (each_mapped (λ g. is_gain_above r g ≡ false) (λ (x : MixedElement). x.gain) r.elements (each_front (λ g. is_gain_above r g ≡ false) (map (λ (x : MixedElement). x.gain) r.elements) (r.output ∷ []) gains))

same_got : {X : Type 0} (xs : List X) (i : ℕ) (x y : X) → slice_get xs i ≡ Some x → slice_get xs i ≡ Some y → x ≡ y
same_got xs i x y a b = let e : Some x ≡ Some y = sym a ∙ b in cc

-- what stands in an element that was made of a plan's
pub record IsMade (p : PlanValue) (el : AudioElementFields) (gain : MixGainFields) (new : PlayedElement) : Type 0 where
  pub channels : new.channels ≡ record { sequence = p.sequence; element = el; target = p.target; begun = 0 }
  pub gain_is : view_mix_gain new.gains.gain.now ≡ gain

pub made_part : (p : PlanValue) (r : Rendition) (i : ℕ) (m a b : MixedElement) (el : AudioElementFields) (gain : MixGainFields) (new : PlayedElement) → IsSelected p r → slice_get r.elements i ≡ Some m
    → slice_get r.elements i ≡ Some a → a.element ≡ el → ((n : ℕ) × IsValid (audio_element n) audio_element_fields el) → slice_get r.elements i ≡ Some b → b.gain ≡ gain → IsMade p el gain new → IsReady r new.gains 0 → IsPart p.sequence r m 0 new
made_part p r i m a b el gain new is there there_a a_is valid there_b b_is made ready =
    let element_is : m.element ≡ el = ap (λ (x : MixedElement). x.element) (same_got r.elements i m a there there_a) ∙ a_is in
    let gain_is : m.gain ≡ gain = ap (λ (x : MixedElement). x.gain) (same_got r.elements i m b there there_b) ∙ b_is in
    let target = target_of p r is in
    record {
      heard = subst (λ (t : Target). IsHeard p.sequence m.element t r) (sym target) (subst (λ (e : AudioElementFields). IsHeard p.sequence e p.target r) (sym element_is) (heard_in p r i m el is there element_is valid));
      channels = made.channels ∙ ap (λ (e : AudioElementFields). let v : ChannelsValue = record { sequence = p.sequence; element = e; target = p.target; begun = 0 } in v) (sym element_is)
          ∙ ap (λ (t : Target). let v : ChannelsValue = record { sequence = p.sequence; element = m.element; target = t; begun = 0 } in v) (sym target);
      gain = made.gain_is ∙ sym gain_is;
      ready = ready;
      low = gain_low r p i m is there;
      short = short_unit p.sequence.bytes p.sequence.entries p.mix p.target r is.read is.heard_is;
    }

pub made_channels : (p : PlanValue) (s : SequenceValue) (el : AudioElementFields) (t : Target) (v : ChannelsValue) → v ≡ record { sequence = s; element = el; target = t; begun = 0 } → s ≡ p.sequence → t ≡ p.target
    → v ≡ record { sequence = p.sequence; element = el; target = p.target; begun = 0 }
made_channels p s el t v made same_s same_t =
    made ∙ ap (λ (x : SequenceValue). let w : ChannelsValue = record { sequence = x; element = el; target = t; begun = 0 } in w) same_s
    ∙ ap (λ (x : Target). let w : ChannelsValue = record { sequence = p.sequence; element = el; target = x; begun = 0 } in w) same_t

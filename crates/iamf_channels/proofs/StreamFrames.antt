-- The frame that the code finds, and decodes by what it keeps of the codec config.
use Rattle.std.proofs.Common.{◌≡◌, ℕ, IsTrue, List, Option, Some, None, sym, ap, subst, ◌∙◌}
use Rattle.std.specs.Prelude.{◌==◌, find}
use Rattle.std.specs.Borrow.{Bor}
use Rattle.spec_samples.specs.Lpcm.{is_depth}
use Rattle.spec_descriptors.specs.CodecConfig.{CodecConfigFields}
use Rattle.spec_sequence.specs.ValueRole.{role_of_codec}
use Rattle.spec_sequence.specs.Parts.{FrameValue, UnitValue}
use Rattle.spec_play.specs.CodedSamples.{frame_sample}
use Rattle.spec_play.specs.Laws.{IsCodedBy}
use Rattle.obu_data.specs.declared.frame.FrameView.{FrameView}
use Rattle.obu_codec_config.specs.declared.codec_config.CodecConfig.{CodecConfig}
use Rattle.obu_codec_config.specs.CodecView.{StandsForCoding, StandsForCodec}
use Rattle.iamf_sequence.specs.UnitView.{view_frame, frame_with, FindsFrame}
use Rattle.iamf_channels.specs.Decoded.{IsStream, IsFrameBy, sample_by}
use Rattle.iamf_channels.proofs.CodedFrames.{coded_by, same_samples}

pub found_is : (unit v : UnitValue) (frame : FrameValue) (substream : ℕ) (o : Option (Bor FrameView)) (f : Bor FrameView) → unit ≡ v → find (λ (g : FrameValue). g.substream == substream) unit.frames ≡ Some frame
    → FindsFrame o (frame_with substream v.frames) → o ≡ Some f → frame ≡ view_frame f.now
found_is unit v frame substream o f same found finds is =
    let g : frame_with substream v.frames ≡ Some (view_frame f.now) = subst (λ (x : Option (Bor FrameView)). FindsFrame x (frame_with substream v.frames)) is finds in
    let h : frame_with substream v.frames ≡ Some frame = subst (λ (x : UnitValue). frame_with substream x.frames ≡ Some frame) same found in
    cc

pub not_missing : (unit v : UnitValue) (frame : FrameValue) (substream : ℕ) (o : Option (Bor FrameView)) → unit ≡ v → find (λ (g : FrameValue). g.substream == substream) unit.frames ≡ Some frame
    → FindsFrame o (frame_with substream v.frames) → o ≡ None → ⊥
not_missing unit v frame substream o same found finds is =
    let g : frame_with substream v.frames ≡ None = subst (λ (x : Option (Bor FrameView)). FindsFrame x (frame_with substream v.frames)) is finds in
    let h : frame_with substream v.frames ≡ Some frame = subst (λ (x : UnitValue). frame_with substream x.frames ≡ Some frame) same found in
    cc

stands : (kept : CodecConfig) (c k : CodecConfigFields) → c ≡ k → StandsForCodec kept k → StandsForCoding kept.coding c.coding
stands kept c k same h = subst (λ (x : CodecConfigFields). StandsForCoding kept.coding x.coding) (sym same) h.coding_is

pub frame_by_code : (kept : CodecConfig) (c k : CodecConfigFields) (frame_length channels : ℕ) (bytes : List ℕ) → c ≡ k → StandsForCodec kept k → IsTrue (is_depth (role_of_codec c).depth) → IsStream channels → IsCodedBy c channels bytes
    → frame_length ≡ c.num_samples_per_frame → IsFrameBy kept.coding frame_length channels bytes
frame_by_code kept c k frame_length channels bytes same h deep few coded e =
    subst (λ (n : ℕ). IsFrameBy kept.coding n channels bytes) (sym e) (coded_by kept.coding c.coding c.codec_config_id c.num_samples_per_frame channels bytes (stands kept c k same h) deep few coded)

pub samples_by_code : (kept : CodecConfig) (c k : CodecConfigFields) (frame_length channels : ℕ) (bytes : List ℕ) (n i : ℕ) → c ≡ k → StandsForCodec kept k → frame_length ≡ c.num_samples_per_frame
    → sample_by kept.coding frame_length channels bytes n i ≡ frame_sample c channels bytes n i
samples_by_code kept c k frame_length channels bytes n i same h e =
    ap (λ (m : ℕ). sample_by kept.coding m channels bytes n i) e ∙ same_samples kept.coding c.coding c.codec_config_id c.num_samples_per_frame channels bytes n i (stands kept c k same h)

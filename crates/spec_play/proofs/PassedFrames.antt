-- What the rules have tested of each frame of an admitted list: its bytes and its trims, and that its unit has no other of its substream.
use Rattle.std.proofs.Common.{◌≡◌, ℕ, ◌+◌, ◌≤◌, Bool, true, false, not, ◌&&◌, ◌||◌, cond, eqb, ltb, List, [], ◌∷◌, ◌++◌, map, refl, sym, ap, ap₂, subst, ◌∙◌, append-nil, eqb-true, arith}
use Rattle.std.specs.Prelude.{None}
use Rattle.std.specs.List.{flat_map, list_any}
use Rattle.std.proofs.lemmas.Bool.{or_parts, and_parts, not-false, ltb-false}
use Rattle.std.proofs.lemmas.List.{map-append}
use Rattle.spec_obu.specs.declared.trim.Trim.{Trim}
use Rattle.spec_values.specs.declared.fault.Fault.TheVariants.{UnitFrame}
use Rattle.spec_values.specs.declared.fault.Fault.TheVariants as fault
use Rattle.spec_rules.specs.Role.{Role, CodecConfig, AudioElement, AudioFrame, FrameRole}
use Rattle.spec_rules.specs.Descriptors.{codec_of, pairs_of, codecs, substreams, frame_length, channels_in, channels_of}
use Rattle.spec_rules.specs.Units.{contains, are_apart, is_data, unit_after, streams_in, trims_in, trims_before}
use Rattle.spec_rules.specs.Rules.{first_of, codec_tests, same_trim, keeps, cuts, has_bad_trim, fault_after}
use Rattle.spec_rules.specs.Admitted.{HasNoFault, IsAdmitted}
use Rattle.spec_rules.proofs.Basics.{flat_map-push_none}
use Rattle.spec_rules.proofs.NoFault.{when_none, codec_before, element_before, frame_none}
use Rattle.spec_rules.proofs.Ranks.{no_data-order}
use Rattle.spec_rules.proofs.DescriptorLists.{codecs-push_none, frame_length-push}
use Rattle.spec_rules.proofs.DistinctIds.{apart_push}
use Rattle.spec_rules.proofs.UnitLists.{in_unit-none}
use Rattle.spec_rules.proofs.Lawful.{no_data-push, by_all}
use Rattle.spec_sequence.specs.Parts.{FrameValue, first_trim}
use Rattle.spec_play.proofs.Tests.{Each, each_both, each_like}
use Rattle.spec_sequence.proofs.FramesOfUnits.{frame_of_role, frames_in, frames_in-push, streams_are, trims_are}

-- ---- one frame

pub record Passes (l : List Role) (f : FrameValue) : Type 0 where
  pub coded : first_of (codec_tests (codecs l) (channels_of l f.substream) f.bytes) ≡ None
  pub short : f.trim.start + f.trim.end ≤ frame_length l

-- what a fault that does not come tells of a frame after the list
record FrameFits (l : List Role) (f : FrameRole) : Type 0 where
  coded : first_of (codec_tests (codecs l) (channels_of l f.substream) f.bytes) ≡ None
  short : f.trim.start + f.trim.end ≤ frame_length l
  alike : list_any (λ other. not (same_trim other f.trim)) (trims_in (unit_after l (AudioFrame f)) l) ≡ false
  new : contains (streams_in (unit_after l (AudioFrame f)) l) f.substream ≡ false

codec_row : (l : List Role) (f : FrameRole) → fault_after l (AudioFrame f) ≡ None → first_of (codec_tests (codecs l) (channels_of l f.substream) f.bytes) ≡ None
unfolding fault_after
codec_row l f h =
    let u : ℕ = unit_after l (AudioFrame f) in
    let rows = when_none (not (contains (substreams l) f.substream) || contains (streams_in u l) f.substream) UnitFrame _ h in
    (when_none (has_bad_trim l u f.trim) fault.Trim _ rows.1).1

abbrev too_long : List Role → Trim → Bool
too_long l trim = ltb (frame_length l) (trim.start + trim.end)

abbrev is_other : List Role → ℕ → Trim → Bool
is_other l u trim = list_any (λ other. not (same_trim other trim)) (trims_in u l)

abbrev is_early : List Role → ℕ → Trim → Bool
is_early l u trim = ltb 0 trim.start && list_any (keeps (frame_length l)) (trims_before u l)

frame_fits : (l : List Role) (f : FrameRole) → fault_after l (AudioFrame f) ≡ None → FrameFits l f
frame_fits l f h =
    let u : ℕ = unit_after l (AudioFrame f) in
    let none = frame_none l f h in
    let three : (too_long l f.trim || is_other l u f.trim || is_early l u f.trim) ≡ false = (or_parts _ (list_any cuts (trims_before u l)) none.2).0 in
    let two : (too_long l f.trim || is_other l u f.trim) ≡ false = (or_parts _ (is_early l u f.trim) three).0 in
    let trims = or_parts (too_long l f.trim) (is_other l u f.trim) two in
    record {
      coded = codec_row l f h;
      short = ltb-false (frame_length l) (f.trim.start + f.trim.end) trims.0;
      alike = trims.1;
      new = none.1;
    }

-- ---- the frames of a unit

abbrev AreAlike : List FrameValue → Type 0
AreAlike fs = Each (λ f. f.trim ≡ first_trim fs) fs

pub record ArePassed (l : List Role) (fs : List FrameValue) : Type 0 where
  pub all : Each (Passes l) fs
  pub alike : AreAlike fs
  pub apart : are_apart (map (λ f. f.substream) fs) ≡ true

same_of : (a b : Trim) → not (same_trim a b) ≡ false → a ≡ b
same_of a b e =
    let both = and_parts (eqb a.end b.end) (eqb a.start b.start) (not-false (same_trim a b) e) in
    ap₂ (λ (end start : ℕ). record { end = end; start = start }) (eqb-true a.end b.end both.0) (eqb-true a.start b.start both.1)

alike_push : (fs : List FrameValue) (f : FrameValue) → AreAlike fs → list_any (λ other. not (same_trim other f.trim)) (map (λ g. g.trim) fs) ≡ false → AreAlike (fs ++ f ∷ [])
alike_push [] f alike none = (refl, tt)
alike_push (g ∷ gs) f alike none =
    let first = or_parts (not (same_trim g.trim f.trim)) (list_any (λ other. not (same_trim other f.trim)) (map (λ (x : FrameValue). x.trim) gs)) none in
    each_both (λ (x : FrameValue). x.trim ≡ g.trim) (g ∷ gs) (f ∷ []) alike (sym (same_of g.trim f.trim first.0), tt)

abbrev value_of : FrameRole → FrameValue
value_of f = record { substream = f.substream; trim = f.trim; bytes = f.bytes }

passed_push : (l : List Role) (f : FrameRole) (u : ℕ) → ArePassed l (frames_in u l) → FrameFits l f → unit_after l (AudioFrame f) ≡ u → ArePassed l (frames_in u l ++ value_of f ∷ [])
passed_push l f u passed fits here = record {
  all = each_both (Passes l) (frames_in u l) (value_of f ∷ []) passed.all (record { coded = fits.coded; short = fits.short }, tt);
  alike = alike_push (frames_in u l) (value_of f) passed.alike
      (ap (list_any (λ other. not (same_trim other f.trim))) (sym (trims_are u l)) ∙ subst (λ v. list_any (λ other. not (same_trim other f.trim)) (trims_in v l) ≡ false) here fits.alike);
  apart = ap are_apart (map-append (λ (g : FrameValue). g.substream) (frames_in u l) (value_of f ∷ []))
      ∙ apart_push (map (λ g. g.substream) (frames_in u l)) f.substream passed.apart
      (ap (λ (ss : List ℕ). contains ss f.substream) (sym (streams_are u l)) ∙ subst (λ v. contains (streams_in v l) f.substream ≡ false) here fits.new);
}

frame_more : (l : List Role) (f : FrameRole) (u : ℕ) → ArePassed l (frames_in u l) → FrameFits l f → ArePassed l (frames_in u (l ++ AudioFrame f ∷ []))
frame_more l f u passed fits = subst (ArePassed l) (sym (frames_in-push u l (AudioFrame f))) (one (eqb (unit_after l (AudioFrame f)) u) refl) where
  one : (b : Bool) → eqb (unit_after l (AudioFrame f)) u ≡ b → ArePassed l (frames_in u l ++ flat_map frame_of_role (cond b (AudioFrame f ∷ []) []))
  one true here = passed_push l f u passed fits (eqb-true (unit_after l (AudioFrame f)) u here)
  one false other = subst (ArePassed l) (sym (append-nil (frames_in u l))) passed

no_frame : (l : List Role) (o : Role) (u : ℕ) → frame_of_role o ≡ [] → frames_in u (l ++ o ∷ []) ≡ frames_in u l
no_frame l o u none = frames_in-push u l o ∙ ap (λ (fs : List FrameValue). frames_in u l ++ fs) (alone (is_data o && eqb (unit_after l o) u)) ∙ append-nil (frames_in u l) where
  alone : (b : Bool) → flat_map frame_of_role (cond b (o ∷ []) []) ≡ []
  alone true = rw none refl
  alone false = refl

-- ---- one more OBU

channels-push_none : (l : List Role) (o : Role) (s : ℕ) → pairs_of o ≡ [] → channels_of (l ++ o ∷ []) s ≡ channels_of l s
unfolding channels_of
channels-push_none l o s none = ap (λ (ps : List (ℕ × ℕ)). channels_in ps s) (flat_map-push_none pairs_of l o none)

passes_more : (l : List Role) (o : Role) → codec_of o ≡ [] → pairs_of o ≡ [] → (f : FrameValue) → Passes l f → Passes (l ++ o ∷ []) f
passes_more l o codec pairs f h = record {
  coded = rw (codecs-push_none l o codec, channels-push_none l o f.substream pairs) h.coded;
  short = rw (frame_length-push l o codec) h.short;
}

-- an OBU that is neither a codec config nor an element
passed_more : (l : List Role) (o : Role) → codec_of o ≡ [] → pairs_of o ≡ [] → (fs : List FrameValue) → ArePassed l fs → ArePassed (l ++ o ∷ []) fs
passed_more l o codec pairs fs h = record { all = each_like (Passes l) (Passes (l ++ o ∷ [])) (passes_more l o codec pairs) fs h.all; alike = h.alike; apart = h.apart }

quiet_more : (l : List Role) (o : Role) (u : ℕ) → codec_of o ≡ [] → pairs_of o ≡ [] → frame_of_role o ≡ [] → ArePassed l (frames_in u l) → ArePassed (l ++ o ∷ []) (frames_in u (l ++ o ∷ []))
quiet_more l o u codec pairs none h = passed_more l o codec pairs (frames_in u (l ++ o ∷ [])) (subst (ArePassed l) (sym (no_frame l o u none)) h)

none_passed : (l : List Role) (u : ℕ) → list_any is_data l ≡ false → ArePassed l (frames_in u l)
none_passed l u none = subst (ArePassed l) (sym (ap (flat_map frame_of_role) (in_unit-none u l none))) (record { all = tt; alike = tt; apart = refl })

abbrev HavePassed : List Role → Type 0
HavePassed l = (u : ℕ) → ArePassed l (frames_in u l)

have_more : (l : List Role) (o : Role) → HavePassed l → HasNoFault l o → HavePassed (l ++ o ∷ [])
have_more l (CodecConfig c) have none u = none_passed (l ++ CodecConfig c ∷ []) u (no_data-push l (CodecConfig c) refl (no_data-order l 2 (omega arith) (codec_before l none.early)))
have_more l (AudioElement e) have none u = none_passed (l ++ AudioElement e ∷ []) u (no_data-push l (AudioElement e) refl (no_data-order l 3 (omega arith) (element_before l none.early)))
have_more l (AudioFrame f) have none u = passed_more l (AudioFrame f) refl refl (frames_in u (l ++ AudioFrame f ∷ [])) (frame_more l f u (have u) (frame_fits l f none.late))
have_more l o have none u = quiet_more l o u refl refl refl (have u)

pub frames_passed : (l : List Role) → IsAdmitted l → (u : ℕ) → ArePassed l (frames_in u l)
frames_passed l h = by_all HavePassed (λ u. none_passed [] u refl) have_more l h

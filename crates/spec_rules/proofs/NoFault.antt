-- What a fault that does not come tells, of the rows of a table and of each kind of OBU.
use Rattle.std.proofs.Common.{◌≡◌, ℕ, ◌-◌, Bool, true, false, not, ◌&&◌, ◌||◌, cond, List, [], ◌∷◌, ◌++◌, refl, map}
use Rattle.std.specs.Prelude.{Option, Some, None}
use Rattle.std.specs.List.{list_any}
use Rattle.std.proofs.lemmas.Bool.{or_parts, not-false}
use Rattle.spec_values.specs.declared.fault.Fault.{Fault}
use Rattle.spec_values.specs.declared.fault.Fault.TheVariants.{Order, Repeated, SecondSequence, UnitFrame, UnitShort}
use Rattle.spec_values.specs.declared.fault.Fault.TheVariants as fault
use Rattle.spec_obu.specs.declared.obu_type.ObuType.TheVariants as kind
use Rattle.spec_rules.specs.declared.codec_role.CodecRole.{CodecRole}
use Rattle.spec_rules.specs.Role.{ElementRole, FrameRole, Role, CodecConfig, AudioElement, Delimiter, AudioFrame}
use Rattle.spec_rules.specs.Descriptors.{profiles, codecs, substreams}
use Rattle.spec_rules.specs.Units.{contains, is_none_of, is_delimiter, is_delimited, unit_after, streams_in, is_complete}
use Rattle.spec_rules.specs.Rules.{when, first_of, repeated, is_out_of_order, element_ids, has_bad_trim, fault_before, fault_after, unknown}
use Rattle.spec_rules.proofs.Basics.{none_of}

-- ---- rows

pub row_none : (x : Option Fault) (rows : List (Option Fault)) → first_of (x ∷ rows) ≡ None → (x ≡ None) × (first_of rows ≡ None)
row_none (Some f) rows h = absurd cc
row_none None rows h = (refl, h)

pub when_none : (b : Bool) (f : Fault) (rows : List (Option Fault)) → first_of (when b f ∷ rows) ≡ None → (b ≡ false) × (first_of rows ≡ None)
when_none true f rows h = absurd cc
when_none false f rows h = (refl, h)

pub last_none : (rows : List (Option Fault)) (b : Bool) (f : Fault) → first_of (rows ++ when b f ∷ []) ≡ None → b ≡ false
last_none [] b f h = (when_none b f [] h).0
last_none (None ∷ rows) b f h = last_none rows b f h
last_none (Some x ∷ rows) b f h = absurd cc

-- what is tested is there
pub is_there : (b : Bool) (f : Fault) → when (not b) f ≡ None → b ≡ true
is_there true f h = refl
is_there false f h = absurd cc

-- ---- before the payload

pub header_before : (l : List Role) → fault_before l kind.SequenceHeader ≡ None → is_none_of (profiles l) ≡ true
unfolding fault_before
header_before l h = not-false (is_none_of (profiles l)) (when_none (not (is_none_of (profiles l))) SecondSequence [] h).0

pub codec_before : (l : List Role) → fault_before l kind.CodecConfig ≡ None → is_out_of_order l 2 ≡ false
unfolding fault_before
codec_before l h = (when_none (is_out_of_order l 2) Order [] h).0

pub element_before : (l : List Role) → fault_before l kind.AudioElement ≡ None → is_out_of_order l 3 ≡ false
unfolding fault_before
element_before l h = (when_none (is_out_of_order l 3) Order [] h).0

pub mix_before : (l : List Role) → fault_before l kind.MixPresentation ≡ None → is_out_of_order l 4 ≡ false
unfolding fault_before
mix_before l h = (when_none (is_out_of_order l 4) Order [] h).0

-- ---- after the payload

pub codec_none : (l : List Role) (c : CodecRole) → fault_after l (CodecConfig c) ≡ None → codecs l ≡ []
unfolding fault_after
codec_none l c h = none_of (codecs l) (not-false (is_none_of (codecs l)) (when_none (not (is_none_of (codecs l))) (Repeated c.id) [] h).0)

unrepeated : (known : List ℕ) (id : ℕ) → repeated known (id ∷ []) ≡ None → contains known id ≡ false
unrepeated known id h = one (contains known id) h where
  one : (b : Bool) → cond b (Some (Repeated id)) None ≡ None → b ≡ false
  one true e = absurd cc
  one false e = refl

-- the ids of an element and of its substreams are new, and its codec config is known
pub element_none : (l : List Role) (e : ElementRole) → fault_after l (AudioElement e) ≡ None
    → (contains (element_ids l) e.id ≡ false) × (repeated (substreams l) e.substreams ≡ None) × (unknown (map (λ c. c.id) (codecs l)) (e.codec ∷ []) ≡ None)
unfolding fault_after
element_none l e h =
    let ids = row_none (repeated (element_ids l) (e.id ∷ [])) _ h in
    let streams = row_none (repeated (substreams l) e.substreams) _ ids.1 in
    (unrepeated (element_ids l) e.id ids.0, streams.0, (row_none (unknown (map (λ c. c.id) (codecs l)) (e.codec ∷ [])) _ streams.1).0)

-- a delimiter is the first data OBU or stands after one, and the unit before it is complete
pub delimiter_none : (l : List Role) → fault_after l Delimiter ≡ None → (is_delimited (l ++ Delimiter ∷ []) ≡ true) × ((list_any is_delimiter l && not (is_complete (unit_after l Delimiter - 1) l)) ≡ false)
unfolding fault_after
delimiter_none l h =
    let rows = when_none (not (is_delimited (l ++ Delimiter ∷ []))) fault.Delimiter _ h in
    (not-false (is_delimited (l ++ Delimiter ∷ [])) rows.0, (when_none (list_any is_delimiter l && not (is_complete (unit_after l Delimiter - 1) l)) UnitShort [] rows.1).0)

-- a frame is of a known substream, the first of it in the unit, and its trim is allowed
pub frame_none : (l : List Role) (f : FrameRole) → fault_after l (AudioFrame f) ≡ None
    → (contains (substreams l) f.substream ≡ true) × (contains (streams_in (unit_after l (AudioFrame f)) l) f.substream ≡ false) × (has_bad_trim l (unit_after l (AudioFrame f)) f.trim ≡ false)
unfolding fault_after
frame_none l f h =
    let u : ℕ = unit_after l (AudioFrame f) in
    let rows = when_none (not (contains (substreams l) f.substream) || contains (streams_in u l) f.substream) UnitFrame _ h in
    let parts = or_parts (not (contains (substreams l) f.substream)) (contains (streams_in u l) f.substream) rows.0 in
    (not-false (contains (substreams l) f.substream) parts.0, parts.1, (when_none (has_bad_trim l u f.trim) fault.Trim _ rows.1).0)

-- The units of a whole sequence, by the roles of its OBUs.
use Rattle.std.proofs.Common.{◌≡◌, ℕ, ◌<◌, List, map, subst, sym, ap, ◌∙◌}
use Rattle.std.specs.Prelude.{Some, slice_get}
use Rattle.std.proofs.lemmas.Option.{slice_get-get_or}
use Rattle.spec_values.specs.Value.{ObuValue}
use Rattle.spec_rules.specs.Units.{streams_in, unit_count}
use Rattle.spec_sequence.specs.Parts.{roles_of, FrameValue, unit_value, temporal_units}
use Rattle.spec_sequence.proofs.FramesOfUnits as frames
use Rattle.spec_sequence.proofs.FramesOfUnits.{unit_frames, length-units, unit_at}

pub streams_are : (u : ℕ) (s : List ObuValue) → streams_in u (roles_of s) ≡ map (λ f. f.substream) (unit_value u s).frames
streams_are u s = frames.streams_are u (roles_of s) ∙ ap (λ (fs : List FrameValue). map (λ f. f.substream) fs) (unit_frames u s)

-- a unit by its number
pub unit_is : (s : List ObuValue) (u : ℕ) → u < unit_count (roles_of s) → slice_get (temporal_units s) u ≡ Some (unit_value u s)
unit_is s u below =
    slice_get-get_or (temporal_units s) u (unit_value u s) (subst (λ (n : ℕ). u < n) (sym (length-units s)) below)
    ∙ ap (λ v. Some v) (unit_at s u (unit_value u s) below)

-- The samples that no trim leaves out (IAMF 1.0.0, "Trimming").
use Rattle.std.specs.Prelude.{ℕ, zero, suc, ◌+◌, ◌-◌, List, [], ◌∷◌}
use Rattle.spec_obu.specs.declared.trim.Trim.{Trim}
use Rattle.spec_rules.specs.Role.{Role}
use Rattle.spec_rules.specs.Descriptors.{frame_length}
use Rattle.spec_rules.specs.Units.{trims_in, unit_count}

-- the samples of a channel that a unit keeps: its trims are those of its first frame
abbrev pub kept_by : ℕ → List Trim → ℕ
kept_by length [] = 0
kept_by length (t ∷ ts) = length - (t.start + t.end)

abbrev pub kept_in : List Role → ℕ → ℕ
kept_in l u = kept_by (frame_length l) (trims_in u l)

-- the samples of a channel that the first so many units keep
abbrev pub kept_up_to : List Role → ℕ → ℕ
kept_up_to l zero = 0
kept_up_to l (suc u) = kept_up_to l u + kept_in l u

unfoldable pub kept : List Role → ℕ
kept l = kept_up_to l (unit_count l)

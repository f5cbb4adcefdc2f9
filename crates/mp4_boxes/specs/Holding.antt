-- Which types of OBUs may stand in what holds them.
use Rattle.std.specs.Prelude.{ℕ, Bool}
use Rattle.spec_boxes.specs.ObuLists.{in_config, in_sample}
use Rattle.mp4_boxes.specs.declared.obus.Holder.{Holder}
use Rattle.mp4_boxes.specs.declared.obus.Holder.TheVariants.{Configuration, Sample}

abbrev pub may_hold : Holder → ℕ → Bool
may_hold Configuration kind = in_config kind
may_hold Sample kind = in_sample kind

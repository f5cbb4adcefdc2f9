use Rattle.std.proofs.Common.{◌≡◌, ℕ, ◌<◌, ◌≤◌, get_or}
use Rattle.iamf_sequence.specs.declared.unit.Unit.{Unit}
use Rattle.iamf_sequence.specs.UnitView.{SortsTo}
use Rattle.iamf_sequence.proofs.decoding.sort_units.Given as goal

abbrev pub invariant-loop-unit : goal.invariant-loop-unit
invariant-loop-unit l = record {
  done : (i : ℕ) (d : Unit) → i < l.unit-index → SortsTo (get_or l.initial.units i d) (get_or l.units i d);
  rest : (i : ℕ) (d : Unit) → l.unit-index ≤ i → get_or l.units i d ≡ get_or l.initial.units i d;
}

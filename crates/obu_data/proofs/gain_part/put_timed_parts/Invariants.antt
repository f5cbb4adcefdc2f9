use Rattle.std.proofs.Common.{◌≡◌, ◌++◌}
use Rattle.spec_syntax.specs.Payload.{canon}
use Rattle.spec_syntax.specs.Repetition.{joined}
use Rattle.spec_blocks.specs.BlockFieldLists.{timed_gain_fields}
use Rattle.spec_syntax.specs.Fitting.{AllFit}
use Rattle.obu_data.specs.BlockView.{pairs}
use Rattle.obu_data.proofs.gain_part.put_timed_parts.Given as goal

-- what is put, and what is left, make the whole
abbrev pub invariant-loop-duration : goal.invariant-loop-duration
invariant-loop-duration l =
    (l.out.used ≡ 0)
    × AllFit (joined timed_gain_fields (pairs l.duration-iterator.a.rest.now l.duration-iterator.b.rest.now))
    × (l.out.bits ++ canon (joined timed_gain_fields (pairs l.duration-iterator.a.rest.now l.duration-iterator.b.rest.now)) ≡ l.fn.out.bits ++ canon (joined timed_gain_fields (pairs l.durations l.parts)))

use Rattle.std.proofs.Common.{sym, ◌∙◌}
use Rattle.std.proofs.lemmas.List.{length-map}
use Rattle.obu_data.specs.BlockView.{view_gain_part}
use Rattle.obu_data.proofs.Timed.{timed_read, timed_refused}
use Rattle.obu_data.proofs.gain_part.timed_gains_of.Goals as goal

pub returns-then-timed-from-clause-reads : goal.returns-then-timed-from-clause-reads
returns-then-timed-from-clause-reads c =
    let e = c.in-Ok.ensures in
    let lengths = length-map c.in-Ok.timed.parts.items view_gain_part ∙ sym e.lengths in
    timed_refused _ _ _ _ _ _ _ c.in_ok-count.ensures.takes c.if-count-eq0.false e.reads.0 lengths (λ same. c.if-timed-from.true (e.total ∙ same ∙ sym c.from.ensures))

pub returns-clause-reads : goal.returns-clause-reads
returns-clause-reads c =
    let e = c.in-Ok.ensures in
    let lengths = length-map c.in-Ok.timed.parts.items view_gain_part ∙ sym e.lengths in
    (timed_read _ _ _ _ _ _ _ c.in_ok-count.ensures.takes c.if-count-eq0.false e.reads.0 lengths (sym e.total ∙ c.if-timed-from.false ∙ c.from.ensures), e.reads.1)

use Rattle.std.proofs.Common.{arith, sym, ◌∙◌}
use Rattle.spec_boxes.proofs.Steps.{rises_on}
use Rattle.mp4_boxes.proofs.cursor.Cursor.turns.Goals as goal

pub returns-clause-stays : goal.returns-clause-stays
returns-clause-stays c =
    let s = c.args.self.now in
    λ _. rw c.requires (rises_on s.chunk s.places.count s.runs.count s.runs.bytes.now s.run (omega (arith, s.run_in))
    (λ is. c.if-first-chunk.false (c.first.ensures ∙ is ∙ sym c.requires)) s.rising)

use Rattle.std.proofs.Common.{ℕ, ◌≡◌, ◌+◌, ◌-◌, arith, subst, sym, ap, ◌∙◌}
use Rattle.spec_boxes.specs.Tables.{total_from, counts_from, chunk_counts, runs_of, place_list}
use Rattle.spec_boxes.specs.Spans.{runs_from, places_from}
use Rattle.spec_boxes.proofs.Steps.{starts, starts_none, spans_empty, spans_start}
use Rattle.mp4_boxes.proofs.cursor.Cursor.new.Goals as goal

pub returns-then-runs-eq0-clause-all : goal.returns-then-runs-eq0-clause-all
returns-then-runs-eq0-clause-all c =
    let a = c.args in
    let z = starts_none a.runs.count a.runs.bytes.now a.places.count a.sizes.count c.if-runs-eq0.true c.requires in
    spans_empty a.sizes.common a.sizes.count a.sizes.bytes.now (places_from a.places.wide a.places.count a.places.bytes.now 0) (counts_from (0 + 1) 0 (runs_from a.runs.count a.runs.bytes.now 0) a.places.count)
    (place_list a.places.wide a.places.count a.places.bytes.now) (chunk_counts (runs_of a.runs.count a.runs.bytes.now 8) a.places.count) z.1

pub invariant_of-result-2 : goal.invariant_of-result-2
invariant_of-result-2 c =
    let a = c.args in
    let z = starts a.runs.count a.runs.bytes.now a.places.count a.sizes.count (omega (arith, c.if-runs-eq0.false)) c.requires in
    record {
      sample_in = omega arith;
      chunk_in = omega arith;
      run_in = omega (arith, c.if-runs-eq0.false);
      some = λ _. omega (arith, z.some, c.each-each.ensures);
      rising = z.rising;
      total = subst (λ (x : ℕ). 0 + total_from (0 + 1) x (runs_from a.runs.count a.runs.bytes.now 1) a.places.count ≡ a.sizes.count - 0) (sym c.each-each.ensures) (omega (arith, z.total));
    }

pub returns-clause-all : goal.returns-clause-all
returns-clause-all c =
    let a = c.args in
    let z = starts a.runs.count a.runs.bytes.now a.places.count a.sizes.count (omega (arith, c.if-runs-eq0.false)) c.requires in
    spans_start a.sizes.common a.sizes.count a.sizes.bytes.now a.places.wide a.places.count a.places.bytes.now (counts_from (0 + 1) c.each-each.result (runs_from a.runs.count a.runs.bytes.now 1) a.places.count) (chunk_counts (runs_of a.runs.count a.runs.bytes.now 8) a.places.count)
    (z.counts ∙ ap (λ (x : ℕ). counts_from 1 x (runs_from a.runs.count a.runs.bytes.now 1) a.places.count) (sym c.each-each.ensures))

use Rattle.std.proofs.Common.{ℕ, subst, arith, ◌≡◌, ◌+◌, ◌*◌, sym, ◌∙◌}
use Rattle.spec_boxes.specs.Bytes.{word_at}
use Rattle.spec_boxes.specs.Tables.{total_from}
use Rattle.spec_boxes.specs.Spans.{runs_from}
use Rattle.mp4_boxes.specs.Cursors.{sizes_left, places_left, counts_left}
use Rattle.spec_boxes.proofs.Steps.{chunk_left, total_turn, total_enter, counts_turn, counts_enter, rises_turn, enter_left, some_size}
use Rattle.mp4_boxes.proofs.cursor.Cursor.entered.Goals as goal

pub invariant_of-result : goal.invariant_of-result
invariant_of-result c =
    let s = c.args.self.now in
    let less = chunk_left s.chunk s.each s.places.count (runs_from s.runs.count s.runs.bytes.now s.run) s.chunk_in s.rising (omega (arith, s.total)) in
    let t = c.turns.ensures.turns c.if-turns.true in
    let f = rises_turn s.chunk s.places.count s.runs.count s.runs.bytes.now s.run t.more t.first s.rising in
    let all = subst (λ (x : ℕ). total_from (s.chunk + 1) s.each (runs_from s.runs.count s.runs.bytes.now s.run) s.places.count ≡ x + total_from (s.chunk + 1 + 1) x (runs_from s.runs.count s.runs.bytes.now (s.run + 1)) s.places.count)
    (sym c.each-each.ensures) (total_turn s.chunk s.each s.places.count s.runs.count s.runs.bytes.now s.run t.more t.first
    ∙ total_enter s.chunk (word_at s.runs.bytes.now (12 + 12 * s.run)) s.places.count (runs_from s.runs.count s.runs.bytes.now (s.run + 1)) less f.1) in
    record {
      sample_in = s.sample_in;
      chunk_in = omega (arith, less);
      run_in = omega (arith, t.more);
      some = λ _. omega (arith, f.0, c.each-each.ensures);
      rising = f.1;
      total = omega (arith, s.total, all);
    }

pub returns-then-turns-clause-some : goal.returns-then-turns-clause-some
returns-then-turns-clause-some c =
    let s = c.args.self.now in
    let t = c.turns.ensures.turns c.if-turns.true in
    let f = rises_turn s.chunk s.places.count s.runs.count s.runs.bytes.now s.run t.more t.first s.rising in
    omega (arith, f.0, c.each-each.ensures)

pub returns-then-turns-clause-same : goal.returns-then-turns-clause-same
returns-then-turns-clause-same c =
    let s = c.args.self.now in
    let less = chunk_left s.chunk s.each s.places.count (runs_from s.runs.count s.runs.bytes.now s.run) s.chunk_in s.rising (omega (arith, s.total)) in
    let t = c.turns.ensures.turns c.if-turns.true in
    let f = rises_turn s.chunk s.places.count s.runs.count s.runs.bytes.now s.run t.more t.first s.rising in
    let z = some_size s.sizes.common s.sizes.count s.sizes.bytes.now s.sample c.requires.more in
    rw c.each-each.ensures (enter_left s.place s.left c.at-place.result (word_at s.runs.bytes.now (12 + 12 * s.run)) z.0 (sizes_left s) z.1 (places_left s) _ (counts_left s) _ c.requires.none_left z.2 c.at-place.ensures
    (counts_turn s.chunk s.each s.places.count s.runs.count s.runs.bytes.now s.run t.more t.first
    ∙ counts_enter s.chunk (word_at s.runs.bytes.now (12 + 12 * s.run)) s.places.count (runs_from s.runs.count s.runs.bytes.now (s.run + 1)) less f.1))

pub invariant_of-result-2 : goal.invariant_of-result-2
invariant_of-result-2 c =
    let s = c.args.self.now in
    let less = chunk_left s.chunk s.each s.places.count (runs_from s.runs.count s.runs.bytes.now s.run) s.chunk_in s.rising (omega (arith, s.total)) in
    let f = c.turns.ensures.stays c.if-turns.false in
    record {
      sample_in = s.sample_in;
      chunk_in = omega (arith, less);
      run_in = s.run_in;
      some = λ _. s.some less;
      rising = f;
      total = omega (arith, s.total, total_enter s.chunk s.each s.places.count (runs_from s.runs.count s.runs.bytes.now s.run) less f);
    }

pub returns-clause-same : goal.returns-clause-same
returns-clause-same c =
    let s = c.args.self.now in
    let less = chunk_left s.chunk s.each s.places.count (runs_from s.runs.count s.runs.bytes.now s.run) s.chunk_in s.rising (omega (arith, s.total)) in
    let f = c.turns.ensures.stays c.if-turns.false in
    let z = some_size s.sizes.common s.sizes.count s.sizes.bytes.now s.sample c.requires.more in
    enter_left s.place s.left c.at-place.result s.each z.0 (sizes_left s) z.1 (places_left s) _ (counts_left s) _ c.requires.none_left z.2 c.at-place.ensures
    (counts_enter s.chunk s.each s.places.count (runs_from s.runs.count s.runs.bytes.now s.run) less f)

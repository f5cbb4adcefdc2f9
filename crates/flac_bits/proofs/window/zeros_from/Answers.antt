use Rattle.std.proofs.Common.{◌≡◌, ℕ, ◌+◌, ◌-◌, ◌*◌, drop, length, arith, inl, inr, ap, sym, subst, ◌∙◌}
use Rattle.spec_bits.specs.Bits.{all_bits}
use Rattle.flac_bits.specs.Ones.{first_one}
use Rattle.flac_bits.specs.Places.{capped}
use Rattle.flac_bits.specs.Windows.{place_of}
use Rattle.flac_bits.proofs.LeadingZeros.{goes_on, plus}
use Rattle.flac_bits.proofs.Moved.{empty, capped-plus, none_left}
use Rattle.flac_bits.proofs.window.zeros_from.Goals as goal

pub filled-ahead-requires-in-loop-ahead : goal.filled-ahead-requires-in-loop-ahead
filled-ahead-requires-in-loop-ahead c = empty c.args.bytes.now c.loop-ahead.ahead.next c.loop-ahead.invariant.is.within

pub loop-ahead-preserved : goal.loop-ahead-preserved
loop-ahead-preserved c =
    let bits = all_bits c.args.bytes.now in
    let inv = c.loop-ahead.invariant in
    let start = place_of c.args.window in
    let place = place_of c.loop-ahead.ahead in
    let count = c.loop-ahead.ahead.count in
    let next = c.filled-ahead-in-loop-ahead in
    let behind = inv.is.behind in
    let moves : place_of next.result ≡ place + count = omega (arith, next.ensures.place, behind) in
    let zeros : first_one (drop start bits) ≡ plus (place + count - start) (first_one (drop (place + count) bits)) = goes_on start place count bits inv.onward inv.zeros inv.is.top.inside (c.zeros_of-zeros.ensures.none count (drop place bits) inv.is.top c.if-zeros-ahead.false) in
    let far : (place - start) + count ≡ place + count - start = omega (arith, inv.onward) in
    let sum : c.capped-passed.result ≡ capped (place + count - start) = c.capped-passed.ensures ∙ ap (λ (n : ℕ). capped (c.loop-ahead.passed + n)) c.from-in-loop-ahead.ensures ∙ ap (λ (n : ℕ). capped (n + count)) inv.counted ∙ capped-plus (place - start) count ∙ ap capped far in
    record {
      is = next.ensures.is;
      full = next.ensures.full;
      onward = omega (arith, moves, inv.onward);
      zeros = subst (λ (k : ℕ). first_one (drop start bits) ≡ plus (k - start) (first_one (drop k bits))) (sym moves) zeros;
      counted = subst (λ (k : ℕ). c.capped-passed.result ≡ capped (k - start)) (sym moves) sum;
    }

pub returns : goal.returns
returns c =
    let inv = c.loop-ahead.invariant in
    let bits = all_bits c.args.bytes.now in
    let end : 8 * length c.args.bytes.now ≡ place_of c.loop-ahead.ahead = elim inv.full [
      | inl many ↦ absurd (omega arith)
      | inr all ↦ omega (arith, all)
    ] in
    inv.zeros ∙ ap (plus (place_of c.loop-ahead.ahead - place_of c.args.window)) (none_left c.args.bytes.now (place_of c.loop-ahead.ahead) (omega arith))

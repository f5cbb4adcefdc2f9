use Rattle.std.proofs.Common.{◌≡◌, ℕ, ◌+◌, ◌-◌, ◌*◌, ◌/◌, ◌%◌, ◌^◌, List, Ok, take, drop, sym, refl, ap, arith, ◌∙◌}
use Rattle.std.specs.Prelude.{slice_range}
use Rattle.std.proofs.lemmas.Nat.{one_shl}
use Rattle.std.proofs.lemmas.List.{take-take}
use Rattle.spec_bits.specs.Bits.{number_of, all_bits}
use Rattle.iamf_bits.proofs.Place.{number_short, number_found, length-span}
use Rattle.spec_bits.specs.Form.{Number}
use Rattle.iamf_bits.proofs.Spelled.{moves_past, has_fault}
use Rattle.iamf_bits.proofs.Numbers.{number_there}
use Rattle.iamf_bits.proofs.view.View.take_bits.Goals as goal

pub returns-then-self-count-clause-takes : goal.returns-then-self-count-clause-takes
returns-then-self-count-clause-takes c =
    let i = c.self.inside in
    (rw (← c.self.view_is) (number_short i.buffer.now i.end i.at i.used c.args.n c.self.invariant.2 c.self.invariant.1 (omega arith)), refl)

pub returns-clause-takes : goal.returns-clause-takes
returns-clause-takes c =
    let i = c.self.inside in
    let bits : ℕ = i.used + c.args.n in
    let count : ℕ = (i.used + c.args.n + 7) / 8 in
    let span_len = length-span i.buffer.now i.at i.end c.self.invariant.1 in
    let read : (i.at + (i.used + c.args.n + 7) / 8) - i.at ≡ (i.used + c.args.n + 7) / 8 = omega arith in
    let front : take ((i.used + c.args.n + 7) / 8) (slice_range i.buffer.now i.at i.end) ≡ take ((i.used + c.args.n + 7) / 8) (drop i.at i.buffer.now) =
    take-take ((i.used + c.args.n + 7) / 8) (i.end - i.at) (drop i.at i.buffer.now) (omega arith) in
    let sum : number_of (all_bits (take ((i.used + c.args.n + 7) / 8) (slice_range i.buffer.now i.at i.end))) ≡ c.number-sum.result =
    ap (λ (xs : List ℕ). number_of (all_bits xs)) (front ∙ ap (λ (k : ℕ). take k (drop i.at i.buffer.now)) (sym read)) ∙ sym c.number-sum.ensures in
    let there = number_there (slice_range i.buffer.now i.at i.end) i.used c.args.n ((i.used + c.args.n + 7) / 8) (omega (arith, span_len)) (omega arith) in
    let value : number_of (take c.args.n (drop i.used (all_bits (slice_range i.buffer.now i.at i.end)))) ≡ c.number-sum.result / 2 ^ (8 * ((i.used + c.args.n + 7) / 8) - (i.used + c.args.n)) % 2 ^ c.args.n =
    there ∙ ap (λ (k : ℕ). k / 2 ^ (8 * ((i.used + c.args.n + 7) / 8) - (i.used + c.args.n)) % 2 ^ c.args.n) sum in
    let place : 8 * i.at + i.used + c.args.n ≡ 8 * (i.at + (i.used + c.args.n) / 8) + (i.used + c.args.n) % 8 = omega arith in
    let found = number_found i.buffer.now i.end i.at i.used c.args.n _ c.self.invariant.2 c.self.invariant.1 (omega arith) value in
    rw (← c.self.view_is, one_shl c.args.n 64 (omega arith)) (found ∙ ap (λ (p : ℕ). Ok (c.number-sum.result / 2 ^ (8 * ((i.used + c.args.n + 7) / 8) - (i.used + c.args.n)) % 2 ^ c.args.n, record { bytes = take i.end i.buffer.now; place = p })) place)

pub returns-then-self-count-clause-fault : goal.returns-then-self-count-clause-fault
returns-then-self-count-clause-fault c = has_fault (Number c.args.n) _ _ (returns-then-self-count-clause-takes c).0

pub returns-clause-spelled : goal.returns-clause-spelled
returns-clause-spelled c = moves_past (Number c.args.n) _ _ _ (returns-clause-takes c)

use Rattle.std.proofs.Common.{◌≡◌, ◌≤◌, ◌+◌, ◌*◌, ◌^◌, ◌<◌, ◌-◌, ℕ, ℤ, unsigned_abs, arith, rules, FitsSigned, w64, to_z-of_z, drop, subst, sym, ◌∙◌}
use Rattle.spec_bits.specs.Bits.{all_bits}
use Rattle.flac_bits.specs.Windows.{IsTop, place_of}
use Rattle.flac_bits.proofs.RiceCodes.{code_near, code_some, capped_small, few_small, unfolded_some, unfolded_small}
use Rattle.flac_bits.proofs.near.Near.take_residual.Goals as goal

pub unfold-requires : goal.unfold-requires
unfold-requires c = omega (arith, few_small c.from.result c.args.parameter c.low_bits-low.result c.joined-folded.result (omega arith) c.requires.parameter c.low_bits-low.ensures.fits c.joined-folded.ensures)

pub returns-clause-some : goal.returns-clause-some
returns-clause-some c =
    let i = c.self.inside in
    let bytes = i.bytes.now in
    let z = c.zeros_of-zeros.result in
    let k = c.args.parameter in
    let window = c.whole_window-window in
    let low = c.low_bits-low in
    let place = 8 * i.at + i.used in
    let end = 8 * i.at + (i.used + z + (1 + k)) in
    let at_place : place_of window.result ≡ place = omega (arith, window.ensures.place) in
    let within : z + 1 + k ≤ window.result.count = omega (arith, window.ensures.count) in
    let top = subst (λ (n : ℕ). IsTop window.result.word window.result.count (drop n (all_bits bytes))) at_place window.ensures.is.top in
    let one = c.zeros_of-zeros.ensures.first window.result.count _ top (omega arith) in
    let f : FitsSigned w64 c.unfold.result = search rules in
    let lt : c.joined-folded.result < 2 ^ 32 - 1 = few_small c.from.result k low.result c.joined-folded.result (omega arith) c.requires.parameter low.ensures.fits c.joined-folded.ensures in
    rw (← c.self.view_is, to_z-of_z f)
    (code_some k bytes place z low.result end c.unfold.result
    (code_near bytes place z k low.result end window.result window.ensures.is at_place within one (low.ensures.is window.result.count _ top one within) (omega arith))
    (unfolded_some k z c.from.result low.result c.joined-folded.result c.unfold.result (c.from.ensures ∙ capped_small z (omega arith)) c.joined-folded.ensures lt c.unfold.ensures))

pub returns-clause-small : goal.returns-clause-small
returns-clause-small c =
    let f : FitsSigned w64 c.unfold.result = search rules in
    let lt : c.joined-folded.result < 2 ^ 32 - 1 = few_small c.from.result c.args.parameter c.low_bits-low.result c.joined-folded.result (omega arith) c.requires.parameter c.low_bits-low.ensures.fits c.joined-folded.ensures in
    rw (to_z-of_z f) (subst (λ (z : ℤ). unsigned_abs z < 2 ^ 31) (sym c.unfold.ensures) (unfolded_small c.joined-folded.result lt))

use Rattle.std.proofs.Common.{arith, ◌≡◌, ◌<◌, ◌+◌, ◌*◌, ℕ, length, get_or, max, ap, ◌∙◌}
use Rattle.spec_play.specs.Mixes.{unit_length}
use Rattle.iamf_mixing.specs.Rows.{block_of, gain_over}
use Rattle.iamf_mixing.proofs.TrackSteps.{starting, written_gain, filled_past}
use Rattle.iamf_mixing.proofs.track.GainTrack.write.Goals as goal

pub returns-then-end-first-clause-complete : goal.returns-then-end-first-clause-complete
returns-then-end-first-clause-complete c = λ e r gain long next filled k h.
    let row = c.args.row.now in
    let track = c.args.self.now in
    let b = block_of c.args.fixed.now c.args.parts.now in
    let start = c.max-start.result in
    let here : c.args.unit * unit_length r ≡ c.args.unit * length row = ap (λ (n : ℕ). c.args.unit * n) long in
    let there : track.unit * unit_length r ≡ track.unit * length row = ap (λ (n : ℕ). track.unit * n) long in
    let start_is : start ≡ max (track.unit * unit_length r) track.end = omega arith in
    let inside : k < length row = omega arith in
    let within : c.args.unit * unit_length r + k < start + b.fixed.duration = omega arith in
    let tick : c.args.unit * length row + k ≡ c.args.unit * unit_length r + k = omega arith in
    c.fill_block.ensures k inside ∙ ap (λ (t : ℕ). gain_over (starting start b) t (get_or row k 0)) tick ∙ written_gain r gain c.args.unit row track b start k next filled start_is inside within

pub returns-clause-passed : goal.returns-clause-passed
returns-clause-passed c = λ e r gain long next filled.
    let row = c.args.row.now in
    let track = c.args.self.now in
    let b = block_of c.args.fixed.now c.args.parts.now in
    let start = c.max-start.result in
    let here : c.args.unit * unit_length r ≡ c.args.unit * length row = ap (λ (n : ℕ). c.args.unit * n) long in
    let there : track.unit * unit_length r ≡ track.unit * length row = ap (λ (n : ℕ). track.unit * n) long in
    let start_is : start ≡ max (track.unit * unit_length r) track.end = omega arith in
    let size : length c.fill_block.new.row ≡ length row = omega arith in
    filled_past r gain c.args.unit row c.fill_block.new.row track b start (start + c.from.result) next filled start_is (ap (λ (n : ℕ). start + n) c.from.ensures) size
    (λ k inside.
    let tick : c.args.unit * length row + k ≡ c.args.unit * unit_length r + k = omega arith in
    c.fill_block.ensures k inside ∙ ap (λ (t : ℕ). gain_over (starting start b) t (get_or row k 0)) tick)

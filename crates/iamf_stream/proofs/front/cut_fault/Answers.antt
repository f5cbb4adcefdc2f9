use Rattle.std.proofs.Common.{ℕ, ◌-◌, take, drop, sym}
use Rattle.std.proofs.lemmas.List.{take-append-drop}
use Rattle.spec_streams.proofs.SureFaults.{partial_not_whole}
use Rattle.iamf_stream.proofs.front.cut_fault.Goals as goal

pub returns-in-Ok : goal.returns-in-Ok
returns-in-Ok c = λ partial.
    let n : ℕ = c.in-Ok.field-0.end - 0 in
    absurd (partial_not_whole c.args.bytes.now partial (record {
      head = _;
      payload = _;
      front = take n c.args.bytes.now;
      rest = drop n c.args.bytes.now;
      is = c.in-Ok.ensures.header;
      parts = sym (take-append-drop n c.args.bytes.now);
    }))

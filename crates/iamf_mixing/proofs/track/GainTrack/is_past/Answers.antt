use Rattle.std.proofs.Common.{arith, ◌<◌}
use Rattle.std.proofs.lemmas.Bool.Decides.{nat_tests}
use Rattle.iamf_mixing.proofs.TrackSteps.{complete}
use Rattle.iamf_mixing.proofs.track.GainTrack.is_past.Goals as goal

pub returns-clause-complete : goal.returns-clause-complete
returns-clause-complete c = λ e r gain row first long filled.
    let past : c.args.unit < c.args.self.now.unit = grind (arith, nat_tests) in
    complete r gain c.args.unit row c.args.self.now past first long filled

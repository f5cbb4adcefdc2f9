use Rattle.std.proofs.Common.{ℕ, List, ◌++◌, length, refl, subst, arith, length-append}
use Rattle.spec_streams.proofs.Settling.{settled_stays}
use Rattle.iamf_stream.specs.declared.checker.Stage.{Stage}
use Rattle.iamf_stream.specs.CheckerView.{IsSound}
use Rattle.iamf_stream.proofs.Checking.{stands_open, stands_refused, unsettled}
use Rattle.iamf_stream.proofs.checker.StreamChecker.feed.Goals as goal

pub invariant_of-self : goal.invariant_of-self
invariant_of-self c =
    let s = subst (λ (s : Stage). IsSound c.self.inside.fed s) c.in-Open.is c.self.invariant in
    (s.0 ++ c.args.piece.now, c.in-Ok.ensures s.0 s.1, omega (arith, s.2, length-append s.0 c.args.piece.now))

pub returns-in-Ok-clause-feeds : goal.returns-in-Ok-clause-feeds
returns-in-Ok-clause-feeds c = λ stream st.
    let before = stands_open _ _ _ _ stream c.self.view_is c.in-Open.is st in
    let more = c.in-Ok.ensures stream before.0 in
    record { stands = (more, omega (arith, before.1, length-append stream c.args.piece.now)); unsettled = unsettled _ (stream ++ c.args.piece.now) more }

pub returns-in-Refused-clause-feeds : goal.returns-in-Refused-clause-feeds
returns-in-Refused-clause-feeds c = λ stream st.
    let settled = settled_stays stream c.args.piece.now _ _ (stands_refused _ _ _ _ stream c.self.view_is c.in-Refused.is st) in
    record { settled = settled; stands = settled; stays = refl }

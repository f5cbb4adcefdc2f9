use Rattle.std.proofs.Common.{arith, ◌≡◌, ℕ, pos, refl, ◌∙◌}
use Rattle.mix_fixed.specs.Ratios.{IsRatio}
use Rattle.mix_fixed.proofs.ModeRows.{mode_in_row}
use Rattle.mix_fixed.proofs.ratios.ratios_of.Goals as goal

over_866 : (n : ℕ) → n ≡ 866 → IsRatio 1000 n (pos 2854346080689468726)
over_866 n e = rw e (172, omega arith, refl)

over_707 : (n : ℕ) → n ≡ 707 → IsRatio 1000 n (pos 7644831702400139496)
over_707 n e = rw e (184, omega arith, refl)

pub returns-then-mode-eq866-clause-beta : goal.returns-then-mode-eq866-clause-beta
returns-then-mode-eq866-clause-beta c = over_866 c.args.mode.beta c.if-mode-eq866.true

pub returns-then-mode-eq866-clause-gamma : goal.returns-then-mode-eq866-clause-gamma
returns-then-mode-eq866-clause-gamma c = over_866 c.args.mode.gamma ((mode_in_row c.args.mode c.requires).most c.if-mode-eq866.true)

pub returns-then-mode-eq866-clause-delta : goal.returns-then-mode-eq866-clause-delta
returns-then-mode-eq866-clause-delta c = let row = mode_in_row c.args.mode c.requires in over_866 c.args.mode.delta (row.same ∙ row.most c.if-mode-eq866.true)

pub returns-then-mode-eq707-clause-beta : goal.returns-then-mode-eq707-clause-beta
returns-then-mode-eq707-clause-beta c = over_707 c.args.mode.beta c.if-mode-eq707.true

pub returns-then-mode-eq707-clause-gamma : goal.returns-then-mode-eq707-clause-gamma
returns-then-mode-eq707-clause-gamma c = over_707 c.args.mode.gamma ((mode_in_row c.args.mode c.requires).other c.if-mode-eq866.false)

pub returns-then-mode-eq707-clause-delta : goal.returns-then-mode-eq707-clause-delta
returns-then-mode-eq707-clause-delta c = let row = mode_in_row c.args.mode c.requires in over_707 c.args.mode.delta (row.same ∙ row.other c.if-mode-eq866.false)

pub returns-else-mode-eq707-clause-gamma : goal.returns-else-mode-eq707-clause-gamma
returns-else-mode-eq707-clause-gamma c = over_707 c.args.mode.gamma ((mode_in_row c.args.mode c.requires).other c.if-mode-eq866.false)

pub returns-else-mode-eq707-clause-delta : goal.returns-else-mode-eq707-clause-delta
returns-else-mode-eq707-clause-delta c = let row = mode_in_row c.args.mode c.requires in over_707 c.args.mode.delta (row.same ∙ row.other c.if-mode-eq866.false)

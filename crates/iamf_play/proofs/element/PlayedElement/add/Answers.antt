use Rattle.std.proofs.Common.{arith, ◌≤◌, ℤ, pos, ◌+ℤ◌, sym, ap, subst, ◌∙◌, get_or}
use Rattle.iamf_mixing.specs.Sums.{base}
use Rattle.iamf_play.proofs.PartSteps.{begun_is, hears, gain_low, value_here}
use Rattle.iamf_play.proofs.element.PlayedElement.add.Goals as goal

pub add-requires-clause-begun : goal.add-requires-clause-begun
add-requires-clause-begun c = let at = c.requires.place in omega (arith, begun_is at.0 at.1 at.2 _ c.args.self.now at.4.part)

pub add-requires-clause-place : goal.add-requires-clause-place
add-requires-clause-place c = let at = c.requires.place in (at.1, hears at.0 at.1 at.2 _ c.args.self.now at.4.part, at.5, at.6)

pub add-requires-clause-gain : goal.add-requires-clause-gain
add-requires-clause-gain c = let at = c.requires.place in subst (λ g. g ≤ 39810717055340) (sym c.at-gain.ensures) (gain_low at.0 at.1 at.2 at.3 c.args.n c.args.self.now at.4 at.5)

pub returns-clause-value : goal.returns-clause-value
returns-clause-value c = λ s r m u is inside k h.
    c.add.ensures.value r (hears s r m _ c.args.self.now is.part) k h ∙ ap (λ (z : ℤ). base c.args.fresh (get_or c.args.sums.now k (pos 0)) +ℤ z) (value_here s r m u c.args.n k c.at-gain.result c.args.self.now is inside c.at-gain.ensures)

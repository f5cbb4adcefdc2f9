use Rattle.std.proofs.Common.{arith, ◌≡◌, ℤ, pos, ◌-ℤ◌, ◌*ℤ◌, FitsSigned, inl, inr, ◌∙◌, sym}
use Rattle.std.specs.Int.{w64}
use Rattle.spec_gains.specs.declared.DemixMode.{DemixMode}
use Rattle.spec_gains.specs.Modes.{coefficients_of, AreBounded}
use Rattle.spec_demix.specs.Floor.{floor_of}
use Rattle.mix_fixed.specs.Quiet.{hundredth}
use Rattle.mix_fixed.specs.Within.{AtMost}
use Rattle.mix_fixed.proofs.Held.{held, less_fits, less_is}
use Rattle.mix_fixed.proofs.FloorSizes.{over_most}
use Rattle.mix_fixed.proofs.FloorParts.{behind_one, behind_same}
use Rattle.mix_fixed.proofs.narrow.behind.Goals as goal

-- one side, where the whole of its side is taken from the surround
before : (mode : DemixMode) (surround side x : ℤ) → mode.alpha ≡ 1000 → AtMost hundredth 740 surround → AtMost hundredth 100 side
    → x ≡ floor_of (pos 1000 *ℤ held (held surround -ℤ held side)) mode.beta → x ≡ floor_of (pos 1000 *ℤ surround -ℤ pos mode.alpha *ℤ side) mode.beta
before mode surround side x one h k e = rw (less_is 740 100 surround side (omega arith) h k) at e ∙ sym (behind_one mode.alpha surround side mode.beta one)

-- one side, where it is taken from the floor
all_most : (mode : DemixMode) (surround all : ℤ) → AreBounded (coefficients_of mode) → AtMost hundredth 740 surround → all ≡ floor_of (pos 1000 *ℤ surround) mode.beta → AtMost hundredth 1048 all
all_most mode surround all bounded h e = rw e (over_most hundredth surround mode.beta (omega arith) bounded.least_beta bounded.beta h)

after_fits : (mode : DemixMode) (surround side all : ℤ) → AreBounded (coefficients_of mode) → AtMost hundredth 740 surround → AtMost hundredth 100 side
    → all ≡ floor_of (pos 1000 *ℤ surround) mode.beta → FitsSigned w64 (held all -ℤ held side)
after_fits mode surround side all bounded h k e = less_fits 1048 100 all side (omega arith) (all_most mode surround all bounded h e) k

after : (mode : DemixMode) (surround side all : ℤ) → AreBounded (coefficients_of mode) → mode.alpha ≡ mode.beta → AtMost hundredth 740 surround → AtMost hundredth 100 side
    → all ≡ floor_of (pos 1000 *ℤ surround) mode.beta → held (held all -ℤ held side) ≡ floor_of (pos 1000 *ℤ surround -ℤ pos mode.alpha *ℤ side) mode.beta
after mode surround side all bounded same h k e =
    let least = bounded.least_beta in
    let less = less_is 1048 100 all side (omega arith) (all_most mode surround all bounded h e) k in
    less ∙ (rw e (behind_same mode.alpha surround side mode.beta same (omega (arith, least))))

pub overflow_sub-result : goal.overflow_sub-result
overflow_sub-result c = after_fits c.args.mode c.args.surround.left c.args.side.left _ c.requires.mode c.requires.surround_left c.requires.side_left c.over_both-all.ensures.left

pub overflow_sub-result-else-mode-eq1000 : goal.overflow_sub-result-else-mode-eq1000
overflow_sub-result-else-mode-eq1000 c = after_fits c.args.mode c.args.surround.right c.args.side.right _ c.requires.mode c.requires.surround_right c.requires.side_right c.over_both-all.ensures.right

pub returns-then-mode-eq1000 : goal.returns-then-mode-eq1000
returns-then-mode-eq1000 c = record {
  left = before c.args.mode c.args.surround.left c.args.side.left _ c.if-mode-eq1000.true c.requires.surround_left c.requires.side_left c.over_both.ensures.left;
  right = before c.args.mode c.args.surround.right c.args.side.right _ c.if-mode-eq1000.true c.requires.surround_right c.requires.side_right c.over_both.ensures.right;
}

pub returns-else-mode-eq1000 : goal.returns-else-mode-eq1000
returns-else-mode-eq1000 c =
    let same : c.args.mode.alpha ≡ c.args.mode.beta = elim c.requires.alpha [
      | inl one ↦ absurd (c.if-mode-eq1000.false one)
      | inr same ↦ same
    ] in
    record {
      left = after c.args.mode c.args.surround.left c.args.side.left _ c.requires.mode same c.requires.surround_left c.requires.side_left c.over_both-all.ensures.left;
      right = after c.args.mode c.args.surround.right c.args.side.right _ c.requires.mode same c.requires.surround_right c.requires.side_right c.over_both-all.ensures.right;
    }

use Rattle.std.proofs.Common.{arith, rules, ◌≡◌, length, ap, sym, ◌∙◌, Some}
use Rattle.spec_gains.specs.Modes.{mode_of}
use Rattle.demix_tests.proofs.fixed.demixed.Goals as goal

pub demix-requires : goal.demix-requires
demix-requires g c =
    let few = c.assert_layers.ensures.few in
    let mode : mode_of c.args.code ≡ Some c.expect-mode.result = search rules in
    (omega (arith, few), (c.assert_layers.ensures.count ∙ sym (ap length c.new.ensures.channels), ((c.args.code, mode), (search rules, (search rules, search rules)))))

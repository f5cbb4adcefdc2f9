use Rattle.std.proofs.Common.{arith, rules, ◌≡◌, length, ap, sym, ◌∙◌, Some}
use Rattle.spec_gains.specs.Modes.{mode_of}
use Rattle.demix_tests.proofs.chains.compare.Goals as goal

pub demix_exact-requires : goal.demix_exact-requires
demix_exact-requires g c =
    let layers = c.assert_layers.ensures in
    let few = layers.few in
    let mode : mode_of c.args.code ≡ Some c.expect.result = search rules in
    (omega (arith, few), (layers.target, (layers.chain, (layers.gains, ((c.args.code, mode), (search rules, (search rules, (layers.count, search rules))))))))

pub demix-requires : goal.demix-requires
demix-requires g c =
    let layers = c.assert_layers.ensures in
    let few = layers.few in
    let mode : mode_of c.args.code ≡ Some c.expect.result = search rules in
    (omega (arith, few), (layers.count ∙ sym (ap length c.new.ensures.channels), ((c.args.code, mode), (search rules, (search rules, search rules)))))

use Rattle.std.proofs.Common.{◌≡◌, ◌∙◌, ◌+◌, ℕ, List, [], drop, sym, ap, arith}
use Rattle.std.proofs.lemmas.Grind.{common_steps}
use Rattle.spec_rules.specs.Profile.{channels_of_sub_mix}
use Rattle.iamf_rules.proofs.Ids.{rest_at}
use Rattle.iamf_rules.proofs.Totals.{with_rest, with_rest-zero, rest-known, rest-unknown, rest-nothing}
use Rattle.iamf_rules.proofs.channels.of_elements.Goals as goal

pub loop-id-init : goal.loop-id-init
loop-id-init c = record { small = omega arith; whole = λ es has. with_rest-zero (channels_of_sub_mix es c.args.elements.now) }

pub loop-id-preserved : goal.loop-id-preserved
loop-id-preserved c = record {
  small = omega (arith, c.saturating_add-total.ensures);
  whole = λ es has.
      let ids : List ℕ = c.args.elements.now in
      let i : ℕ = c.loop-id.id-index in
      c.loop-id.invariant.whole es has
      ∙ ap (λ (rest : List ℕ). with_rest c.loop-id.total (channels_of_sub_mix es rest)) (rest_at ids i 0 c.loop-id-test.true)
      ∙ rest-known c.loop-id.total c.in-Some.channels _ (channels_of_sub_mix es (drop (i + 1) ids)) (c.in-Some.ensures ∙ has _)
      ∙ ap (λ (n : ℕ). with_rest n (channels_of_sub_mix es (drop (i + 1) ids))) (sym c.saturating_add-total.ensures);
}

pub returns-in-None : goal.returns-in-None
returns-in-None c = λ es has.
    let ids : List ℕ = c.args.elements.now in
    let i : ℕ = c.loop-id.id-index in
    sym (c.loop-id.invariant.whole es has
    ∙ ap (λ (rest : List ℕ). with_rest c.loop-id.total (channels_of_sub_mix es rest)) (rest_at ids i 0 c.loop-id-test.true)
    ∙ rest-unknown c.loop-id.total _ (channels_of_sub_mix es (drop (i + 1) ids)) (c.in-None.ensures ∙ has _))

pub returns : goal.returns
returns c = λ es has.
    let none : drop c.loop-id.id-index c.args.elements.now ≡ [] = grind (arith, common_steps) in
    sym (c.loop-id.invariant.whole es has ∙ ap (λ (rest : List ℕ). with_rest c.loop-id.total (channels_of_sub_mix es rest)) none ∙ rest-nothing c.loop-id.total c.loop-id.invariant.small)

use Rattle.std.proofs.Common.{rules, ◌≡◌, map, sym, ap, ◌∙◌}
use Rattle.spec_sequence.specs.Reading.{values_of}
use Rattle.obu_mix.specs.MixView.{view_mix}
use Rattle.obu_mix.specs.SubMixView.{view_sub_mix}
use Rattle.iamf_select.proofs.FoundMixes.{fault_of_none, fault_of_several, fault_of_one, rendition_of_one}
use Rattle.iamf_select.proofs.selecting.select.Goals as goal

pub returns-in-None-clause-fault : goal.returns-in-None-clause-fault
returns-in-None-clause-fault c = fault_of_none (values_of c.args.sequence.now.entries) c.args.mix c.args.target c.in-None.ensures

pub returns-in-None-only_one-clause-fault : goal.returns-in-None-only_one-clause-fault
returns-in-None-only_one-clause-fault c =
    let xs = c.as_slice.result.now in
    let e : xs ≡ c.in-Some.found.now.sub_mixes.items = search rules in
    fault_of_several (values_of c.args.sequence.now.entries) c.args.mix c.args.target (view_mix c.in-Some.found.now) xs c.in-Some.ensures (ap (map view_sub_mix) (sym e)) c.in-None-only_one.ensures

pub plan_of-requires-clause-passes : goal.plan_of-requires-clause-passes
plan_of-requires-clause-passes c =
    let xs = c.as_slice.result.now in
    let e : xs ≡ c.in-Some.found.now.sub_mixes.items = search rules in
    fault_of_one (values_of c.args.sequence.now.entries) c.args.mix c.args.target (view_mix c.in-Some.found.now) xs c.in-Some-only_one.sub_mix.now c.in-Some.ensures (ap (map view_sub_mix) (sym e)) c.in-Some-only_one.ensures
    ∙ sym c.in-None-fault_of.ensures

pub plan_of-requires-clause-is : goal.plan_of-requires-clause-is
plan_of-requires-clause-is c =
    let xs = c.as_slice.result.now in
    let e : xs ≡ c.in-Some.found.now.sub_mixes.items = search rules in
    rendition_of_one (values_of c.args.sequence.now.entries) c.args.mix c.args.target (view_mix c.in-Some.found.now) xs c.in-Some-only_one.sub_mix.now c.in-Some.ensures (ap (map view_sub_mix) (sym e)) c.in-Some-only_one.ensures

pub returns-in-Some-fault_of-clause-fault : goal.returns-in-Some-fault_of-clause-fault
returns-in-Some-fault_of-clause-fault c =
    let xs = c.as_slice.result.now in
    let e : xs ≡ c.in-Some.found.now.sub_mixes.items = search rules in
    fault_of_one (values_of c.args.sequence.now.entries) c.args.mix c.args.target (view_mix c.in-Some.found.now) xs c.in-Some-only_one.sub_mix.now c.in-Some.ensures (ap (map view_sub_mix) (sym e)) c.in-Some-only_one.ensures
    ∙ sym c.in-Some-fault_of.ensures

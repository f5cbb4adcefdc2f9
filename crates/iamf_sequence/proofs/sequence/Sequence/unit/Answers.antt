use Rattle.std.proofs.Common.{◌<◌, length, sym, ap, subst, ◌∙◌, arith}
use Rattle.iamf_sequence.specs.SequenceValue.{SequenceValue}
use Rattle.iamf_sequence.specs.SequenceView.{IsSequence}
use Rattle.iamf_sequence.proofs.SequenceParts.{units_counted, unit_found}
use Rattle.iamf_sequence.proofs.AdmittedRoles.{roles_admitted}
use Rattle.iamf_sequence.proofs.UnitFrames.{unit_complete}
use Rattle.iamf_sequence.proofs.sequence.Sequence.unit.Goals as goal

pub returns-clause-is : goal.returns-clause-is
returns-clause-is c =
    let is = subst (λ (v : SequenceValue). IsSequence c.self.inside.parts v) c.self.view_is c.self.invariant in
    unit_found c.self.inside.parts c.args.self.now c.as_slice-units.result.now c.args.u _ _ c.as_slice-units.ensures.value c.index-units-u.is c.requires is

pub returns-clause-complete : goal.returns-clause-complete
returns-clause-complete c =
    let is = subst (λ (v : SequenceValue). IsSequence c.self.inside.parts v) c.self.view_is c.self.invariant in
    λ v s there. unit_complete c.args.self.now.entries c.args.u v s c.requires (roles_admitted c.self.inside.parts.admission c.args.self.now.entries is.admission) is.read.whole there

pub prove-unreachable-requires : goal.prove-unreachable-requires
prove-unreachable-requires c =
    let is = subst (λ (v : SequenceValue). IsSequence c.self.inside.parts v) c.self.view_is c.self.invariant in
    let below : c.args.u < length c.as_slice-units.result.now = subst (λ n. c.args.u < n) (sym (ap length c.as_slice-units.ensures.value ∙ units_counted c.self.inside.parts c.args.self.now is)) c.requires in
    omega (arith, below)

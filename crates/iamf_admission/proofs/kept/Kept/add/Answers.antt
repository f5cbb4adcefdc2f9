use Rattle.std.proofs.Common.{[], ◌∷◌, ◌++◌, sym, subst, arith}
use Rattle.std.proofs.lemmas.List.{length-map}
use Rattle.spec_rules.specs.Role.{Role}
use Rattle.spec_rules.specs.Admitted.{HasNoFault}
use Rattle.spec_sequence.specs.ValueRole.{role}
use Rattle.spec_sequence.specs.Reading.{roles}
use Rattle.iamf_rules.specs.Standing.{Stands as RulesStand}
use Rattle.iamf_admission.specs.Taking.{MakesRoom}
use Rattle.iamf_admission.proofs.OneMore.{stands_more}
use Rattle.iamf_admission.proofs.kept.Kept.add.Goals as goal

pub returns : goal.returns
returns c = λ past e n st few parts next said sound same.
    let k = c.args.self.now in
    stands_more k _ past c.args.obu.now e st next (record {
      rules = subst (λ (o : Role). RulesStand c.add.new.self (roles past ++ o ∷ [])) same
          (c.in_ok-add.ensures.stands (roles past) st.rules (omega (arith, few, length-map past (λ e. role e.value))) (subst (λ (o : Role). HasNoFault (roles past) o) (sym same) said.faultless));
      copies = c.in_ok-add_payload.ensures {u = tt} past e st.copies next said.plain;
      tally = c.in_ok-add_line.ensures {u = tt} past e n st.tally st.rules said parts;
      sound = sound;
      room = subst (λ (o : Role). MakesRoom k.planes c.make_room.new.planes o) same (c.in_ok-make_room.ensures {u = tt});
    })

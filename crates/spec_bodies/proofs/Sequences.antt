-- Bytes that read are the OBUs of one sequence.
use Rattle.std.proofs.Common.{◌≡◌, ℕ, List, [], ◌∷◌, ◌++◌, refl, sym, ap, ap₂, subst, ◌∙◌, None}
use Rattle.std.proofs.lemmas.List.{map-append}
use Rattle.spec_values.specs.Value.{ObuValue}
use Rattle.spec_rules.specs.Rules.{end_fault}
use Rattle.spec_values.proofs.Obus.{same_first, not_empty}
use Rattle.spec_obu.proofs.OneHeader.{same_front}
use Rattle.spec_sequence.specs.Reading.{Entry, values_of, roles, context_after, IsAdmissible}
use Rattle.spec_sequence.specs.Reading as reading
use Rattle.spec_bodies.specs.Spelled.{Spelled, entry_of, entries_of, roles_of, bytes_of, AdmittedAfter}
use Rattle.spec_bodies.specs.SequenceBody.{descriptors, units}
use Rattle.spec_bodies.specs.SequenceFile as written
use Rattle.spec_bodies.specs.Laws.{ReadIsSequence, SequenceReads, OneSequence, OneSequenceBody}
use Rattle.spec_bodies.proofs.SpelledRoles.{roles_are}

entries_push : (os : List Spelled) (o : Spelled) → entries_of (os ++ o ∷ []) ≡ entries_of os ++ entry_of o ∷ []
entries_push os o = map-append entry_of os (o ∷ [])

pub values_are : (os : List Spelled) → values_of (entries_of os) ≡ written.values_of os
values_are [] = refl
values_are (o ∷ os) = ap (λ (s : List ObuValue). o.value ∷ s) (values_are os)

-- ---- read and spelled

-- the OBUs of bytes that are admitted, with their bytes
pub record AreOf (past : List Spelled) (bytes : List ℕ) (es : List Entry) : Type 0 where
  pub obus : List Spelled
  pub bytes_are : bytes ≡ bytes_of obus
  pub admitted : AdmittedAfter past obus
  pub entries_are : entries_of obus ≡ es

pub spelled : (past : List Spelled) (bytes : List ℕ) (es : List Entry) → reading.AdmittedAfter (entries_of past) bytes es → AreOf past bytes es
spelled past bytes [] h = record { obus = []; bytes_are = h; admitted = tt; entries_are = refl }
spelled past bytes (e ∷ es) h =
    let o : Spelled = record { value = e.value; payload = e.payload; bytes = h.0 } in
    let rest = spelled (past ++ o ∷ []) h.1 es (subst (λ (p : List Entry). reading.AdmittedAfter p h.1 es) (sym (entries_push past o)) h.5) in
    record {
      obus = o ∷ rest.obus;
      bytes_are = h.2 ∙ ap (λ (b : List ℕ). h.0 ++ b) rest.bytes_are;
      admitted = (h.3, h.4, rest.admitted);
      entries_are = ap (λ (xs : List Entry). e ∷ xs) rest.entries_are;
    }

pub ended : (os : List Spelled) (es : List Entry) → entries_of os ≡ es → end_fault (roles es) ≡ None → end_fault (roles_of os) ≡ None
ended os es are whole = ap end_fault (sym (roles_are os) ∙ ap roles are) ∙ whole

pub read_is_sequence : ReadIsSequence
read_is_sequence bytes s h =
    let a = spelled [] bytes h.entries h.admitted in (
      a.obus,
      a.bytes_are,
      record {
        admitted = a.admitted;
        ended = ended a.obus h.entries a.entries_are h.whole;
      },
      sym (values_are a.obus) ∙ ap values_of a.entries_are ∙ h.values_are,
    )

pub admitted_read : (past os : List Spelled) → AdmittedAfter past os → reading.AdmittedAfter (entries_of past) (bytes_of os) (entries_of os)
admitted_read past [] h = refl
admitted_read past (o ∷ os) h =
    (o.bytes, bytes_of os, refl, h.0, h.1, subst (λ (p : List Entry). reading.AdmittedAfter p (bytes_of os) (entries_of os)) (entries_push past o) (admitted_read (past ++ o ∷ []) os h.2))

pub sequence_reads : SequenceReads
sequence_reads os h = record {
  entries = entries_of os;
  values_are = values_are os;
  admitted = admitted_read [] os h.admitted;
  whole = ap end_fault (roles_are os) ∙ h.ended;
}

-- ---- one sequence

made : ObuValue → List ℕ → List ℕ → Spelled
made value payload bytes = record { value = value; payload = payload; bytes = bytes }

same_spelled : (o p : Spelled) → o.value ≡ p.value → o.payload ≡ p.payload → o.bytes ≡ p.bytes → o ≡ p
unfolding made
same_spelled o p v x b = ap (λ (value : ObuValue). made value o.payload o.bytes) v ∙ ap (λ (payload : List ℕ). made p.value payload o.bytes) x ∙ ap (made p.value p.payload) b

one_after : (past os ps : List Spelled) → AdmittedAfter past os → AdmittedAfter past ps → bytes_of os ≡ bytes_of ps → os ≡ ps
one_after past [] [] h g e = refl
one_after past [] (p ∷ ps) h g e = absurd (not_empty p.value.head p.payload p.bytes (bytes_of ps) g.0.header e)
one_after past (o ∷ os) [] h g e = absurd (not_empty o.value.head o.payload o.bytes (bytes_of os) h.0.header (sym e))
one_after past (o ∷ os) (p ∷ ps) h g e =
    let s = same_first (context_after (entries_of past)) o.value p.value o.payload p.payload o.bytes p.bytes (bytes_of os) (bytes_of ps) h.0 g.0 e in
    let f = same_front o.value.head p.value.head o.payload p.payload o.bytes p.bytes (bytes_of os) (bytes_of ps) h.0.header g.0.header e in
    let first : o ≡ p = same_spelled o p s.values s.payloads f.bytes in
    let moved : AdmittedAfter (past ++ o ∷ []) ps = subst (λ (x : Spelled). AdmittedAfter (past ++ x ∷ []) ps) (sym first) g.2 in
    ap₂ (λ (x : Spelled) (xs : List Spelled). x ∷ xs) first (one_after (past ++ o ∷ []) os ps h.2 moved s.rests)

pub one_sequence : OneSequence
one_sequence os ps h g e = one_after [] os ps h.admitted g.admitted e

pub one_sequence_body : OneSequenceBody
one_sequence_body bytes d e u v h g =
    let same : h.obus ≡ g.obus = one_sequence h.obus g.obus h.are g.are (sym h.bytes_are ∙ g.bytes_are) in
    (sym h.descriptors_are ∙ ap descriptors same ∙ g.descriptors_are, sym h.units_are ∙ ap units same ∙ g.units_are)

-- A settled refusal stays, and the front of an OBU settles none.
use Rattle.std.proofs.Common.{◌≡◌, ℕ, ◌+◌, ◌<◌, List, [], ◌∷◌, ◌++◌, length, drop, refl, sym, ap, ◌∙◌, arith, append_assoc, append-nil, length-append}
use Rattle.std.specs.Prelude.{Option, Some, None}
use Rattle.std.proofs.lemmas.List.{drop-append-le}
use Rattle.std.proofs.Math.Seq.{drop-append-add}
use Rattle.spec_obu.specs.declared.HeaderFault.{HeaderFault}
use Rattle.spec_obu.specs.declared.HeaderFault.TheVariants.{Cut}
use Rattle.spec_values.specs.declared.fault.Fault.{Fault}
use Rattle.spec_values.specs.declared.fault.Fault.TheVariants.{Header}
use Rattle.spec_rules.specs.Rules.{end_fault}
use Rattle.spec_sequence.specs.Reading.{Entry, values_of, roles, Admitted, FailsAt, AtEnd, OfHeader, OfObu, Refuses}
use Rattle.spec_sequence.proofs.OneAnswer.{reads_is_not_refused, one_refusal}
use Rattle.spec_streams.specs.Front.{HasWholeSize, IsSure}
use Rattle.spec_streams.specs.Settled.{Settled}
use Rattle.spec_streams.specs.Laws.{SettledStays, PartialIsNotSettled}
use Rattle.spec_streams.proofs.SureFaults.{whole_size_more, sure_stays}

-- ---- it stays

-- the size of the OBU that is refused
pub sized_rest : (good rest : List ℕ) → HasWholeSize (drop (length good + 1) (good ++ rest)) → HasWholeSize (drop 1 rest)
sized_rest good rest s = rw (drop-append-add good rest 1) at s

fails_more : (past : List Entry) (rest more : List ℕ) (f : Fault) → (rest ≡ [] → ⊥) → (f ≡ Header Cut → ⊥) → HasWholeSize (drop 1 rest) → FailsAt past rest f → FailsAt past (rest ++ more) f
fails_more past rest more f some uncut sized (AtEnd empty end) = absurd (some empty)
fails_more past rest more f some uncut sized (OfHeader h first begun is) =
    let sure : IsSure h rest = record { first = first; uncut = λ e. uncut (is ∙ ap (λ (g : HeaderFault). Header g) e); sized = sized } in
    OfHeader h ((sure_stays rest more h sure).first) (λ e. some (no_bytes rest more e)) is where
      no_bytes : (xs ys : List ℕ) → xs ++ ys ≡ [] → xs ≡ []
      no_bytes [] ys e = refl
      no_bytes (x ∷ xs) ys e = absurd cc
fails_more past rest more f some uncut sized (OfObu h payload piece after split header has) =
    OfObu h payload piece (after ++ more) (ap (λ (b : List ℕ). b ++ more) split ∙ append_assoc piece after more) header has

begun : (bytes good rest : List ℕ) (at : ℕ) → bytes ≡ good ++ rest → at ≡ length good → at < length bytes → rest ≡ [] → ⊥
begun bytes good rest at splits place within e = omega (arith, ap length splits, length-append good rest, ap length e, place, within)

pub settled_stays : SettledStays
settled_stays bytes more at f s =
    let r : Refuses bytes at f = s.refused in
    let sized : HasWholeSize (drop 1 r.rest) = sized_rest r.good r.rest (rw (← r.splits, ← r.place) s.sized) in record {
      refused = record {
        good = r.good;
        rest = r.rest ++ more;
        entries = r.entries;
        splits = ap (λ (b : List ℕ). b ++ more) r.splits ∙ append_assoc r.good r.rest more;
        place = r.place;
        admitted = r.admitted;
        fails = fails_more r.entries r.rest more f (begun bytes r.good r.rest at r.splits r.place s.within) s.uncut sized r.fails;
      };
      within = omega (arith, length-append bytes more, s.within);
      uncut = s.uncut;
      sized = rw (drop-append-le (at + 1) bytes more (omega (arith, s.within))) (whole_size_more (drop (at + 1) bytes) more s.sized);
    }

-- ---- a front settles nothing

nothing_left : (good : List ℕ) (entries : List Entry) (at : ℕ) (f : Fault) (end : Option Fault) → end_fault (roles entries) ≡ end → Admitted good entries → Settled good at f → ⊥
nothing_left good entries at f None e admitted s = reads_is_not_refused good (values_of entries) at f (record { entries = entries; values_are = refl; admitted = admitted; whole = e }) s.refused
nothing_left good entries at f (Some g) e admitted s =
    let refused : Refuses good (length good) g = record { good = good; rest = []; entries = entries; splits = sym (append-nil good); place = refl; admitted = admitted; fails = AtEnd refl e } in
    omega (arith, (one_refusal good at (length good) f g s.refused refused).0, s.within)

pub partial_not_settled : PartialIsNotSettled
partial_not_settled good [] entries at f admitted p s =
    nothing_left good entries at f (end_fault (roles entries)) refl admitted (rw append-nil at s)
partial_not_settled good (x ∷ xs) entries at f admitted p s =
    let refused : Refuses (good ++ (x ∷ xs)) (length good) (Header p.fault) = record {
      good = good;
      rest = x ∷ xs;
      entries = entries;
      splits = refl;
      place = refl;
      admitted = admitted;
      fails = OfHeader p.fault p.first (λ e. cc) refl;
    } in
    let same = one_refusal (good ++ (x ∷ xs)) at (length good) f (Header p.fault) s.refused refused in
    p.unsure (record {
      first = p.first;
      uncut = λ e. s.uncut (same.1 ∙ ap (λ (g : HeaderFault). Header g) e);
      sized = sized_rest good (x ∷ xs) (rw (← same.0) s.sized);
    })

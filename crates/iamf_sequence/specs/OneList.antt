-- Bytes are spellings of one list of OBUs. No definition: the proof stands here because a ghost field cites it.
use Rattle.std.proofs.Common.{◌≡◌, ℕ, List, ap, subst}
use Rattle.std.proofs.Math.Logic.{∥∥₁_elim, ∥∥₁_prop}
use Rattle.std.proofs.Props.{props}
use Rattle.spec_sequence.specs.Reading.{Entry}
use Rattle.spec_sequence.proofs.OneAnswer.{one_entries}
use Rattle.iamf_sequence.specs.SequenceValue.{IsRead, HasEntries}

list_set : (l m : List Entry) → IsProp (l ≡ m)
list_set l m = Prim.hlevel props

same_pair : (bytes : List ℕ) (l m : List Entry) → l ≡ m → (p : ∥ IsRead bytes l ∥₁) (q : ∥ IsRead bytes m ∥₁) → let x : HasEntries bytes = (l, p) in let y : HasEntries bytes = (m, q) in x ≡ y
same_pair bytes l m e p q =
    subst (λ (m : List Entry). (q : ∥ IsRead bytes m ∥₁) → let x : HasEntries bytes = (l, p) in let y : HasEntries bytes = (m, q) in x ≡ y) e
    (λ r. ap (λ (t : ∥ IsRead bytes l ∥₁). let x : HasEntries bytes = (l, t) in x) (∥∥₁_prop p r)) q

-- the list that bytes have is that of which they are spellings
pub entries_are : (bytes : List ℕ) (h : HasEntries bytes) (l : List Entry) → IsRead bytes l → l ≡ h.0
entries_are bytes h l read = ∥∥₁_elim h.1 (list_set l h.0) (λ x. one_entries bytes l h.0 read.admitted x.admitted)

pub one_choice : (bytes : List ℕ) → IsProp (HasEntries bytes)
one_choice bytes a b = same_pair bytes a.0 b.0 (∥∥₁_elim a.1 (list_set a.0 b.0) (λ x. entries_are bytes b a.0 x)) a.1 b.1

-- Canonical spellings in parts, one after the other.
use Rattle.std.proofs.Common.{◌≡◌, ℕ, zero, suc, ◌+◌, ◌-◌, ◌<◌, ◌≤◌, List, [], ◌∷◌, ◌++◌, length, take, drop, get_or, sym, ap, subst, ◌∙◌, append_assoc, append-nil, arith}
use Rattle.std.specs.Prelude.{slice_range}
use Rattle.std.specs.Borrow.{Bor}
use Rattle.std.specs.List.{flat_map}
use Rattle.std.proofs.lemmas.Grind.{flat_map-append}
use Rattle.std.proofs.Math.Seq.{take-add}
use Rattle.std.proofs.lemmas.List.{drop-drop}
use Rattle.spec_values.specs.Canonical.{canonical_obu, encoded}
use Rattle.spec_sequence.specs.Reading.{Entry, values_of}
use Rattle.iamf_sequence.specs.declared.pieces.Part.{Part}
use Rattle.iamf_sequence.specs.declared.respelling.Respelling.{Respelling}
use Rattle.iamf_sequence.specs.PartBytes.{part_bytes, bytes_of}
use Rattle.iamf_sequence.specs.Respelled.{IsRespelled}
use Rattle.iamf_sequence.proofs.CanonicalBytes.{encoded_more}

end_to_end : (b : List ℕ) (start at end : ℕ) → start ≤ at → at ≤ end → slice_range b start at ++ slice_range b at end ≡ slice_range b start end
end_to_end b start at end first next =
    let both : end - start ≡ at - start + (end - at) = omega arith in
    let here : start + (at - start) ≡ at = omega arith in
    sym (ap (λ (k : ℕ). take k (drop start b)) both ∙ take-add (at - start) (end - at) (drop start b)
    ∙ ap (λ (t : List ℕ). take (at - start) (drop start b) ++ take (end - at) t) (drop-drop (at - start) start b ∙ ap (λ (k : ℕ). drop k b) here))

pub nothing_after : (done b : List ℕ) (end : ℕ) → done ++ slice_range b end end ≡ done
nothing_after done b end = let none : end - end ≡ 0 = omega arith in ap (λ (k : ℕ). done ++ take k (drop end b)) none ∙ append-nil done

-- ---- parts

pub part_more : (ps : List Part) (i : ℕ) (d : Part) → i < length ps → bytes_of (take i ps) ++ part_bytes (get_or ps i d) ≡ bytes_of (take (i + 1) ps)
part_more [] i d less = absurd (omega arith)
part_more (p ∷ ps) zero d less = sym (append-nil (part_bytes p))
part_more (p ∷ ps) (suc i) d less =
    let e : suc i + 1 ≡ suc (i + 1) = omega arith in
    rw e (append_assoc (part_bytes p) (bytes_of (take i ps)) (part_bytes (get_or ps i d)) ∙ ap (λ (t : List ℕ). part_bytes p ++ t) (part_more ps i d (omega arith)))

pub part_last : (ps : List Part) (p : Part) → bytes_of (ps ++ p ∷ []) ≡ bytes_of ps ++ part_bytes p
part_last ps p = flat_map-append part_bytes ps (p ∷ []) ∙ ap (λ (t : List ℕ). bytes_of ps ++ t) (append-nil (part_bytes p))

-- a part's bytes are put after those before it
pub part_put : (ps : List Part) (i : ℕ) (p : Part) (a b c : List ℕ) → i < length ps → p ≡ get_or ps i p → a ≡ bytes_of (take i ps) → b ≡ a ++ p.kept.now → c ≡ b ++ p.anew.items → c ≡ bytes_of (take (i + 1) ps)
part_put ps i p a b c less is before first second =
    second ∙ ap (λ (t : List ℕ). t ++ p.anew.items) first ∙ append_assoc a p.kept.now p.anew.items ∙ ap (λ (t : List ℕ). t ++ part_bytes p) before
    ∙ ap (λ (q : Part). bytes_of (take i ps) ++ part_bytes q) is ∙ part_more ps i p less

one_in : (a : List (Bor (List ℕ))) (x : Bor (List ℕ)) → flat_map (λ (piece : Bor (List ℕ)). piece.now) (a ++ x ∷ []) ≡ flat_map (λ (piece : Bor (List ℕ)). piece.now) a ++ x.now
one_in a x = flat_map-append (λ (piece : Bor (List ℕ)). piece.now) a (x ∷ []) ∙ ap (λ (t : List ℕ). flat_map (λ (piece : Bor (List ℕ)). piece.now) a ++ t) (append-nil x.now)

-- and as slices
pub slices_put : (ps : List Part) (i : ℕ) (p : Part) (a b c : List (Bor (List ℕ))) (x y : Bor (List ℕ)) → i < length ps → p ≡ get_or ps i p → flat_map (λ (piece : Bor (List ℕ)). piece.now) a ≡ bytes_of (take i ps)
    → b ≡ a ++ x ∷ [] → c ≡ b ++ y ∷ [] → x.now ≡ p.kept.now → y.now ≡ p.anew.items → flat_map (λ (piece : Bor (List ℕ)). piece.now) c ≡ bytes_of (take (i + 1) ps)
slices_put ps i p a b c x y less is before first second kept_is anew_is =
    let f : Bor (List ℕ) → List ℕ = λ piece. piece.now in
    part_put ps i p (flat_map f a) (flat_map f b) (flat_map f c) less is before
    (ap (flat_map f) first ∙ one_in a x ∙ ap (λ (t : List ℕ). flat_map f a ++ t) kept_is)
    (ap (flat_map f) second ∙ one_in b y ∙ ap (λ (t : List ℕ). flat_map f b ++ t) anew_is)

-- ---- one more OBU

-- it is kept
pub kept : (done bytes : List ℕ) (start at end : ℕ) (l : List Entry) (e : Entry) → start ≤ at → at ≤ end → done ++ slice_range bytes start at ≡ encoded (values_of l) → slice_range bytes at end ≡ canonical_obu e.value
    → done ++ slice_range bytes start end ≡ encoded (values_of (l ++ e ∷ []))
kept done bytes start at end l e first next was is =
    ap (λ (t : List ℕ). done ++ t) (sym (end_to_end bytes start at end first next)) ∙ sym (append_assoc done (slice_range bytes start at) (slice_range bytes at end))
    ∙ ap (λ (t : List ℕ). t ++ slice_range bytes at end) was ∙ ap (λ (t : List ℕ). encoded (values_of l) ++ t) is ∙ sym (encoded_more l e)

-- it was written anew
pub written : (done new anew bytes : List ℕ) (start at end : ℕ) (l : List Entry) (e : Entry) → done ++ slice_range bytes start at ≡ encoded (values_of l) → new ≡ done ++ (slice_range bytes start at ++ anew) → anew ≡ canonical_obu e.value
    → new ++ slice_range bytes end end ≡ encoded (values_of (l ++ e ∷ []))
written done new anew bytes start at end l e was more is =
    nothing_after new bytes end ∙ more ∙ sym (append_assoc done (slice_range bytes start at) anew) ∙ ap (λ (t : List ℕ). t ++ anew) was ∙ ap (λ (t : List ℕ). encoded (values_of l) ++ t) is ∙ sym (encoded_more l e)

-- all were read
pub finished : (done new anew bytes : List ℕ) (start end n : ℕ) (l : List Entry) → done ++ slice_range bytes start n ≡ encoded (values_of l) → end ≡ n → new ≡ done ++ (slice_range bytes start end ++ anew) → anew ≡ [] → new ≡ encoded (values_of l)
finished done new anew bytes start end n l was here more none =
    more ∙ ap (λ (t : List ℕ). done ++ (slice_range bytes start end ++ t)) none ∙ ap (λ (t : List ℕ). done ++ t) (append-nil (slice_range bytes start end)) ∙ ap (λ (k : ℕ). done ++ slice_range bytes start k) here ∙ was

-- ---- places

-- the bytes of an OBU, where it is in the same bytes
pub piece_there : (there buffer bytes : List ℕ) (from at end : ℕ) → there ≡ slice_range buffer from end → buffer ≡ bytes → from ≡ at → there ≡ slice_range bytes at end
piece_there there buffer bytes from at end is same place = is ∙ ap (λ (b : List ℕ). slice_range b from end) same ∙ ap (λ (k : ℕ). slice_range bytes k end) place

-- it is respelled of its own bytes
pub own : (r : Respelling) (bytes : List ℕ) (l : List Entry) → IsRespelled r bytes (length bytes) l → IsRespelled r r.buffer.now (length r.buffer.now) l
own r bytes l is = subst (λ (b : List ℕ). IsRespelled r b (length b) l) (sym is.same) is

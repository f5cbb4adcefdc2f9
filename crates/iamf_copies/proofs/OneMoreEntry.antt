-- One more entry in the list that the copies stand for.
use Rattle.std.proofs.Common.{◌≡◌, ℕ, false, ◌&&◌, ◌||◌, cond, eqb, eqb-true, List, [], ◌∷◌, ◌++◌, Vec, Global, refl, sym, ap, ap₂, ◌∙◌, inl, inr, arith}
use Rattle.std.specs.Prelude.{Some}
use Rattle.std.specs.Str.{bytes_eq}
use Rattle.std.specs.Ordering.{nat_cmp}
use Rattle.std.specs.BTreeMap.{BTreeMap, get, is_at}
use Rattle.std.specs.BTreeSet.{BTreeSet}
use Rattle.std.proofs.lemmas.Bool.{cases_Bool}
use Rattle.spec_obu.specs.Header.{Head}
use Rattle.spec_sequence.specs.Reading.{Entry, is_copied, is_repeated}
use Rattle.spec_rules.proofs.Basics.{or_false, any-push}
use Rattle.iamf_copies.specs.declared.copies.Copies.{Copies}
use Rattle.iamf_copies.specs.Sets.{has_bytes, has_in}
use Rattle.iamf_copies.specs.Standing.{has_copy, Stands}

repeated-push : (past : List Entry) (e : Entry) (h : Head) (payload : List ℕ) → is_repeated (past ++ e ∷ []) h payload ≡ (is_repeated past h payload || is_copied h payload e)
repeated-push past e h payload = any-push (is_copied h payload) past e

-- ---- a set that was found has one more payload, or a set is added

pub has_in-updates : (old new : BTreeMap ℕ (BTreeSet (Vec ℕ Global))) (obu_type : ℕ) (set : BTreeSet (Vec ℕ Global)) (payload : List ℕ)
    → ((q : ℕ) → get nat_cmp new q ≡ cond (is_at (nat_cmp obu_type) q) (Some set) (get nat_cmp old q))
    → ((p : List ℕ) → has_bytes set p ≡ (has_in (get nat_cmp old obu_type) p || bytes_eq payload p))
    → (k : ℕ) (p : List ℕ) → has_in (get nat_cmp new k) p ≡ (has_in (get nat_cmp old k) p || (eqb obu_type k && bytes_eq payload p))
has_in-updates old new obu_type set payload updates more k p =
    ap (λ o. has_in o p) (updates k ∙ ap (λ b. cond b (Some set) (get nat_cmp old k)) (is_at_number obu_type k)) ∙ elim (cases_Bool (eqb obu_type k)) [
      | inl same ↦ rw (same) (more p ∙ ap (λ n. has_in (get nat_cmp old n) p || bytes_eq payload p) (eqb-true obu_type k same))
      | inr other ↦ rw other (sym (or_false (has_in (get nat_cmp old k) p)))
    ]
  where
    is_at_number : (a b : ℕ) → is_at (nat_cmp a) b ≡ eqb a b
    is_at_number a b = grind arith

pub stands_more : (old new : Copies) (past : List Entry) (e : Entry) (obu_type : ℕ) (payload : List ℕ) → Stands old past → e.value.head.kind ≡ obu_type → e.value.head.redundant ≡ false → e.payload ≡ payload
    → ((k : ℕ) (p : List ℕ) → has_copy new k p ≡ (has_copy old k p || (eqb obu_type k && bytes_eq payload p))) → Stands new (past ++ e ∷ [])
stands_more old new past e obu_type payload stands type plain payload_is more h p descriptor =
    more h.kind p ∙ ap₂ (λ a b. a || b) (stands h p descriptor) copied ∙ sym (repeated-push past e h p)
  where
    copied : (eqb obu_type h.kind && bytes_eq payload p) ≡ is_copied h p e
    copied = rw (plain, type, payload_is) refl

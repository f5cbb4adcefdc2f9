-- Texts of lists, one after the other.
use Rattle.std.proofs.Common.{◌≡◌, ℕ, ◌+◌, ◌<◌, List, ◌++◌, length, get_or, take, sym, ap, ◌∙◌, append_assoc, append-nil}
use Rattle.std.specs.List.{flat_map}
use Rattle.std.proofs.lemmas.List.Folds.{flat_map-map}
use Rattle.spec_rules.proofs.Basics.{flat_map-take}

-- how texts that are written one after the other join
pub ruleset texts = (append_assoc, append-nil, flat_map-map)

-- the text of one more of a list is put
pub push_more : {B : Type 0} (text : B → List ℕ) (bs : List B) (i : ℕ) (d : B) (old now new : List ℕ) → i < length bs → now ≡ old ++ flat_map text (take i bs) → new ≡ now ++ text (get_or bs i d)
    → new ≡ old ++ flat_map text (take (i + 1) bs)
push_more text bs i d old now new lt before more =
    more ∙ ap (λ (b : List ℕ). b ++ text (get_or bs i d)) before ∙ append_assoc old (flat_map text (take i bs)) (text (get_or bs i d)) ∙ ap (λ (b : List ℕ). old ++ b) (sym (flat_map-take text bs i d lt))

-- of an item that owns memory
pub push_item : {B : Type 0} (text : B → List ℕ) (bs : List B) (i : ℕ) (item : B) (old now new : List ℕ) → i < length bs → item ≡ get_or bs i item → now ≡ old ++ flat_map text (take i bs) → new ≡ now ++ text item
    → new ≡ old ++ flat_map text (take (i + 1) bs)
push_item text bs i item old now new lt is before more = push_more text bs i item old now new lt before (more ∙ ap (λ b. now ++ text b) is)

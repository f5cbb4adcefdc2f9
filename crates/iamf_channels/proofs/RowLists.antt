-- Lists of rows.
use Rattle.std.proofs.Common.{arith, ◌≡◌, ◌≢◌, ◌<◌, ◌+◌, ℕ, zero, suc, List, [], ◌∷◌, ◌++◌, map, length, get_or, get_or-set_same, get_or-set_other, below_more, refl, sym, ap, ◌∙◌}
use Rattle.std.proofs.Math.ListN.{set}
use Rattle.std.proofs.lemmas.List.{length-map, get_or-map}
use Rattle.std.specs.List.{All}
use Rattle.std.proofs.lemmas.List.Elements.{All-nil, All-cons}
use Rattle.iamf_bits.specs.Rows.{Rows}
use Rattle.iamf_channels.specs.Decoded.{no_rows}

pub same_default : (planes : List Rows) (k : ℕ) (d e : Rows) → k < length planes → get_or planes k d ≡ get_or planes k e
same_default [] k d e h = absurd (omega arith)
same_default (p ∷ planes) zero d e h = refl
same_default (p ∷ planes) (suc k) d e h = same_default planes k d e (omega arith)

pub same_count : (f : Rows → ℕ) (a b : List Rows) → map f b ≡ map f a → length b ≡ length a
same_count f a b e = sym (length-map b f) ∙ ap (λ (ns : List ℕ). length ns) e ∙ length-map a f

pub same_at : (f : Rows → ℕ) (a b : List Rows) (i : ℕ) → map f b ≡ map f a → i < length a → f (get_or a i no_rows) ≡ f (get_or b i no_rows)
same_at f a b i e h =
    let long = same_count f a b e in
    sym (get_or-map f a i no_rows 0 h) ∙ ap (λ (ns : List ℕ). get_or ns i 0) (sym e) ∙ get_or-map f b i no_rows 0 (omega arith)

pub map_set : (f : Rows → ℕ) (planes : List Rows) (i : ℕ) (y d : Rows) → i < length planes → f y ≡ f (get_or planes i d) → map f (set planes i y) ≡ map f planes
map_set f [] i y d h e = absurd (omega arith)
map_set f (p ∷ planes) zero y d h e = ap (λ (n : ℕ). n ∷ map f planes) e
map_set f (p ∷ planes) (suc i) y d h e = ap (λ (ns : List ℕ). f p ∷ ns) (map_set f planes i y d (omega arith) e)

pub done_more : (P : ℕ → Rows → Type 0) (planes : List Rows) (i : ℕ) (y : Rows) → i < length planes → ((k : ℕ) → k < i → P k (get_or planes k no_rows)) → P i y → (k : ℕ) → k < i + 1 → P k (get_or (set planes i y) k no_rows)
done_more P planes i y h before here =
    below_more (λ k. P k (get_or (set planes i y) k no_rows)) i (λ k low. let ne : k ≢ i = omega arith in rw get_or-set_other (before k low)) (rw get_or-set_same here)

pub map_pushed : (f : Rows → ℕ) (planes : List Rows) (y : Rows) (n : ℕ) (ns : List ℕ) → map f planes ≡ ns → f y ≡ n → map f (planes ++ y ∷ []) ≡ ns ++ n ∷ []
map_pushed f [] y n ns e h = ap (λ (k : ℕ). k ∷ []) h ∙ ap (λ (ks : List ℕ). ks ++ n ∷ []) e
map_pushed f (p ∷ planes) y n ns e h = ap (λ (ks : List ℕ). f p ∷ ks) (map_pushed f planes y n (map f planes) refl h) ∙ ap (λ (ks : List ℕ). ks ++ n ∷ []) e

pub all_pushed : (P : Rows → Type 0) (planes : List Rows) (y : Rows) → All P planes → P y → All P (planes ++ y ∷ [])
all_pushed P [] y all h = All-cons P y [] h (All-nil P)
all_pushed P (p ∷ planes) y all h = All-cons P p (planes ++ y ∷ []) (all 0 p (omega arith)) (all_pushed P planes y (λ k d low. all (suc k) d (omega arith)) h)

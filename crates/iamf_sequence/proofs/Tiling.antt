-- OBUs that stand one after the other.
use Rattle.std.proofs.Common.{◌≡◌, ℕ, ◌-◌, ◌<◌, List, [], ◌∷◌, ◌++◌, map, take, drop, refl, sym, subst, ◌∙◌}
use Rattle.std.proofs.lemmas.List.{map-append}
use Rattle.spec_obu.specs.Header.{Header}
use Rattle.obu_header.specs.View.{head_of}
use Rattle.obu_header.specs.declared.view.ObuView.{ObuView}
use Rattle.iamf_sequence.specs.declared.parts.Placed.{Placed}
use Rattle.iamf_sequence.specs.Places.{Tiles}
use Rattle.iamf_sequence.specs.SequenceView.{views_of}

tiles_last : (bytes : List ℕ) (from to : ℕ) (os : List ObuView) (o : ObuView) → Tiles bytes from os to → o.at ≡ to → to < o.end → Header (head_of o.head) o.payload.now (take (o.end - to) (drop to bytes))
    → Tiles bytes from (os ++ o ∷ []) o.end
tiles_last bytes from to [] o t at onward header =
    let e : to ≡ from = sym t in
    (at ∙ e, subst (λ (n : ℕ). n < o.end) e onward, subst (λ (n : ℕ). Header (head_of o.head) o.payload.now (take (o.end - n) (drop n bytes))) e header, refl)
tiles_last bytes from to (x ∷ os) o t at onward header = (t.0, t.1, t.2, tiles_last bytes x.end to os o t.3 at onward header)

-- one more
pub tiles_more : (bytes : List ℕ) (from to : ℕ) (obus : List Placed) (p : Placed) → Tiles bytes from (views_of obus) to → p.view.at ≡ to → to < p.view.end
    → Header (head_of p.view.head) p.view.payload.now (take (p.view.end - to) (drop to bytes)) → Tiles bytes from (views_of (obus ++ p ∷ [])) p.view.end
tiles_more bytes from to obus p t at onward header =
    subst (λ (vs : List ObuView). Tiles bytes from vs p.view.end) (sym (map-append (λ o. o.view) obus (p ∷ []))) (tiles_last bytes from to (map (λ o. o.view) obus) p.view t at onward header)

-- The view of each OBU of a sequence stands where the OBUs before it end.
use Rattle.std.proofs.Common.{◌≡◌, ℕ, zero, suc, ◌+◌, ◌-◌, ◌<◌, ◌≤◌, List, [], ◌∷◌, ◌++◌, length, get_or, take, drop, refl, sym, ap, subst, ◌∙◌, arith, append_assoc, append-nil, add-one}
use Rattle.std.specs.Prelude.{Some, slice_get}
use Rattle.std.proofs.lemmas.List.{take-append-drop, drop-drop}
use Rattle.std.proofs.Math.Seq.{take-add}
use Rattle.spec_obu.specs.Header.{Head, Header}
use Rattle.spec_values.specs.Value.{Spells}
use Rattle.spec_sequence.specs.Reading.{Entry, context_after, AdmittedAfter, Admitted}
use Rattle.spec_values.proofs.Obus.{same_first}
use Rattle.obu_header.specs.declared.view.ObuView.{ObuView}
use Rattle.obu_header.specs.View.{head_of}
use Rattle.iamf_sequence.specs.declared.parts.Placed.{Placed}
use Rattle.iamf_sequence.specs.Places.{Tiles, IsObuAt}
use Rattle.iamf_sequence.specs.SequenceValue.{SequenceValue}
use Rattle.iamf_sequence.specs.SequenceView.{AreViews, views_of}
use Rattle.iamf_sequence.proofs.Advancing.{admitted_last}

-- what tiles goes on
tiled_onward : (bytes : List ℕ) (from to : ℕ) (os : List ObuView) → Tiles bytes from os to → from ≤ to
tiled_onward bytes from to [] t = omega (arith, t)
tiled_onward bytes from to (o ∷ os) t = omega (arith, t.1, tiled_onward bytes o.end to os t.3)

-- of an OBU of a list that stands after others, up to an end
pub record StandsAt (bytes : List ℕ) (past es : List Entry) (end i : ℕ) (o : ObuView) : Type 0 where
  pub entry : Entry
  pub there : slice_get es i ≡ Some entry
  pub head : head_of o.head ≡ entry.value.head
  pub payload : o.payload.now ≡ entry.payload
  pub before : Admitted (take o.at bytes) (past ++ take i es)
  pub onward : o.at < o.end
  pub within : o.end ≤ end
  pub header : Header (head_of o.head) o.payload.now (take (o.end - o.at) (drop o.at bytes))
  pub after : Admitted (take o.end bytes) (past ++ take (suc i) es)

-- the first of them, and what follows it
record Splits (bytes : List ℕ) (past : List Entry) (e : Entry) (es : List Entry) (o : ObuView) : Type 0 where
  after : Admitted (take o.end bytes) (past ++ e ∷ [])
  more : AdmittedAfter (past ++ e ∷ []) (drop o.end bytes) es

splits : (bytes : List ℕ) (past : List Entry) (e : Entry) (es : List Entry) (at : ℕ) (o : ObuView) → Admitted (take at bytes) past → AdmittedAfter past (drop at bytes) (e ∷ es) → at < o.end
    → Header (head_of o.head) o.payload.now (take (o.end - at) (drop at bytes)) → head_of o.head ≡ e.value.head → o.payload.now ≡ e.payload → Splits bytes past e es o
splits bytes past e es at o before h onward header head payload =
    let front : List ℕ = take (o.end - at) (drop at bytes) in
    let back : List ℕ = drop (o.end - at) (drop at bytes) in
    let spelled : Header e.value.head e.payload front =
    subst (λ (x : Head). Header x e.payload front) head (subst (λ (b : List ℕ). Header (head_of o.head) b front) payload header) in
    let second : Spells (context_after past) e.value e.payload front = record { header = spelled; payload_is = h.3.payload_is } in
    let same = same_first (context_after past) e.value e.value e.payload e.payload h.0 front h.1 back h.3 second (sym h.2 ∙ sym (take-append-drop (o.end - at) (drop at bytes))) in
    let step : at + (o.end - at) ≡ o.end = omega (arith, onward) in
    let moved : back ≡ drop o.end bytes = drop-drop (o.end - at) at bytes ∙ ap (λ (k : ℕ). drop k bytes) step in
    let grown : take o.end bytes ≡ take at bytes ++ front = ap (λ (n : ℕ). take n bytes) (sym step) ∙ take-add at (o.end - at) bytes in
    record {
      after = subst (λ (b : List ℕ). Admitted b (past ++ e ∷ [])) (sym grown) (admitted_last [] (take at bytes) front past e before second h.4);
      more = subst (λ (b : List ℕ). AdmittedAfter (past ++ e ∷ []) b es) (same.rests ∙ moved) h.5;
    }

stands_at : (bytes : List ℕ) (past es : List Entry) (at end : ℕ) (ps : List Placed) (i : ℕ) (d : Placed) → Admitted (take at bytes) past → AdmittedAfter past (drop at bytes) es → Tiles bytes at (views_of ps) end → AreViews (views_of ps) es → i < length ps
    → StandsAt bytes past es end i (get_or ps i d).view
stands_at bytes past es at end [] i d before h tiles views below = absurd (omega arith)
stands_at bytes past [] at end (p ∷ ps) i d before h tiles views below = absurd views
stands_at bytes past (e ∷ es) at end (p ∷ ps) zero d before h tiles views below =
    let s = splits bytes past e es at p.view before h tiles.1 tiles.2 views.0 views.1 in
    let here : at ≡ p.view.at = sym tiles.0 in
    record {
      entry = e;
      there = refl;
      head = views.0;
      payload = views.1;
      before = subst (λ (n : ℕ). Admitted (take n bytes) (past ++ [])) here (subst (λ (l : List Entry). Admitted (take at bytes) l) (sym (append-nil past)) before);
      onward = subst (λ (n : ℕ). n < p.view.end) here tiles.1;
      within = tiled_onward bytes p.view.end end (views_of ps) tiles.3;
      header = subst (λ (n : ℕ). Header (head_of p.view.head) p.view.payload.now (take (p.view.end - n) (drop n bytes))) here tiles.2;
      after = s.after;
    }
stands_at bytes past (e ∷ es) at end (p ∷ ps) (suc i) d before h tiles views below =
    let s = splits bytes past e es at p.view before h tiles.1 tiles.2 views.0 views.1 in
    let r = stands_at bytes (past ++ e ∷ []) es p.view.end end ps i d s.after s.more tiles.3 views.2 (omega arith) in
    record {
      entry = r.entry;
      there = r.there;
      head = r.head;
      payload = r.payload;
      before = subst (λ (l : List Entry). Admitted (take (get_or ps i d).view.at bytes) l) (append_assoc past (e ∷ []) (take i es)) r.before;
      onward = r.onward;
      within = r.within;
      header = r.header;
      after = subst (λ (l : List Entry). Admitted (take (get_or ps i d).view.end bytes) l) (append_assoc past (e ∷ []) (take (suc i) es)) r.after;
    }

pub obu_at : (v : SequenceValue) (ps : List Placed) (i : ℕ) (d : Placed) → Admitted v.bytes v.entries → Tiles v.bytes 0 (views_of ps) (length v.bytes) → AreViews (views_of ps) v.entries → i < length ps → IsObuAt v i (get_or ps i d).view
obu_at v ps i d admitted tiles views below =
    let r = stands_at v.bytes [] v.entries 0 (length v.bytes) ps i d refl admitted tiles views below in
    record {
      entry = r.entry;
      there = r.there;
      head = r.head;
      payload = r.payload;
      before = r.before;
      onward = r.onward;
      within = r.within;
      header = r.header;
      after = subst (λ (n : ℕ). Admitted (take (get_or ps i d).view.end v.bytes) (take n v.entries)) (sym (add-one i)) r.after;
    }

-- Every file has one answer.
use Rattle.std.proofs.Common.{◌≡◌, ℕ, Bool, List, Some, None, Ok, Err, refl, sym, ap, ◌∙◌, inl, inr}
use Rattle.std.specs.Prelude.{◌⊎◌}
use Rattle.spec_boxes.specs.declared.fault.BoxRefusal.{BoxRefusal}
use Rattle.spec_boxes.specs.Tracks.{Track, track_at}
use Rattle.spec_boxes.specs.Code.{code_of}
use Rattle.spec_boxes.specs.Rules.{Test, first_of, answer, rules, track}
use Rattle.spec_boxes.specs.Laws.{HoldsIn, RefusesIn, OneAnswer}
use Rattle.spec_boxes.proofs.RuledTrack.{track_is}

some_of : (whole : Bool) (f : List ℕ) (t : Test) → first_of (rules whole f) ≡ t → ((config : List ℕ) × (samples : List (List ℕ)) × HoldsIn whole f config samples) ⊎ ((at : ℕ) × (code : ℕ) × RefusesIn whole f at code)
some_of whole f None is = inl ((track f).config, (track f).samples, (is, refl, refl))
some_of whole f (Some e) is = inr (e.at, code_of e.fault, (e.fault, is, refl))

place_of : Test → ℕ
place_of None = 0
place_of (Some e) = e.at

number_of : Test → ℕ
number_of None = 0
number_of (Some e) = code_of e.fault

pub one_answer : (whole : Bool) (f : List ℕ) → OneAnswer whole f
unfolding place_of number_of
one_answer whole f = record {
  some = some_of whole f (first_of (rules whole f)) refl;
  exclusive = λ config samples at code h r. let e = h.0 in let d = r.1 in cc;
  one_track = λ c d u v h k. (sym h.1 ∙ k.1, sym h.2 ∙ k.2);
  one_refusal = λ at to code other r s. (ap place_of (sym r.1 ∙ s.1), sym r.2 ∙ ap number_of (sym r.1 ∙ s.1) ∙ s.2);
}

answered : (t : Test) (x y : Track) → answer t x ≡ Ok y → (t ≡ None) × (x ≡ y)
answered None x y h = (refl, cc)
answered (Some e) x y h = cc

refused : (t : Test) (x : Track) (e : BoxRefusal) → answer t x ≡ Err e → t ≡ Some e
refused None x e h = cc
refused (Some d) x e h = cc

-- what reading answers
pub read_holds : (whole : Bool) (f : List ℕ) (t : Track) → track_at whole f ≡ Ok t → HoldsIn whole f t.config t.samples
read_holds whole f t h =
    let a = answered (first_of (rules whole f)) (track f) t (sym (track_is whole f) ∙ h) in
    (a.0, ap (λ (x : Track). x.config) a.1, ap (λ (x : Track). x.samples) a.1)

pub read_trak : (whole : Bool) (f : List ℕ) (t : Track) → track_at whole f ≡ Ok t → t.trak ≡ (track f).trak
read_trak whole f t h =
    let a = answered (first_of (rules whole f)) (track f) t (sym (track_is whole f) ∙ h) in
    sym (ap (λ (x : Track). x.trak) a.1)

pub read_refuses : (whole : Bool) (f : List ℕ) (e : BoxRefusal) → track_at whole f ≡ Err e → RefusesIn whole f e.at (code_of e.fault)
read_refuses whole f e h = (e.fault, refused (first_of (rules whole f)) (track f) e (sym (track_is whole f) ∙ h), refl)

pub read_fails : (whole : Bool) (f : List ℕ) (e : BoxRefusal) → track_at whole f ≡ Err e → first_of (rules whole f) ≡ Some e
read_fails whole f e h = refused (first_of (rules whole f)) (track f) e (sym (track_is whole f) ∙ h)

-- What is read of a part tiles it, and what tiles it is read.
use Rattle.std.proofs.Common.{◌≡◌, ℕ, zero, suc, ◌+◌, ◌-◌, ◌<◌, ◌≤◌, Bool, true, false, nat_lt, List, [], ◌∷◌, Result, Ok, Err, refl, sym, ap, subst, ◌∙◌, arith, inl, inr}
use Rattle.std.specs.Prelude.{◌==◌, ◌||◌, ◌⊎◌, if◌then◌else◌}
use Rattle.std.proofs.lemmas.Bool.{le-ltb, eqb-true, eq-eqb, ne_eqb, ltb-true, ltb-false}
use Rattle.spec_boxes.specs.declared.fault.BoxRefusal.{BoxRefusal}
use Rattle.spec_boxes.specs.declared.fault.BoxFault.TheVariants.{BoxSize}
use Rattle.spec_boxes.specs.Bytes.{word_at, long_at, kind_at}
use Rattle.spec_bits.specs.ByteReading.{◌>>=◌}
use Rattle.spec_boxes.specs.Boxes.{Box, refuse, sized, box_at, tiles}
use Rattle.spec_boxes.specs.Tiling.{IsSized, Stands, NoneStands, EndToEnd, Stop, PartsTile}
use Rattle.spec_boxes.specs.Tiling.IsSized.{Short, Long, ToEnd}
use Rattle.spec_boxes.proofs.Tiles.{tiles_end, tiles_next, tiles_fault}

if_ok : {A F : Type 0} (t : Bool) (x y : Result A F) (b : A) → (if t then x else y) ≡ Ok b → ((t ≡ true) × (x ≡ Ok b)) ⊎ ((t ≡ false) × (y ≡ Ok b))
if_ok true x y b h = inl (refl, h)
if_ok false x y b h = inr (refl, h)

-- what a sized box is
record IsAt (f : List ℕ) (at header size end : ℕ) (b : Box) : Type 0 where
  place : b.at ≡ at
  begins : b.start ≡ at + header
  ends : b.end ≡ at + size
  header_in : header ≤ size
  size_in : size ≤ end - at
  named : b.kind ≡ kind_at f (at + 4)

or_false : (a b : Bool) → (a || b) ≡ false → (a ≡ false) × (b ≡ false)
or_false true b h = cc
or_false false b h = (refl, h)

box_same : (x y : Box) → x ≡ y → (y.at ≡ x.at) × (y.start ≡ x.start) × (y.end ≡ x.end) × (y.kind ≡ x.kind)
box_same x y h = rw h (refl, refl, refl, refl)

abbrev found : Box → Result Box BoxRefusal
found b = Ok b

ok_same : (x y : Box) → found x ≡ found y → x ≡ y
ok_same x y h = cc

refuse_not : (at : ℕ) (b : Box) → refuse at BoxSize ≡ Ok b → ⊥
refuse_not at b h = cc

sized_is : (f : List ℕ) (at header size end : ℕ) (b : Box) → sized f at header size end ≡ Ok b → IsAt f at header size end b
sized_is f at header size end b h =
    elim (if_ok (nat_lt size header || nat_lt (end - at) size) (refuse at BoxSize) (Ok (record { at = at; start = at + header; end = at + size; kind = kind_at f (at + 4) })) b h) [
      | inl l ↦ absurd (refuse_not at b l.1)
      | inr r ↦
          let n = or_false (nat_lt size header) (nat_lt (end - at) size) r.0 in
          let s = box_same _ b (ok_same (record { at = at; start = at + header; end = at + size; kind = kind_at f (at + 4) }) b r.1) in
          record { place = s.0; begins = s.1; ends = s.2; header_in = ltb-false size header n.0; size_in = ltb-false (end - at) size n.1; named = s.3 }
    ]

-- from a box that is read to one that stands there, by the form of its size
stands_of : (top : Bool) (f : List ℕ) (at header size end : ℕ) (b : Box) → at ≤ end → IsAt f at header size end b → IsSized top f b end → (b.at ≡ at) × Stands top f end b
stands_of top f at header size end b order is form = (
  is.place,
  record {
    sized = form;
    header = omega (arith, is.begins, is.ends, is.header_in);
    within = omega (arith, is.ends, is.size_in);
    named = ap (λ (x : ℕ). kind_at f (x + 4)) is.place ∙ sym is.named;
  },
)

pub read_stands : (top : Bool) (f : List ℕ) (at end : ℕ) (b : Box) → at ≤ end → box_at top f at end ≡ Ok b → (b.at ≡ at) × Stands top f end b
unfolding box_at
read_stands top f at end b order h =
    elim (if_ok (nat_lt (end - at) 8) _ _ b h) [
      | inl l ↦ absurd (refuse_not at b l.1)
      | inr room ↦
          elim (if_ok (word_at f at == 1) _ _ b room.1) [
            | inl one ↦ elim (if_ok (nat_lt (end - at) 16) _ _ b one.1) [
              | inl l ↦ absurd (refuse_not at b l.1)
              | inr r ↦ let is = sized_is f at 16 (long_at f (at + 8)) end b r.1 in
                  stands_of top f at 16 (long_at f (at + 8)) end b order is (Long (is.begins ∙ ap (λ (x : ℕ). x + 16) (sym is.place)) (ap (word_at f) is.place ∙ eqb-true (word_at f at) 1 one.0) (ap (λ (x : ℕ). long_at f (x + 8)) is.place ∙ omega (arith, is.place, is.ends)))
            ]
            | inr other ↦ elim (if_ok (word_at f at == 0) _ _ b other.1) [
              | inl none ↦ elim (if_ok top _ _ b none.1) [
                | inl t ↦ let is = sized_is f at 8 (end - at) end b t.1 in
                    stands_of top f at 8 (end - at) end b order is (ToEnd (is.begins ∙ ap (λ (x : ℕ). x + 8) (sym is.place)) (ap (word_at f) is.place ∙ eqb-true (word_at f at) 0 none.0) t.0 (omega (arith, is.ends)))
                | inr l ↦ absurd (refuse_not at b l.1)
              ]
              | inr some ↦ let is = sized_is f at 8 (word_at f at) end b some.1 in
                  stands_of top f at 8 (word_at f at) end b order is (Short (is.begins ∙ ap (λ (x : ℕ). x + 8) (sym is.place)) (ap (word_at f) is.place ∙ omega (arith, is.place, is.ends)))
            ]
          ]
    ]

box_is : (b : Box) (at start end : ℕ) (kind : List ℕ) → b.at ≡ at → b.start ≡ start → b.end ≡ end → b.kind ≡ kind → found (record { at = at; start = start; end = end; kind = kind }) ≡ found b
box_is b at start end kind p q r s = rw (← p, ← q, ← r, ← s) refl

sized_read : (f : List ℕ) (at header size end : ℕ) (b : Box) → b.at ≡ at → b.start ≡ at + header → b.end ≡ at + size → header ≤ size → size ≤ end - at → kind_at f (b.at + 4) ≡ b.kind → sized f at header size end ≡ Ok b
sized_read f at header size end b place begins ends head room named =
    let h : nat_lt size header ≡ false = le-ltb _ _ head in
    let r : nat_lt (end - at) size ≡ false = le-ltb _ _ room in
    rw (h, r) (box_is b at (at + header) (at + size) (kind_at f (at + 4)) place begins ends (sym named ∙ ap (λ (x : ℕ). kind_at f (x + 4)) place))

skip : (t : Bool) (x y : Result Box BoxRefusal) (b : Box) → t ≡ false → y ≡ Ok b → (if t then x else y) ≡ Ok b
skip true x y b e h = cc
skip false x y b e h = h

by_form : (top : Bool) (f : List ℕ) (end : ℕ) (b : Box) → Stands top f end b → IsSized top f b end → box_at top f b.at end ≡ Ok b
unfolding box_at
by_form top f end b s (Short begins word) =
    let room : nat_lt (end - b.at) 8 ≡ false = le-ltb _ _ (omega (arith, s.header, s.within)) in
    let one : (word_at f b.at == 1) ≡ false = ne_eqb _ _ (λ h. omega (arith, s.header, h)) in
    let none : (word_at f b.at == 0) ≡ false = ne_eqb _ _ (λ h. omega (arith, s.header, h)) in
    rw (room, one, none) (sized_read f b.at 8 (word_at f b.at) end b refl begins (omega (arith, s.header)) (omega (arith, s.header)) (omega (arith, s.within)) s.named)
by_form top f end b s (Long begins word long) =
    let room : nat_lt (end - b.at) 8 ≡ false = le-ltb _ _ (omega (arith, s.header, s.within)) in
    let one : (word_at f b.at == 1) ≡ true = eq-eqb _ _ word in
    let more : nat_lt (end - b.at) 16 ≡ false = le-ltb _ _ (omega (arith, s.header, s.within)) in
    rw (room, one, more) (sized_read f b.at 16 (long_at f (b.at + 8)) end b refl begins (omega (arith, s.header)) (omega (arith, s.header)) (omega (arith, s.within)) s.named)
by_form top f end b s (ToEnd begins word is_top all) =
    let room : nat_lt (end - b.at) 8 ≡ false = le-ltb _ _ (omega (arith, s.header, s.within)) in
    let one : (word_at f b.at == 1) ≡ false = ne_eqb _ _ (λ h. omega (arith, h)) in
    let none : (word_at f b.at == 0) ≡ true = eq-eqb _ _ word in
    rw (one, none, is_top) (skip (nat_lt (end - b.at) 8) (refuse b.at BoxSize) (sized f b.at 8 (end - b.at) end) b room (sized_read f b.at 8 (end - b.at) end b refl begins (omega (arith, s.header)) (omega (arith, s.header)) (omega (arith, s.within)) s.named))

pub stands_read : (top : Bool) (f : List ℕ) (at end : ℕ) (b : Box) → b.at ≡ at → Stands top f end b → box_at top f at end ≡ Ok b
stands_read top f at end b place s = rw (← place) (by_form top f end b s s.sized)

-- a part that is not read has no box where reading stops
fault_by : (t : Bool) (x y : Result Box BoxRefusal) (e : BoxRefusal) (at : ℕ) → (x ≡ Err e → e ≡ record { at = at; fault = BoxSize }) → (y ≡ Err e → e ≡ record { at = at; fault = BoxSize }) → (if t then x else y) ≡ Err e → e ≡ record { at = at; fault = BoxSize }
fault_by true x y e at p q h = p h
fault_by false x y e at p q h = q h

refused_at : (e : BoxRefusal) (at : ℕ) → refuse {A = Box} at BoxSize ≡ Err e → e ≡ record { at = at; fault = BoxSize }
refused_at e at h = cc

found_not : (b : Box) (e : BoxRefusal) (at : ℕ) → found b ≡ Err e → e ≡ record { at = at; fault = BoxSize }
found_not b e at h = cc

sized_fault : (f : List ℕ) (at header size end : ℕ) (e : BoxRefusal) → sized f at header size end ≡ Err e → e ≡ record { at = at; fault = BoxSize }
sized_fault f at header size end e h = fault_by (nat_lt size header || nat_lt (end - at) size) _ _ e at (refused_at e at) (found_not _ e at) h

pub box_fault : (top : Bool) (f : List ℕ) (at end : ℕ) (e : BoxRefusal) → box_at top f at end ≡ Err e → e ≡ record { at = at; fault = BoxSize }
unfolding box_at
box_fault top f at end e h =
    fault_by (nat_lt (end - at) 8) _ _ e at (refused_at e at) (λ a.
    fault_by (word_at f at == 1) _ _ e at (λ b. fault_by (nat_lt (end - at) 16) _ _ e at (refused_at e at) (sized_fault f at 16 (long_at f (at + 8)) end e) b) (λ b.
    fault_by (word_at f at == 0) _ _ e at (λ d. fault_by top _ _ e at (sized_fault f at 8 (end - at) end e) (refused_at e at) d) (sized_fault f at 8 (word_at f at) end e) b) a) h

-- where a box is read, and where none is
one_of : (r : Result Box BoxRefusal) → ((b : Box) × (r ≡ Ok b)) ⊎ ((e : BoxRefusal) × (r ≡ Err e))
one_of (Ok b) = inl (b, refl)
one_of (Err e) = inr (e, refl)

onward : (top : Bool) (f : List ℕ) (end : ℕ) (b : Box) → Stands top f end b → b.at + 8 ≤ b.end
onward top f end b s = by s.sized where
  by : IsSized top f b end → b.at + 8 ≤ b.end
  by (Short begins word) = omega (arith, s.header)
  by (Long begins word long) = omega (arith, s.header)
  by (ToEnd begins word is_top all) = omega (arith, s.header)

abbrev boxes_ok : List Box → Result (List Box) BoxRefusal
boxes_ok bs = Ok bs

abbrev boxes_err : BoxRefusal → Result (List Box) BoxRefusal
boxes_err e = Err e

cons_of : (b : Box) (r : Result (List Box) BoxRefusal) (bs : List Box) → (r >>= λ cs. Ok (b ∷ cs)) ≡ Ok bs → (cs : List Box) × (r ≡ Ok cs) × (bs ≡ b ∷ cs)
cons_of b (Ok cs) bs h = (cs, refl, cc)
cons_of b (Err e) bs h = cc

cons_fault : (b : Box) (r : Result (List Box) BoxRefusal) (e : BoxRefusal) → (r >>= λ cs. Ok (b ∷ cs)) ≡ Err e → r ≡ Err e
cons_fault b (Ok cs) e h = cc
cons_fault b (Err d) e h = cc

-- what is read tiles; n is at least the number of bytes that are left
not_read : (e : BoxRefusal) (bs : List Box) → boxes_err e ≡ boxes_ok bs → ⊥
not_read e bs q = cc

none_left : (bs : List Box) → boxes_ok [] ≡ boxes_ok bs → bs ≡ []
none_left bs h = cc

abbrev ReadsTiles : ℕ → Type 0
ReadsTiles n = (top : Bool) (f : List ℕ) (at end : ℕ) → at ≤ end → end - at ≤ n → (bs : List Box) → tiles top f at end ≡ Ok bs → EndToEnd top f at end end bs

at_end : (top : Bool) (f : List ℕ) (at end : ℕ) (bs : List Box) → at ≡ end → tiles top f at end ≡ Ok bs → EndToEnd top f at end end bs
at_end top f at end bs past h = subst (λ (x : List Box). EndToEnd top f at end end x) (sym (none_left bs (sym (tiles_end top f at end (omega arith)) ∙ h))) past

read_by : (n : ℕ) → ReadsTiles n → (top : Bool) (f : List ℕ) (at end : ℕ) (r : Result Box BoxRefusal) → at < end → end - at ≤ suc n → (bs : List Box) → tiles top f at end ≡ Ok bs → box_at top f at end ≡ r → EndToEnd top f at end end bs
read_by n later top f at end (Ok b) less few bs h is =
    let s = read_stands top f at end b (omega arith) is in
    let o = onward top f end b s.1 in
    let c = cons_of b (tiles top f b.end end) bs (sym (tiles_next top f at end b less is) ∙ h) in
    let rest = later top f b.end end (s.1).within (omega (arith, s.0, o)) c.0 c.1 in
    subst (λ (x : List Box). EndToEnd top f at end end x) (sym c.2) (s.0, s.1, rest)
read_by n later top f at end (Err e) less few bs h is = absurd (not_read e bs (sym (tiles_fault top f at end e less is) ∙ h))

at_or_before : (n : ℕ) (t : Bool) → ReadsTiles n → (top : Bool) (f : List ℕ) (at end : ℕ) → nat_lt at end ≡ t → at ≤ end → end - at ≤ suc n → (bs : List Box) → tiles top f at end ≡ Ok bs → EndToEnd top f at end end bs
at_or_before n true later top f at end is order few bs h = read_by n later top f at end (box_at top f at end) (ltb-true at end is) few bs h refl
at_or_before n false later top f at end is order few bs h = let p : end ≤ at = ltb-false at end is in at_end top f at end bs (omega arith) h

tiles_read : (n : ℕ) → ReadsTiles n
tiles_read zero top f at end order few bs h = at_end top f at end bs (omega arith) h
tiles_read (suc n) top f at end order few bs h = at_or_before n (nat_lt at end) (tiles_read n) top f at end refl order few bs h

-- and boxes that stand end to end are read
tiles_again : (top : Bool) (f : List ℕ) (at end : ℕ) (bs : List Box) → EndToEnd top f at end end bs → tiles top f at end ≡ Ok bs
tiles_again top f at end [] e = tiles_end top f at end (omega arith)
tiles_again top f at end (b ∷ bs) e =
    let o = onward top f end b (e.1) in
    let s = e.1 in
    let less : at < end = omega (arith, e.0, o, s.within) in
    tiles_next top f at end b less (stands_read top f at end b e.0 s) ∙ ap (λ (r : Result (List Box) BoxRefusal). r >>= λ cs. Ok (b ∷ cs)) (tiles_again top f b.end end bs e.2)

-- where reading stops no box stands
abbrev StopsAt : ℕ → Type 0
StopsAt n = (top : Bool) (f : List ℕ) (at end : ℕ) → at ≤ end → end - at ≤ n → (e : BoxRefusal) → tiles top f at end ≡ Err e → (e ≡ record { at = e.at; fault = BoxSize }) × Stop top f at end e.at

no_fault : (e : BoxRefusal) → boxes_ok [] ≡ boxes_err e → ⊥
no_fault e h = cc

same_fault : (d e : BoxRefusal) → boxes_err d ≡ boxes_err e → d ≡ e
same_fault d e h = cc

both_ways : (b : Box) (d : BoxRefusal) (r : Result Box BoxRefusal) → r ≡ Ok b → r ≡ Err d → ⊥
both_ways b d r p q = cc

at_place : (d : BoxRefusal) (at : ℕ) → d ≡ record { at = at; fault = BoxSize } → d.at ≡ at
at_place d at h = ap (λ (x : BoxRefusal). x.at) h

stop_by : (n : ℕ) → StopsAt n → (top : Bool) (f : List ℕ) (at end : ℕ) (r : Result Box BoxRefusal) → at < end → end - at ≤ suc n → (e : BoxRefusal) → tiles top f at end ≡ Err e → box_at top f at end ≡ r → (e ≡ record { at = e.at; fault = BoxSize }) × Stop top f at end e.at
stop_by n later top f at end (Ok b) less few e h is =
    let s = read_stands top f at end b (omega arith) is in
    let o = onward top f end b s.1 in
    let c = cons_fault b (tiles top f b.end end) e (sym (tiles_next top f at end b less is) ∙ h) in
    let rest = later top f b.end end (s.1).within (omega (arith, s.0, o)) e c in
    (rest.0, record { boxes = b ∷ (rest.1).boxes; are = (s.0, s.1, (rest.1).are); before = (rest.1).before; none = (rest.1).none })
stop_by n later top f at end (Err d) less few e h is =
    let same : d ≡ e = same_fault d e (sym (tiles_fault top f at end d less is) ∙ h) in
    let form : e ≡ record { at = at; fault = BoxSize } = sym same ∙ box_fault top f at end d is in
    let place : e.at ≡ at = at_place e at form in (
      form ∙ ap (λ (x : ℕ). record { at = x; fault = BoxSize }) (sym place),
      record { boxes = []; are = sym place; before = omega (arith, place); none = λ b p s. both_ways b d (box_at top f at end) (stands_read top f at end b (p ∙ place) s) is },
    )

stop_or : (n : ℕ) (t : Bool) → StopsAt n → (top : Bool) (f : List ℕ) (at end : ℕ) → nat_lt at end ≡ t → at ≤ end → end - at ≤ suc n → (e : BoxRefusal) → tiles top f at end ≡ Err e → (e ≡ record { at = e.at; fault = BoxSize }) × Stop top f at end e.at
stop_or n true later top f at end is order few e h = stop_by n later top f at end (box_at top f at end) (ltb-true at end is) few e h refl
stop_or n false later top f at end is order few e h = absurd (no_fault e (sym (tiles_end top f at end (ltb-false at end is)) ∙ h))

tiles_stop : (n : ℕ) → StopsAt n
tiles_stop zero top f at end order few e h = absurd (no_fault e (sym (tiles_end top f at end (omega arith)) ∙ h))
tiles_stop (suc n) top f at end order few e h = stop_or n (nat_lt at end) (tiles_stop n) top f at end refl order few e h

-- and where none stands reading stops
at_stop : (r : Result Box BoxRefusal) (top : Bool) (f : List ℕ) (at end : ℕ) → at < end → box_at top f at end ≡ r → ((b : Box) → b.at ≡ at → Stands top f end b → ⊥) → tiles top f at end ≡ Err (record { at = at; fault = BoxSize })
at_stop (Ok b) top f at end less is none = let s = read_stands top f at end b (omega arith) is in absurd (none b s.0 s.1)
at_stop (Err d) top f at end less is none = tiles_fault top f at end d less is ∙ ap boxes_err (box_fault top f at end d is)

stop_again : (top : Bool) (f : List ℕ) (at end place : ℕ) (bs : List Box) → EndToEnd top f at place end bs → place < end → ((b : Box) → b.at ≡ place → Stands top f end b → ⊥) → tiles top f at end ≡ Err (record { at = place; fault = BoxSize })
stop_again top f at end place [] e less none =
    at_stop (box_at top f at end) top f at end (omega arith) refl (λ b p s. none b (p ∙ e) s) ∙ ap (λ (x : ℕ). boxes_err (record { at = x; fault = BoxSize })) e
stop_again top f at end place (b ∷ bs) e less none =
    let s = e.1 in
    let o = onward top f end b s in
    let l : at < end = omega (arith, e.0, o, s.within) in
    tiles_next top f at end b l (stands_read top f at end b e.0 s) ∙ ap (λ (r : Result (List Box) BoxRefusal). r >>= λ cs. Ok (b ∷ cs)) (stop_again top f b.end end place bs e.2 less none)

pub parts_tile : PartsTile
parts_tile top f at end order = record {
  reads = λ bs h. tiles_read (end - at) top f at end order (omega arith) bs h;
  again = λ bs t. tiles_again top f at end bs t;
  fails = λ e h. tiles_stop (end - at) top f at end order (omega arith) e h;
  stops = λ place s. stop_again top f at end place s.boxes s.are s.before s.none;
}

pub none_stands : (top : Bool) (f : List ℕ) (at end : ℕ) (e : BoxRefusal) → box_at top f at end ≡ Err e → NoneStands top f at end e
none_stands top f at end e h = (box_fault top f at end e h, λ b p s. both_ways b e (box_at top f at end) (stands_read top f at end b p s) h)

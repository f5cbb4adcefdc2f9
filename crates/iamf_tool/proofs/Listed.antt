-- A listing of the front of the bytes, and of the rest.
use Rattle.std.proofs.Common.{◌≡◌, ℕ, ◌+◌, ◌-◌, ◌<◌, ◌≤◌, List, [], ◌∷◌, ◌++◌, length, take, drop, refl, sym, ap, subst, ◌∙◌, arith, append_assoc, length-append, length-drop}
use Rattle.std.proofs.lemmas.List.{length-take, take-append-drop, drop-drop, append-nil, drop_all}
use Rattle.spec_obu.specs.declared.HeaderFault.{HeaderFault}
use Rattle.spec_obu.specs.Header.{Head, Header}
use Rattle.spec_obu.specs.Faults.{IsFirstFault}
use Rattle.spec_obu.specs.Listing.{Obu, line, Lists, Refuses}

-- what the loop keeps: what is said of the rest is said of the whole
pub record IsListed (b text : List ℕ) (at : ℕ) : Type 0 where
  pub within : at ≤ length b
  pub lists : (more : List ℕ) → Lists at (drop at b) more → Lists 0 b (text ++ more)
  pub refuses : (place : ℕ) (f : HeaderFault) → Refuses at (drop at b) place f → Refuses 0 b place f

pub is_begun : (b : List ℕ) → IsListed b [] 0
is_begun b = record { within = omega arith; lists = λ more l. l; refuses = λ place f r. r }

one_listed : (at : ℕ) (o : Obu) (rest more : List ℕ) → Header o.head o.payload o.bytes → Lists (at + length o.bytes) rest more → Lists at (o.bytes ++ rest) (line at o.head (length o.bytes) ++ more)
one_listed at o rest more is l = record {
  obus = o ∷ l.obus;
  are = (is, l.are);
  whole = ap (λ (t : List ℕ). o.bytes ++ t) l.whole;
  text_is = ap (λ (t : List ℕ). line at o.head (length o.bytes) ++ t) l.text_is;
}

one_refused : (at : ℕ) (o : Obu) (rest : List ℕ) (place : ℕ) (f : HeaderFault) → Header o.head o.payload o.bytes → Refuses (at + length o.bytes) rest place f → Refuses at (o.bytes ++ rest) place f
one_refused at o rest place f is r = record {
  obus = o ∷ r.obus;
  rest = r.rest;
  are = (is, r.are);
  whole = ap (λ (t : List ℕ). o.bytes ++ t) r.whole ∙ sym (append_assoc o.bytes _ r.rest);
  place_is = omega (arith, r.place_is, length-append o.bytes);
  begun = r.begun;
  fault = r.fault;
}

pub goes_on : (b text next : List ℕ) (at end : ℕ) (h : Head) (payload : List ℕ) → IsListed b text at → at < end → end ≤ length b → Header h payload (take (end - at) (drop at b))
    → next ≡ text ++ line at h (end - at) → IsListed b next end
goes_on b text next at end h payload listed onward within is more =
    let o : Obu = record { head = h; payload = payload; bytes = take (end - at) (drop at b) } in
    let len : length (take (end - at) (drop at b)) ≡ end - at = omega (arith, length-take (end - at) (drop at b), length-drop at b) in
    let place : at + length (take (end - at) (drop at b)) ≡ end = omega (arith, len) in
    let step : at + (end - at) ≡ end = omega arith in
    let moved : drop (end - at) (drop at b) ≡ drop end b = drop-drop (end - at) at b ∙ ap (λ (k : ℕ). drop k b) step in
    let parts : take (end - at) (drop at b) ++ drop end b ≡ drop at b = ap (λ (t : List ℕ). take (end - at) (drop at b) ++ t) (sym moved) ∙ take-append-drop (end - at) (drop at b) in
    record {
      within = within;
      lists = λ rest l.
          let one = one_listed at o (drop end b) rest is (subst (λ (k : ℕ). Lists k (drop end b) rest) (sym place) l) in
          let two = subst (λ (k : ℕ). Lists at (take (end - at) (drop at b) ++ drop end b) (line at h k ++ rest)) len one in
          let three = listed.lists (line at h (end - at) ++ rest) (subst (λ (t : List ℕ). Lists at t (line at h (end - at) ++ rest)) parts two) in
          subst (λ (t : List ℕ). Lists 0 b t) (sym (append_assoc text (line at h (end - at)) rest) ∙ ap (λ (t : List ℕ). t ++ rest) (sym more)) three;
      refuses = λ where_ f r.
          let one = one_refused at o (drop end b) where_ f is (subst (λ (k : ℕ). Refuses k (drop end b) where_ f) (sym place) r) in
          listed.refuses where_ f (subst (λ (t : List ℕ). Refuses at t where_ f) parts one);
    }

pub ends : (b text : List ℕ) (at : ℕ) → IsListed b text at → length b ≤ at → Lists 0 b text
ends b text at listed past =
    let none : drop at b ≡ [] = drop_all at b past in
    subst (λ (t : List ℕ). Lists 0 b t) (append-nil text) (listed.lists [] (record { obus = []; are = tt; whole = none; text_is = refl }))

pub fails : (b text : List ℕ) (at : ℕ) (f : HeaderFault) → IsListed b text at → at < length b → IsFirstFault f (drop at b) → Refuses 0 b at f
fails b text at f listed here fault =
    listed.refuses at f (record { obus = []; rest = drop at b; are = tt; whole = refl; place_is = omega arith; begun = omega (arith, length-drop at b); fault = fault })

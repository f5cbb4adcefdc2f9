-- What is kept of the substreams goes on as OBUs come.
use Rattle.std.proofs.Common.{◌≡◌, ℕ, ◌+◌, Bool, true, false, ◌||◌, cond, eqb, List, [], ◌∷◌, ◌++◌, length, refl, sym, ap, ◌∙◌, add-zero, eqb-true, length-append}
use Rattle.std.specs.Prelude.{Option, Some, None, nat_eq}
use Rattle.std.specs.List.{flat_map, list_any}
use Rattle.std.specs.Ordering.{nat_cmp}
use Rattle.std.specs.BTreeMap.{BTreeMap, get, btree_map_len}
use Rattle.std.proofs.lemmas.List.Folds.{list_any-append}
use Rattle.spec_rules.specs.Role.{Role, AudioElement, AudioFrame, ElementRole, FrameRole}
use Rattle.spec_rules.specs.Descriptors.{substreams_of, pairs_of, pairs_in, channels_in, substreams, channels_of}
use Rattle.spec_rules.specs.Units.{contains, are_apart, is_data, stream_of, frames_of, open_unit, streams_in}
use Rattle.spec_rules.proofs.Basics.{or_false, flat_map-push, flat_map-push_none, flip}
use Rattle.spec_rules.proofs.DescriptorLists.{substreams-push, substreams-more}
use Rattle.spec_rules.proofs.Placing.{frames_of-push}
use Rattle.spec_rules.proofs.OpenUnits.{frames_of-none}
use Rattle.iamf_rules.specs.declared.substreams.Slot.{Slot}
use Rattle.iamf_rules.specs.SlotSteps.{filled, AreNew, HasSome, Adds}
use Rattle.iamf_rules.specs.Standing.{slot_in, KeepsSubstreams}
use Rattle.spec_rules.proofs.Balance.{IsBalanced}
use Rattle.iamf_rules.proofs.Slots.{apart_after, new_after, channels_none, channels_first, pairs_none, channels_unknown}

some_slot : Option ℕ → ℕ → Option Slot
some_slot channels frames = Some (record { channels = channels; frames = frames })

channels_of-push : (l : List Role) (o : Role) (s : ℕ) → pairs_of o ≡ [] → channels_of (l ++ o ∷ []) s ≡ channels_of l s
unfolding channels_of
channels_of-push l o s none = ap (λ (ps : List (ℕ × ℕ)). channels_in ps s) (flat_map-push_none pairs_of l o none)

-- an OBU that is neither an element nor a frame
pub substreams-other : (slots : BTreeMap ℕ Slot) (l : List Role) (o : Role) → KeepsSubstreams slots l → substreams_of o ≡ [] → pairs_of o ≡ [] → stream_of o ≡ [] → KeepsSubstreams slots (l ++ o ∷ [])
substreams-other slots l o k none no_pairs still = record {
  each = λ s. k.each s ∙ sym (rw (substreams-push l o none, channels_of-push l o s no_pairs, frames_of-push l o s, still, add-zero) refl);
  count = k.count ∙ ap (λ (ss : List ℕ). length ss) (sym (substreams-push l o none));
}

-- ---- a frame

pub substreams-frame : (old new : BTreeMap ℕ Slot) (l : List Role) (f : FrameRole) → KeepsSubstreams old l → IsBalanced l
    → contains (substreams l) f.substream ≡ true → contains (streams_in (open_unit l) l) f.substream ≡ false
    → ((q : ℕ) → get nat_cmp new q ≡ cond (nat_eq q f.substream) (filled (get nat_cmp old q) (open_unit l + 1)) (get nat_cmp old q))
    → btree_map_len new ≡ btree_map_len old → KeepsSubstreams new (l ++ AudioFrame f ∷ [])
substreams-frame old new l f k balanced known fresh slots count = record {
  each = λ q. slots q ∙ rw (k.each q, substreams-push l o refl, channels_of-push l o q refl, frames_of-push l o q) (one q (eqb q f.substream) refl);
  count = count ∙ k.count ∙ ap (λ (ss : List ℕ). length ss) (sym (substreams-push l o refl));
} where
  o : Role
  o = AudioFrame f

  -- the frames of its substream so far are those of the units before
  so_far : frames_of l f.substream ≡ open_unit l
  so_far = balanced.counts f.substream known ∙ rw fresh (add-zero (open_unit l))

  one : (q : ℕ) (b : Bool) → eqb q f.substream ≡ b
      → cond b (filled (slot_in l q) (open_unit l + 1)) (slot_in l q)
      ≡ cond (contains (substreams l) q) (Some (record { channels = channels_of l q; frames = frames_of l q + cond (eqb f.substream q || false) 1 0 })) None
  one q true e =
      let is : q ≡ f.substream = eqb-true q f.substream e in
      rw (flip f.substream q, e, is, known, so_far) refl
  one q false e = rw (flip f.substream q, e, add-zero) refl

-- ---- an element

contains-append : (xs ys : List ℕ) (s : ℕ) → contains (xs ++ ys) s ≡ (contains xs s || contains ys s)
contains-append xs ys s = list_any-append (λ y. eqb y s) xs ys

absent_slot : (slots : BTreeMap ℕ Slot) (l : List Role) (s : ℕ) → KeepsSubstreams slots l → contains (substreams l) s ≡ false → get nat_cmp slots s ≡ None
absent_slot slots l s k none = k.each s ∙ rw none refl

channels-old : (l : List Role) (e : ElementRole) (s : ℕ) → contains e.substreams s ≡ false → channels_of (l ++ AudioElement e ∷ []) s ≡ channels_of l s
unfolding channels_of
channels-old l e s none = ap (λ (ps : List (ℕ × ℕ)). channels_in ps s) (flat_map-push pairs_of l (AudioElement e)) ∙ channels_first (flat_map pairs_of l) (pairs_in e.substreams e.channels) s (pairs_none e.substreams e.channels s none)

channels-new : (l : List Role) (e : ElementRole) (s : ℕ) → contains (substreams l) s ≡ false → channels_of (l ++ AudioElement e ∷ []) s ≡ channels_in (pairs_in e.substreams e.channels) s
unfolding channels_of substreams
channels-new l e s none = ap (λ (ps : List (ℕ × ℕ)). channels_in ps s) (flat_map-push pairs_of l (AudioElement e)) ∙ channels_none (flat_map pairs_of l) (pairs_in e.substreams e.channels) s (channels_unknown l s none)

pub substreams-element : (old new : BTreeMap ℕ Slot) (l : List Role) (e : ElementRole) → KeepsSubstreams old l → list_any is_data l ≡ false
    → are_apart (substreams l ++ e.substreams) ≡ true → Adds old new e.substreams e.channels → KeepsSubstreams new (l ++ AudioElement e ∷ [])
substreams-element old new l e k quiet apart adds = record {
  each = λ s. some.slots s ∙ rw (substreams-more l o, contains-append (substreams l) e.substreams s) (one s (contains e.substreams s) refl);
  count = some.count ∙ rw (k.count, substreams-more l o) (sym (length-append (substreams l) e.substreams));
} where
  o : Role
  o = AudioElement e

  are_new : AreNew old e.substreams
  are_new = record { apart = apart_after (substreams l) e.substreams apart; absent = λ s there. absent_slot old l s k (new_after (substreams l) e.substreams apart s there) }

  some : HasSome old new e.substreams e.channels e.substreams
  some = adds are_new

  frames : (s : ℕ) → frames_of (l ++ AudioElement e ∷ []) s ≡ frames_of l s
  frames s = frames_of-push l (AudioElement e) s ∙ add-zero (frames_of l s)

  one : (s : ℕ) (b : Bool) → contains e.substreams s ≡ b
      → cond b (Some (record { channels = channels_in (pairs_in e.substreams e.channels) s; frames = 0 })) (get nat_cmp old s)
      ≡ cond (contains (substreams l) s || b) (Some (record { channels = channels_of (l ++ o ∷ []) s; frames = frames_of (l ++ o ∷ []) s })) None
  one s true there =
      let fresh : contains (substreams l) s ≡ false = new_after (substreams l) e.substreams apart s there in
      rw (fresh, channels-new l e s fresh, frames s, frames_of-none l s quiet) refl
  one s false other = rw (k.each s, or_false (contains (substreams l) s), channels-old l e s other, frames s) refl

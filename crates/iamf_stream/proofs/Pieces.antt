-- A stream that comes in pieces.
use Rattle.std.proofs.Common.{◌≡◌, ℕ, min, ◌+◌, ◌-◌, ◌^◌, ◌<◌, ◌≤◌, List, [], ◌++◌, length, take, drop, Result, refl, sym, ap, subst, ◌∙◌, arith, append_assoc, length-append, length-drop}
use Rattle.std.proofs.lemmas.List.{length-take, take_all, take-append-drop}
use Rattle.std.proofs.Math.Seq.{take-add}
use Rattle.spec_streams.proofs.Settling.{settled_stays}
use Rattle.iamf_admission.specs.AdmissionView.{AdmissionValue, Stands as AdmissionStands}
use Rattle.iamf_stream.specs.declared.open.Open.{Open}
use Rattle.iamf_stream.specs.declared.walk.Walked.{Walked}
use Rattle.iamf_sequence.specs.declared.refusal.DecodeError.{DecodeError}
use Rattle.iamf_sequence.specs.declared.refusal.DecodeError.TheVariants.{Refused, Memory}
use Rattle.iamf_stream.specs.Waiting.{IsWaiting}
use Rattle.iamf_stream.specs.Standing.{Passed, Stands, HasRoom, HasRoomFor}
use Rattle.iamf_stream.proofs.Fronts.{none_waits}
use Rattle.iamf_stream.proofs.Walking.{rest_all}
use Rattle.iamf_stream.specs.Steps.{Fails, WalksOver, TakesSome, Goes}

-- ---- more bytes

pub passed_more : (a : AdmissionValue) (place : ℕ) (rest stream more : List ℕ) → Passed a place rest stream → Passed a place (rest ++ more) (stream ++ more)
passed_more a place rest stream more p = record {
  good = p.good;
  entries = p.entries;
  splits = ap (λ (b : List ℕ). b ++ more) p.splits ∙ append_assoc p.good rest more;
  place_is = p.place_is;
  admitted = p.admitted;
  stands = p.stands;
}

pub fails_more : (error : DecodeError) (stream more : List ℕ) → Fails error stream → Fails error (stream ++ more)
fails_more (Refused r) stream more s = settled_stays stream more r.at r.fault s
fails_more (Memory e) stream more s = tt

pub waiting_more : (bytes more : List ℕ) (wanted : ℕ) → IsWaiting bytes wanted → length (bytes ++ more) < wanted → IsWaiting (bytes ++ more) wanted
waiting_more bytes more wanted w short = record {
  short = short;
  few = w.few;
  partial = λ later few. rw (append_assoc bytes more later) (w.partial (more ++ later) (rw append_assoc at few));
}

-- the piece in two
pub in_two : (stream piece : List ℕ) (n : ℕ) → (stream ++ take n piece) ++ drop n piece ≡ stream ++ piece
in_two stream piece n = append_assoc stream (take n piece) (drop n piece) ∙ ap (λ (b : List ℕ). stream ++ b) (take-append-drop n piece)

pub fails_later : (error : DecodeError) (stream piece : List ℕ) (n : ℕ) → Fails error (stream ++ take n piece) → Fails error (stream ++ piece)
fails_later error stream piece n f = subst (Fails error) (in_two stream piece n) (fails_more error (stream ++ take n piece) (drop n piece) f)

-- ---- after a walk

pub stands_after : (o : Open) (walked : Walked) (place : ℕ) (bytes stream : List ℕ) → WalksOver o.admission walked place bytes stream → o.passed ≡ place + walked.admitted
    → o.waiting.items ≡ drop walked.admitted bytes → o.wanted ≡ walked.wanted → Stands o stream
stands_after o walked place bytes stream w passed waiting wanted = record {
  passed = rw (passed, waiting) w.left.passed;
  waits = rw (waiting, wanted) w.left.waits;
}

-- the place after a walk is within the stream
pub place_fits : (a : AdmissionValue) (walked : Walked) (place : ℕ) (bytes stream : List ℕ) → WalksOver a walked place bytes stream → place + walked.admitted ≤ length stream
place_fits a walked place bytes stream w =
    let p = w.left.passed in
    omega (arith, p.place_is, ap length p.splits, length-append p.good (drop walked.admitted bytes))

-- ---- the most that there is room for

pub has_room : (o : Open) (piece : List ℕ) → HasRoomFor o piece → HasRoom o.admission o.passed (o.waiting.items ++ piece)
has_room o piece h = (h.0 ++ piece, passed_more o.admission o.passed o.waiting.items h.0 piece h.1.passed, h.2)

-- a front of the piece is no longer than it
pub room_for_front : (o : Open) (piece : List ℕ) (n : ℕ) → HasRoomFor o piece → HasRoomFor o (take n piece)
room_for_front o piece n h = (
  h.0,
  h.1,
  omega (arith, h.2, length-append h.0 piece, length-append h.0 (take n piece), length-take n piece),
)

-- and after it there is room for the rest
pub room_for_rest : (o : Open) (stream piece : List ℕ) (at : ℕ) → length (stream ++ piece) ≤ 2 ^ 40 → Stands o (stream ++ take at piece) → HasRoomFor o (take (length piece - at) (drop at piece))
room_for_rest o stream piece at small stands = (
  stream ++ take at piece,
  stands,
  rw (rest_all piece at, in_two stream piece at) small,
)

-- ---- a front of the piece is added to what waits

-- as much as is wanted at most
pub adds : (o : Open) (piece : List ℕ) (missing count : ℕ) → HasRoomFor o piece → 0 < length piece → missing ≡ o.wanted - length o.waiting.items → count ≡ min missing (length piece)
    → (0 < count) × (count ≤ length piece)
adds o piece missing count h some is least = (omega (arith, h.1.waits.short, some, is, least), omega (arith, least))

pub waits_on : (old new : Open) (count : ℕ) (piece stream : List ℕ) → new.admission ≡ old.admission → new.passed ≡ old.passed → new.wanted ≡ old.wanted
    → new.waiting.items ≡ old.waiting.items ++ take count piece → 0 < count → count ≤ length piece → count < old.wanted - length old.waiting.items → Stands old stream → TakesSome new count piece stream
waits_on old new count piece stream admission passed wanted waiting some within few st =
    let more = passed_more old.admission old.passed old.waiting.items stream (take count piece) st.passed in
    let short : length (old.waiting.items ++ take count piece) < old.wanted = omega (arith, length-append old.waiting.items (take count piece), length-take count piece, few) in
    record {
      some = some;
      takes = record {
        within = within;
        stands = record {
          passed = rw (admission, passed, waiting) more;
          waits = rw (waiting, wanted) (waiting_more old.waiting.items (take count piece) old.wanted st.waits short);
        };
      };
    }

-- ---- the fronts of the piece one after the other

pub take_on : (stream piece : List ℕ) (at count : ℕ) → (stream ++ take at piece) ++ take count (take (length piece - at) (drop at piece)) ≡ stream ++ take (at + count) piece
take_on stream piece at count =
    append_assoc stream (take at piece) (take count (take (length piece - at) (drop at piece)))
    ∙ ap (λ (b : List ℕ). stream ++ (take at piece ++ take count b)) (rest_all piece at)
    ∙ ap (λ (b : List ℕ). stream ++ b) (sym (take-add at count piece))

pub takes_on : (new : Open) (count at : ℕ) (piece stream : List ℕ) → at ≤ length piece → TakesSome new count (take (length piece - at) (drop at piece)) (stream ++ take at piece)
    → (0 < count) × (at + count ≤ length piece) × Stands new (stream ++ take (at + count) piece)
takes_on new count at piece stream within t = (
  t.some,
  omega (arith, t.takes.within, length-take (length piece - at) (drop at piece), length-drop at piece, within),
  subst (Stands new) (take_on stream piece at count) t.takes.stands,
)

pub fails_on : (error : DecodeError) (at : ℕ) (piece stream : List ℕ) → Fails error ((stream ++ take at piece) ++ take (length piece - at) (drop at piece)) → Fails error (stream ++ piece)
fails_on error at piece stream f = rw (rest_all piece at, in_two stream piece at) at f

pub goes_on : (new : Open) (r : Result (Unit {0}) DecodeError) (at : ℕ) (piece stream : List ℕ) → Goes new r ((stream ++ take at piece) ++ take (length piece - at) (drop at piece)) → Goes new r (stream ++ piece)
goes_on new r at piece stream g = subst (Goes new r) (ap (λ (b : List ℕ). (stream ++ take at piece) ++ b) (rest_all piece at) ∙ in_two stream piece at) g

pub takes_whole : (new : Open) (at : ℕ) (piece stream : List ℕ) → length piece ≤ at → Stands new (stream ++ take at piece) → Stands new (stream ++ piece)
takes_whole new at piece stream all st = subst (λ (b : List ℕ). Stands new (stream ++ b)) (take_all at piece all) st

-- ---- a piece where no bytes wait

pub passed_piece : (o : Open) (piece stream : List ℕ) → o.waiting.items ≡ [] → Stands o stream → Passed o.admission o.passed piece (stream ++ piece)
passed_piece o piece stream none st =
    subst (λ (w : List ℕ). Passed o.admission o.passed (w ++ piece) (stream ++ piece)) none (passed_more o.admission o.passed o.waiting.items stream piece st.passed)

-- ---- no bytes

pub stands_new : (o : Open) → AdmissionStands o.admission [] → o.passed ≡ 0 → o.waiting.items ≡ [] → o.wanted ≡ 1 → Stands o []
stands_new o stands passed none wanted = record {
  passed = record { good = []; entries = []; splits = sym none; place_is = passed; admitted = refl; stands = stands };
  waits = rw wanted (none_waits o.waiting.items (ap length none));
}

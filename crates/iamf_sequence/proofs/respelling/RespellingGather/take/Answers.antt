use Rattle.std.proofs.Common.{◌≡◌, ℕ, List, ◌++◌, length, refl, sym, ap, subst, ◌∙◌, arith}
use Rattle.std.specs.Prelude.{Option, Vec, slice_range}
use Rattle.std.specs.Global.{Global}
use Rattle.spec_values.specs.Canonical.{canonical_obu}
use Rattle.iamf_sequence.specs.Anew.{anew_or}
use Rattle.iamf_sequence.specs.PartBytes.{bytes_of}
use Rattle.iamf_sequence.proofs.PartsJoined.{kept, written, piece_there}
use Rattle.iamf_sequence.proofs.respelling.RespellingGather.take.Goals as goal

pub bytes_at-there-requires-clause-onward : goal.bytes_at-there-requires-clause-onward
bytes_at-there-requires-clause-onward c = let r = c.requires in omega (arith, r.5.next.place, r.5.next.onward)

pub bytes_at-there-requires-clause-within : goal.bytes_at-there-requires-clause-within
bytes_at-there-requires-clause-within c = let r = c.requires in omega (arith, r.5.next.within, ap length r.4.same)

pub respelled-requires : goal.respelled-requires
respelled-requires c = let r = c.requires in (r.0, r.1, r.2, r.3, r.5, piece_there _ _ r.0 _ r.1 _ c.bytes_at-there.ensures r.4.same r.5.next.place)

pub close-requires-clause-onward : goal.close-requires-clause-onward
close-requires-clause-onward c = let r = c.requires in omega (arith, r.4.onward, r.4.place)

pub close-requires-clause-within : goal.close-requires-clause-within
close-requires-clause-within c = let r = c.requires in omega (arith, r.4.place, r.4.within, ap length r.4.same)

pub returns-in-None : goal.returns-in-None
returns-in-None c = λ bytes at l e is one.
    let self = c.args.self.now in
    let there = piece_there _ _ bytes _ at _ c.bytes_at-there.ensures is.same one.next.place in
    let canonical = subst (λ (o : Option (Vec ℕ Global)). anew_or c.bytes_at-there.result.now o ≡ canonical_obu e.value) c.in-None.is (c.in_ok-anew.ensures bytes at l e one there) in
    record {
      same = is.same;
      place = refl;
      onward = omega (arith, is.onward, one.next.onward);
      within = one.next.within;
      spelled = kept (bytes_of self.parts.items) bytes self.start at c.args.view.now.end l e is.onward (omega (arith, one.next.onward)) is.spelled (sym there ∙ canonical);
    }

pub returns : goal.returns
returns c = λ bytes at l e is one.
    let self = c.args.self.now in
    let anew = c.in-Some.spelling.items in
    let there = piece_there _ _ bytes _ at _ c.bytes_at-there.ensures is.same one.next.place in
    let canonical = subst (λ (o : Option (Vec ℕ Global)). anew_or c.bytes_at-there.result.now o ≡ canonical_obu e.value) c.in-Some.is (c.in_ok-anew.ensures bytes at l e one there) in
    let done = bytes_of self.parts.items in
    record {
      same = c.close.ensures.same ∙ is.same;
      place = refl;
      onward = omega arith;
      within = one.next.within;
      spelled = written done (bytes_of c.close.new.self.parts.items) anew bytes self.start at c.args.view.now.end l e is.spelled
          (c.in_ok-close-in-Some.ensures.closed ∙ ap (λ (b : List ℕ). done ++ (slice_range b self.start self.end ++ anew)) is.same ∙ ap (λ (n : ℕ). done ++ (slice_range bytes self.start n ++ anew)) is.place) canonical;
    }

use Rattle.std.proofs.Common.{arith}
use Rattle.iamf_mux.proofs.OneObu.{last_at, room_at, gathered_more}
use Rattle.iamf_mux.proofs.draft.DraftGather.take.Goals as goal

pub add-requires-clause-last : goal.add-requires-clause-last
add-requires-clause-last c = let r = c.requires in last_at c.args.self.now.gathered r.0 r.1 c.args.view.now c.args.obu r.2 r.3 r.4.gathered r.5.next

pub add-requires-clause-room : goal.add-requires-clause-room
add-requires-clause-room c = let r = c.requires in room_at c.args.self.now.gathered r.0 r.1 c.args.view.now c.args.obu r.2 r.3 r.4.gathered r.5.next r.4.short

pub returns : goal.returns
returns c = λ bytes at l e is one.
    let n = one.next in
    let few = c.add-2.ensures.few at is.few in
    record {
      short = is.short;
      gathered = gathered_more c.args.self.now.gathered c.add.new.self bytes at c.args.view.now c.args.obu l e is.gathered n c.add.ensures.same c.in_ok-add.ensures.added c.in_ok-add.ensures.sliced;
      numbers = c.add-2.ensures.added l e is.numbers one.admitted n.taken.says n.taken.unit;
      few = (omega (arith, few.0, n.onward), omega (arith, few.1, n.onward));
    }

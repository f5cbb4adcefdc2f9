use Rattle.std.proofs.Common.{◌≡◌, ℕ, List, ◌-◌, ◌++◌, length, take, refl, ap, ◌∙◌, arith}
use Rattle.std.proofs.Math.Nat.{sub-zero}
use Rattle.std.proofs.lemmas.Grind.{common_steps}
use Rattle.iamf_stream.specs.Standing.{Passed}
use Rattle.iamf_stream.proofs.Pieces.{passed_more, fails_later, has_room, room_for_front, adds, waits_on}
use Rattle.iamf_stream.proofs.open.Open.fill.Goals as goal

pub returns-then-count-missing : goal.returns-then-count-missing
returns-then-count-missing c = λ stream st.
    let items : c.extend_reserved.new.self.items ≡ c.args.self.now.waiting.items ++ take c.min-count.result c.args.piece.now = grind (arith, common_steps, c.extend_reserved.ensures.items, c.reserve.ensures.items) in
    let added = adds c.args.self.now c.args.piece.now (c.args.self.now.wanted - c.len.result) c.min-count.result c.requires.room c.requires.some (ap (λ (n : ℕ). c.args.self.now.wanted - n) c.len.ensures.value) c.min-count.ensures in
    waits_on c.args.self.now _ c.min-count.result c.args.piece.now stream refl refl refl items added.0 added.1 (omega (arith, c.if-count-missing.true, c.len.ensures.value)) st

pub look-requires : goal.look-requires
look-requires c =
    let items : c.extend_reserved.new.self.items ≡ c.args.self.now.waiting.items ++ take c.min-count.result c.args.piece.now = grind (arith, common_steps, c.extend_reserved.ensures.items, c.reserve.ensures.items) in
    rw items (has_room c.args.self.now (take c.min-count.result c.args.piece.now) (room_for_front c.args.self.now c.args.piece.now c.min-count.result c.requires.room))

pub returns-in-Ok : goal.returns-in-Ok
returns-in-Ok c = λ stream st.
    let items : c.extend_reserved.new.self.items ≡ c.args.self.now.waiting.items ++ take c.min-count.result c.args.piece.now = grind (arith, common_steps, c.extend_reserved.ensures.items, c.reserve.ensures.items) in
    let added = adds c.args.self.now c.args.piece.now (c.args.self.now.wanted - c.len.result) c.min-count.result c.requires.room c.requires.some (ap (λ (n : ℕ). c.args.self.now.wanted - n) c.len.ensures.value) c.min-count.ensures in
    let passed : Passed c.args.self.now.admission c.args.self.now.passed c.extend_reserved.new.self.items (stream ++ take c.min-count.result c.args.piece.now) = rw items (passed_more _ _ _ _ (take c.min-count.result c.args.piece.now) st.passed) in
    record { some = added.0; takes = record { within = added.1; stands = c.in-Ok.ensures (stream ++ take c.min-count.result c.args.piece.now) passed } }

pub returns-in-Err-look : goal.returns-in-Err-look
returns-in-Err-look c = λ stream st.
    let items : c.extend_reserved.new.self.items ≡ c.args.self.now.waiting.items ++ take c.min-count.result c.args.piece.now = grind (arith, common_steps, c.extend_reserved.ensures.items, c.reserve.ensures.items) in
    let passed : Passed c.args.self.now.admission c.args.self.now.passed c.extend_reserved.new.self.items (stream ++ take c.min-count.result c.args.piece.now) = rw items (passed_more _ _ _ _ (take c.min-count.result c.args.piece.now) st.passed) in
    fails_later c.in-Err-look.error stream c.args.piece.now c.min-count.result (c.in-Err-look.ensures (stream ++ take c.min-count.result c.args.piece.now) passed)

use Rattle.std.proofs.Common.{take}
use Rattle.std.specs.Option.{option_map}
use Rattle.iamf_rules.specs.SlotSteps.{AreNew, HasSome}
use Rattle.iamf_rules.proofs.substreams.Substreams.add.Given as goal

abbrev pub invariant-loop-i : goal.invariant-loop-i
invariant-loop-i l = AreNew l.fn.self.slots l.ids → HasSome l.fn.self.slots l.self.slots l.ids (option_map (λ b. b.now) l.channels) (take l.i l.ids)

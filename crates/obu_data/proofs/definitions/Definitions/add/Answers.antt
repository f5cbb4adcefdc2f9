use Rattle.obu_data.proofs.Index.{indexed_more}
use Rattle.obu_data.proofs.definitions.Definitions.add.Goals as goal

pub invariant_of-self-in_default-insert : goal.invariant_of-self-in_default-insert
invariant_of-self-in_default-insert c =
    rw c.in_default-push.ensures.items
    (indexed_more _ _ _ _ c.self.invariant c.requires (rw c.self.view_is c.in_default.ensures.finds) (rw c.as_slice-place.ensures.value at c.in_default-insert.ensures.updates))

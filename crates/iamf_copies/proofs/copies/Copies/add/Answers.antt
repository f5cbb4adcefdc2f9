use Rattle.std.proofs.Common.{rules, ◌≡◌, ◌∙◌, ◌||◌, false, cond, sym, ap, arith, ℕ, List, Vec, Global, BTreeSet}
use Rattle.std.specs.Prelude.{Some, None}
use Rattle.std.specs.Str.{bytes_eq}
use Rattle.std.specs.Ordering.{nat_cmp}
use Rattle.std.specs.BTreeMap.{BTreeMap, get, is_at}
use Rattle.std.proofs.lemmas.Grind.{common_steps}
use Rattle.iamf_copies.specs.Sets.{has_in, has_bytes}
use Rattle.iamf_copies.proofs.OneMoreEntry.{has_in-updates, stands_more}
use Rattle.iamf_copies.proofs.copies.Copies.add.Goals as goal

pub returns-in-Some-clause-adds : goal.returns-in-Some-clause-adds
returns-in-Some-clause-adds c = λ past e stands type plain payload.
    let found : get nat_cmp c.args.self.now.sets c.args.obu_type ≡ Some c.in-Some.set.now = sym ((c.in-Some.ensures {u = tt}).value) in
    stands_more c.args.self.now (record { sets = c.get_mut.follows.lender c.add_bytes.new.set }) past e c.args.obu_type c.args.payload.now stands type plain payload
    (has_in-updates c.args.self.now.sets (c.get_mut.follows.lender c.add_bytes.new.set) c.args.obu_type c.add_bytes.new.set c.args.payload.now
    (((c.get_mut.follows.holds c.add_bytes.new.set).3 (search rules)).0)
    (λ p. (c.in_ok-add_bytes.ensures {u = tt}).adds p ∙ ap (λ o. has_in o p || bytes_eq c.args.payload.now p) (sym found)))

pub returns-clause-adds : goal.returns-clause-adds
returns-clause-adds c = λ past e stands type plain payload.
    let none : get nat_cmp c.args.self.now.sets c.args.obu_type ≡ None = sym ((c.in_default.ensures {u = tt}).value) in
    stands_more c.args.self.now (record { sets = c.insert.new.self }) past e c.args.obu_type c.args.payload.now stands type plain payload
    (has_in-updates c.args.self.now.sets c.insert.new.self c.args.obu_type c.add_bytes-2.new.set c.args.payload.now
    (λ q. (c.in_default-insert.ensures {u = tt}).updates.0 q ∙ ap (λ (m : BTreeMap ℕ (BTreeSet (Vec ℕ Global))). cond (is_at (nat_cmp c.args.obu_type) q) (Some c.add_bytes-2.new.set) (get nat_cmp m q)) c.get_mut.follows.holds-at-none)
    (λ p. (c.in_ok-add_bytes-2.ensures {u = tt}).adds p ∙ ap (λ b. b || bytes_eq c.args.payload.now p) (empty p ∙ ap (λ o. has_in o p) (sym none)))) where
      empty : (p : List ℕ) → has_bytes c.new-set.result p ≡ false
      empty p = grind (arith, common_steps, c.new-set.ensures.empty)

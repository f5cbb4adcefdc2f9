use Rattle.iamf_copies.proofs.SetsOfBytes.{has_bytes-insert}
use Rattle.std.proofs.Common.{◌∙◌, ap, List, ℕ, ◌||◌}
use Rattle.std.specs.Str.{bytes_eq}
use Rattle.iamf_copies.specs.Sets.{has_bytes}
use Rattle.iamf_copies.proofs.copies.add_bytes.Goals as goal

pub returns-clause-adds : goal.returns-clause-adds
returns-clause-adds c = λ other.
    has_bytes-insert c.args.set.now c.insert.new.self c.in_ok-copy.copy other ((c.in_default.ensures {u = tt}).keys)
    ∙ ap (λ (ys : List ℕ). has_bytes c.args.set.now other || bytes_eq ys other) ((c.in_ok-copy.ensures {u = tt}).items)

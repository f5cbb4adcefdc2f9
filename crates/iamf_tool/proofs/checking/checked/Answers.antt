use Rattle.std.proofs.Common.{rules, arith}
use Rattle.std.proofs.lemmas.Grind.{common_steps}
use Rattle.iamf_tool.proofs.HalfChecked.{half_more, half_too_many}
use Rattle.iamf_tool.proofs.checking.checked.Goals as goal

pub returns-then-read-gt-LIMIT : goal.returns-then-read-gt-LIMIT
returns-then-read-gt-LIMIT g c =
    half_too_many _ _ _ c.reading.checker c.reading.read c.in-Ok.count _ c.reading.invariant c.in-Ok.ensures.bytes.0 c.in-Ok.ensures.bound.1 c.in-Ok.ensures.cause.kept (search rules) (search rules)

pub reading-preserved : goal.reading-preserved
reading-preserved g c =
    half_more _ _ _ _ _ _ c.reading.checker c.feed.new.self c.feed.result c.reading.read c.in-Ok.count _ _ c.reading.invariant c.in-Ok.ensures.bytes.0 c.in-Ok.ensures.bound.1 c.in-Ok.ensures.cause.kept (search rules) (grind (arith, common_steps))
    (record { feeds = c.feed.ensures.feeds; more = c.feed.ensures.more; no_more = c.feed.ensures.no_more; spent = c.feed.ensures.spent })

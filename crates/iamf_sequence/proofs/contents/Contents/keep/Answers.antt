use Rattle.iamf_sequence.proofs.Keeping.{kept_some, kept_none}
use Rattle.iamf_sequence.proofs.contents.Contents.keep.Goals as goal

pub returns-in-Some : goal.returns-in-Some
returns-in-Some c = rw c.in-Some.is (kept_some c.keep_content.result c.args.self.now c.keep_content.new.self c.in-Some.content c.args.unit c.unwrap_or.result c.unwrap_or.ensures c.keep_content.ensures)

pub returns-in-None : goal.returns-in-None
returns-in-None c = rw c.in-None.is (kept_none c.args.self.now c.args.unit)

use Rattle.iamf_mux.proofs.OneObu.{begun_of}
use Rattle.iamf_mux.proofs.draft.Draft.new.Goals as goal

pub returns : goal.returns
returns c = record {
  short = c.requires;
  gathered = begun_of c.new.result c.args.bytes.now c.new.ensures.same c.new.ensures.none c.new.ensures.sliced;
  numbers = c.new-2.ensures.none;
  few = c.new-2.ensures.few;
}

use Rattle.iamf_stream.proofs.Fed.{knows_more, fed_more}
use Rattle.iamf_mux.proofs.demuxing.feed.Goals as goal

pub returns-clause-knows : goal.returns-clause-knows
returns-clause-knows c = λ bytes knows.
    knows_more c.args.checker.now c.feed.new.self c.feed.result c.args.piece.now bytes
    (record { feeds = c.feed.ensures.feeds; more = c.feed.ensures.more; no_more = c.feed.ensures.no_more; spent = c.feed.ensures.spent }) knows

pub returns-clause-fed : goal.returns-clause-fed
returns-clause-fed c = fed_more c.args.checker.now.fed c.feed.new.self.fed _ c.feed.result c.feed.ensures.more c.feed.ensures.no_more

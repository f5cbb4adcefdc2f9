use Rattle.iamf_report.proofs.OneMoreObu.{codec_added}
use Rattle.iamf_report.proofs.tally.Tally.add_codec.Goals as goal

pub returns : goal.returns
returns c = λ s o fields stands stands_for says fine. codec_added c.args.self.now.lines c.codec_line.result fields s o (c.codec_line.ensures fields stands_for) stands says fine

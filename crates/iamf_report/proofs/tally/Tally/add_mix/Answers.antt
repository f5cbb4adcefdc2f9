use Rattle.std.proofs.Common.{◌∙◌}
use Rattle.iamf_report.proofs.OneMoreObu.{mix_added, tags_read}
use Rattle.iamf_report.proofs.tally.Tally.add_mix.Goals as goal

pub returns-clause-adds : goal.returns-clause-adds
returns-clause-adds c = λ s o stands says tagged fits fine.
    mix_added c.args.self.now.lines c.push.new.self (record { mix = c.mix_line.result; tags = c.in_ok-tags.tags }) c.args.fits _ s o
    c.in_ok-push.ensures.items c.mix_line.ensures (c.in_ok-tags.ensures ∙ tags_read _ _ o.tail tagged.reads) fits stands says fine

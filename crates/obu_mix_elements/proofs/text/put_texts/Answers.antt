use Rattle.std.proofs.Common.{◌∙◌, ◌++◌, ap, sym, List, ℕ, [], Bor}
use Rattle.spec_bits.specs.Bits.{Bits}
use Rattle.spec_descriptors.specs.MixFields.{text_fields}
use Rattle.spec_syntax.proofs.Writing.{put_more}
use Rattle.std.proofs.lemmas.List.{append-nil}
use Rattle.spec_syntax.proofs.Fitting.{fit_at}
use Rattle.obu_mix_elements.proofs.text.put_texts.Goals as goal

abbrev no_text : Bor (List ℕ)
no_text = record { ref_ptr = (0, 0); now = [] }

pub put_text-requires-clause-utf8 : goal.put_text-requires-clause-utf8
put_text-requires-clause-utf8 c = (fit_at (λ t. text_fields t.now) c.args.texts.now c.loop-text.text-index no_text c.loop-text-test.true c.requires.fits).0.0

pub put_text-requires-clause-no_zero : goal.put_text-requires-clause-no_zero
put_text-requires-clause-no_zero c = (fit_at (λ t. text_fields t.now) c.args.texts.now c.loop-text.text-index no_text c.loop-text-test.true c.requires.fits).0.1

pub put_text-requires-clause-short : goal.put_text-requires-clause-short
put_text-requires-clause-short c = (fit_at (λ t. text_fields t.now) c.args.texts.now c.loop-text.text-index no_text c.loop-text-test.true c.requires.fits).0.2

pub loop-text-preserved : goal.loop-text-preserved
loop-text-preserved c = (
  c.in_ok-put_text.ensures.used,
  put_more (λ t. text_fields t.now) c.args.texts.now c.loop-text.text-index no_text _ _ _ c.loop-text-test.true c.loop-text.invariant.1
      (c.in_ok-put_text.ensures.bits ∙ ap (λ (b : Bits). c.loop-text.out.bits ++ b) (sym (append-nil _))),
)

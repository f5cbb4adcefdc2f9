use Rattle.std.proofs.Common.{ap, sym, ◌∙◌, refl}
use Rattle.spec_syntax.specs.Syntax.{Syntax}
use Rattle.spec_syntax.specs.Reading.{read}
use Rattle.spec_syntax.proofs.Reading.{turn_starts, turn_goes_on, turn_fails, turn_ends}
use Rattle.spec_flac.specs.declared.fault.FlacFault.{FlacFault}
use Rattle.spec_flac.specs.Faults.{short}
use Rattle.spec_flac.specs.Header.{further, further_byte}
use Rattle.flac_header.proofs.number.further_from.Goals as goal

pub loop-i-init : goal.loop-i-init
unfolding further
loop-i-init c = record { whole = refl; reads = ap (λ (s : Syntax FlacFault (Unit {0})). read short s c.args.reader.now) (sym (turn_starts (λ _ _. further_byte) tt c.args.count)) }

pub returns-in-Err-clause-gives : goal.returns-in-Err-clause-gives
returns-in-Err-clause-gives c = turn_fails short (λ _ _. further_byte) tt c.args.count c.loop-i.i c.loop-i.reader c.in-Err.fault _ c.loop-i-test.true c.in-Err.ensures.gives c.loop-i.invariant.reads

pub loop-i-preserved : goal.loop-i-preserved
loop-i-preserved c = record {
  whole = c.in-Ok.ensures.whole ∙ c.loop-i.invariant.whole;
  reads = turn_goes_on short (λ _ _. further_byte) tt tt c.args.count c.loop-i.i c.loop-i.reader c.further_byte.new.reader _ c.loop-i-test.true c.in-Ok.ensures.gives c.loop-i.invariant.reads;
}

pub returns-clause-gives : goal.returns-clause-gives
returns-clause-gives c = turn_ends short (λ _ _. further_byte) tt c.args.count c.loop-i.i c.loop-i.reader _ c.loop-i-test.false c.loop-i.invariant.reads

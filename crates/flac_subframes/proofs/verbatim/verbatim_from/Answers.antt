use Rattle.std.proofs.Common.{◌≡◌, ℕ, ◌<◌, List, ℤ, length, take, arith, rules, FitsSigned, w64, to_z-of_z, ap, sym, ◌∙◌, Ok, subst}
use Rattle.spec_syntax.specs.Syntax.{Syntax}
use Rattle.spec_syntax.specs.Reading.{read}
use Rattle.spec_flac.specs.declared.fault.FlacFault.{FlacFault}
use Rattle.spec_flac.specs.Faults.{short}
use Rattle.flac_subframes.specs.Rows.{AreBelow}
use Rattle.flac_subframes.proofs.WrittenRows.{take_written}
use Rattle.flac_subframes.proofs.VerbatimSamples.{verbatim_first, verbatim_goes_on, verbatim_fails, verbatim_ends, below_more}
use Rattle.flac_subframes.proofs.verbatim.verbatim_from.Goals as goal

pub loop-n-init : goal.loop-n-init
loop-n-init c = record { small = λ i. omega arith; reads = ap (λ (s : Syntax FlacFault (List ℤ)). read short s c.args.reader.now) (sym (verbatim_first c.args.depth c.args.to)) }

pub returns-in-Err-clause-gives : goal.returns-in-Err-clause-gives
returns-in-Err-clause-gives c = verbatim_fails c.args.depth c.args.to c.loop-n.n (take c.loop-n.n c.loop-n.row) c.loop-n.reader c.in-Err.fault _ c.loop-n-test.true c.in-Err.ensures.takes.0 c.in-Err.ensures.takes.1 c.loop-n.invariant.reads

pub loop-n-preserved : goal.loop-n-preserved
loop-n-preserved c =
    let f : FitsSigned w64 c.in-Ok.value = search rules in
    let lt : c.loop-n.n < length c.loop-n.row = omega arith in
    let row = take_written c.loop-n.row c.loop-n.n c.in-Ok.value lt in
    let goes = verbatim_goes_on c.args.depth c.args.to c.loop-n.n (take c.loop-n.n c.loop-n.row) c.loop-n.reader _ c.in-Ok.value _ c.loop-n-test.true c.in-Ok.ensures.takes c.loop-n.invariant.reads in
    simp to_z-of_z (record {
      small = subst (AreBelow c.args.depth) (sym row) (below_more c.args.depth (take c.loop-n.n c.loop-n.row) c.in-Ok.value c.loop-n.invariant.small c.in-Ok.ensures.small);
      reads = rw row goes;
    })

pub returns-clause-gives : goal.returns-clause-gives
returns-clause-gives c =
    let e : c.loop-n.n ≡ c.args.to = omega arith in
    verbatim_ends c.args.depth c.args.to c.loop-n.n (take c.loop-n.n c.loop-n.row) c.loop-n.reader _ c.loop-n-test.false c.loop-n.invariant.reads ∙ ap (λ (k : ℕ). Ok (take k c.loop-n.row, c.loop-n.reader)) e

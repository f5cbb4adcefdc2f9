use Rattle.std.proofs.Common.{◌≡◌, ℕ, ◌+◌, ◌*◌, List, ℤ, take, arith, rules, FitsSigned, w64, to_z-of_z, refl, ap, sym, ◌∙◌, Ok, subst}
use Rattle.std.proofs.lemmas.List.{take_all}
use Rattle.spec_syntax.specs.Syntax.{Syntax}
use Rattle.spec_syntax.specs.Reading.{read}
use Rattle.spec_flac.specs.declared.fault.FlacFault.{FlacFault}
use Rattle.spec_flac.specs.Faults.{short}
use Rattle.flac_subframes.specs.Rows.{AreWithin}
use Rattle.flac_subframes.proofs.Partitions.{left_first, left_goes_on, left_fails, left_ends, one_further}
use Rattle.flac_subframes.proofs.partition.partitions_from.Goals as goal

pub loop-i-init : goal.loop-i-init
loop-i-init g c =
    let fh : FitsSigned w64 c.args.half = search rules in
    simp to_z-of_z (record {
      within = omega arith;
      far = omega arith;
      whole = λ none. absurd (omega (arith, none));
      small = c.requires.small;
      reads = ap (λ (s : Syntax FlacFault (List ℤ)). read short s c.args.reader.now) (sym (left_first c.args.half (g.P.Predictor.next c.args.predictor.now) c.args.bits c.args.size c.args.count (take c.args.from c.args.row.now)));
    })

pub returns-in-Err-clause-gives : goal.returns-in-Err-clause-gives
returns-in-Err-clause-gives g c =
    let fh : FitsSigned w64 c.args.half = search rules in
    let reads = simp to_z-of_z at c.loop-i.invariant.reads in
    let gives = simp to_z-of_z at c.in-Err.ensures.gives in
    left_fails c.args.half (g.P.Predictor.next c.args.predictor.now) c.args.bits c.args.size c.args.count c.loop-i.i (c.args.size * (c.loop-i.i + 1)) (take c.loop-i.start c.loop-i.row) c.loop-i.reader c.in-Err.fault _ c.loop-i-test.true refl gives reads

pub loop-i-preserved : goal.loop-i-preserved
loop-i-preserved g c =
    let fh : FitsSigned w64 c.args.half = search rules in
    let reads = simp to_z-of_z at c.loop-i.invariant.reads in
    let gives = simp to_z-of_z at c.in-Ok.ensures.gives in
    let small = simp to_z-of_z at c.in-Ok.ensures.small in
    simp to_z-of_z (record {
      within = one_further c.args.size c.loop-i.i;
      far = omega (arith, c.loop-i.invariant.far, c.loop-i.invariant.within);
      whole = λ some. refl;
      small = small;
      reads = left_goes_on c.args.half (g.P.Predictor.next c.args.predictor.now) c.args.bits c.args.size c.args.count c.loop-i.i (c.args.size * (c.loop-i.i + 1)) (take c.loop-i.start c.loop-i.row) _ c.loop-i.reader _ _ c.loop-i-test.true refl gives reads;
    })

pub returns-clause-gives : goal.returns-clause-gives
returns-clause-gives g c =
    let fh : FitsSigned w64 c.args.half = search rules in
    let reads = simp to_z-of_z at c.loop-i.invariant.reads in
    let e : c.loop-i.i ≡ c.args.count = omega arith in
    let start : c.loop-i.start ≡ c.args.size * c.args.count = c.loop-i.invariant.whole (omega (arith, c.requires.some, e)) ∙ ap (λ (n : ℕ). c.args.size * n) e in
    let all : take c.loop-i.start c.loop-i.row ≡ c.loop-i.row = take_all c.loop-i.start c.loop-i.row (omega (arith, start, c.requires.row, c.loop-i.auto.row)) in
    left_ends c.args.half (g.P.Predictor.next c.args.predictor.now) c.args.bits c.args.size c.args.count c.loop-i.i (take c.loop-i.start c.loop-i.row) c.loop-i.reader _ c.loop-i-test.false reads ∙ ap (λ (zs : List ℤ). Ok (zs, c.loop-i.reader)) all

pub returns-clause-small : goal.returns-clause-small
returns-clause-small g c =
    let fh : FitsSigned w64 c.args.half = search rules in
    let small = simp to_z-of_z at c.loop-i.invariant.small in
    let e : c.loop-i.i ≡ c.args.count = omega arith in
    let start : c.loop-i.start ≡ c.args.size * c.args.count = c.loop-i.invariant.whole (omega (arith, c.requires.some, e)) ∙ ap (λ (n : ℕ). c.args.size * n) e in
    let all : take c.loop-i.start c.loop-i.row ≡ c.loop-i.row = take_all c.loop-i.start c.loop-i.row (omega (arith, start, c.requires.row, c.loop-i.auto.row)) in
    subst (AreWithin c.args.half) all small

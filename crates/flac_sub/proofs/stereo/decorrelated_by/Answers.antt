use Rattle.std.proofs.Common.{◌≡◌, ℤ, pos, get_or, true, false, arith, rules, FitsSigned, w64, to_z-of_z, sym, ◌∙◌, subst}
use Rattle.spec_flac.specs.Residual.{is_sample}
use Rattle.spec_flac.specs.Frame.{left_of, right_of}
use Rattle.flac_sub.proofs.TwoRows.{Done, done_more, all_done, left_out, right_out, left_at, right_at, fits_first, fits_second}
use Rattle.flac_sub.proofs.stereo.decorrelated_by.Goals as goal

pub returns-then-not-fits : goal.returns-then-not-fits
returns-then-not-fits g c = λ cur.
    let a = c.args.first.now in
    let b = c.args.second.now in
    let n = c.loop-n.n in
    let fh : FitsSigned w64 c.half-half.result = search rules in
    let d : Done g.row.CODE c.half-half.result a b c.loop-n.first c.loop-n.second n = simp to_z-of_z at c.loop-n.invariant in
    let fa = fits_first g.row.CODE c.half-half.result a b c.loop-n.first c.loop-n.second n d c.requires.first in
    let fb = fits_second g.row.CODE c.half-half.result a b c.loop-n.first c.loop-n.second n d c.requires.second in
    let fl : FitsSigned w64 c.left_of-left.result = search rules in
    let is : c.left_of-left.result ≡ left_of g.row.CODE (get_or c.loop-n.first n (pos 0)) (get_or c.loop-n.second n (pos 0)) = simp to_z-of_z at c.left_of-left.ensures in
    let test : c.fits.result ≡ is_sample c.half-half.result c.left_of-left.result = simp to_z-of_z at c.fits.ensures in
    let no : c.fits.result ≡ false = search rules in
    left_out g.row.CODE c.args.depth a b cur n c.half-half.result c.half-half.ensures.is (omega arith) c.requires.equal
    (subst (λ (z : ℤ). is_sample c.half-half.result z ≡ false) (left_at g.row.CODE c.half-half.result a b c.loop-n.first c.loop-n.second n c.left_of-left.result d is) (sym test ∙ no))

pub returns-then-not-fits-2 : goal.returns-then-not-fits-2
returns-then-not-fits-2 g c = λ cur.
    let a = c.args.first.now in
    let b = c.args.second.now in
    let n = c.loop-n.n in
    let fh : FitsSigned w64 c.half-half.result = search rules in
    let d : Done g.row.CODE c.half-half.result a b c.loop-n.first c.loop-n.second n = simp to_z-of_z at c.loop-n.invariant in
    let fa = fits_first g.row.CODE c.half-half.result a b c.loop-n.first c.loop-n.second n d c.requires.first in
    let fb = fits_second g.row.CODE c.half-half.result a b c.loop-n.first c.loop-n.second n d c.requires.second in
    let fl : FitsSigned w64 c.right_of-right.result = search rules in
    let is : c.right_of-right.result ≡ right_of g.row.CODE (get_or c.loop-n.first n (pos 0)) (get_or c.loop-n.second n (pos 0)) = simp to_z-of_z at c.right_of-right.ensures in
    let test : c.fits-in-loop-n.result ≡ is_sample c.half-half.result c.right_of-right.result = simp to_z-of_z at c.fits-in-loop-n.ensures in
    let no : c.fits-in-loop-n.result ≡ false = search rules in
    right_out g.row.CODE c.args.depth a b cur n c.half-half.result c.half-half.ensures.is (omega arith) c.requires.equal
    (subst (λ (z : ℤ). is_sample c.half-half.result z ≡ false) (right_at g.row.CODE c.half-half.result a b c.loop-n.first c.loop-n.second n c.right_of-right.result d is) (sym test ∙ no))

pub loop-n-preserved : goal.loop-n-preserved
loop-n-preserved g c =
    let a = c.args.first.now in
    let b = c.args.second.now in
    let n = c.loop-n.n in
    let fh : FitsSigned w64 c.half-half.result = search rules in
    let d : Done g.row.CODE c.half-half.result a b c.loop-n.first c.loop-n.second n = simp to_z-of_z at c.loop-n.invariant in
    let fa = fits_first g.row.CODE c.half-half.result a b c.loop-n.first c.loop-n.second n d c.requires.first in
    let fb = fits_second g.row.CODE c.half-half.result a b c.loop-n.first c.loop-n.second n d c.requires.second in
    let fl : FitsSigned w64 c.left_of-left.result = search rules in
    let fr : FitsSigned w64 c.right_of-right.result = search rules in
    let is_l : c.left_of-left.result ≡ left_of g.row.CODE (get_or c.loop-n.first n (pos 0)) (get_or c.loop-n.second n (pos 0)) = simp to_z-of_z at c.left_of-left.ensures in
    let is_r : c.right_of-right.result ≡ right_of g.row.CODE (get_or c.loop-n.first n (pos 0)) (get_or c.loop-n.second n (pos 0)) = simp to_z-of_z at c.right_of-right.ensures in
    let test_l : c.fits.result ≡ is_sample c.half-half.result c.left_of-left.result = simp to_z-of_z at c.fits.ensures in
    let test_r : c.fits-in-loop-n.result ≡ is_sample c.half-half.result c.right_of-right.result = simp to_z-of_z at c.fits-in-loop-n.ensures in
    let yes_l : c.fits.result ≡ true = search rules in
    let yes_r : c.fits-in-loop-n.result ≡ true = search rules in
    simp to_z-of_z (done_more g.row.CODE c.half-half.result a b c.loop-n.first c.loop-n.second n c.left_of-left.result c.right_of-right.result (omega arith) (omega arith)
    (left_at g.row.CODE c.half-half.result a b c.loop-n.first c.loop-n.second n c.left_of-left.result d is_l) (right_at g.row.CODE c.half-half.result a b c.loop-n.first c.loop-n.second n c.right_of-right.result d is_r) (sym test_l ∙ yes_l) (sym test_r ∙ yes_r) d)

pub returns : goal.returns
returns g c = λ cur.
    let fh : FitsSigned w64 c.half-half.result = search rules in
    let d : Done g.row.CODE c.half-half.result c.args.first.now c.args.second.now c.loop-n.first c.loop-n.second c.loop-n.n = simp to_z-of_z at c.loop-n.invariant in
    all_done g.row.CODE c.args.depth c.half-half.result c.args.first.now c.args.second.now c.loop-n.first c.loop-n.second c.loop-n.n cur c.half-half.ensures.is c.requires.equal (omega arith) (omega arith) (omega arith) d

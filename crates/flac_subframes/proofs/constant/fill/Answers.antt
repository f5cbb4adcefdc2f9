use Rattle.std.proofs.Common.{◌≡◌, ℕ, suc, ◌+◌, ◌<◌, ◌++◌, ◌∷◌, [], List, ℤ, length, take, set, arith, rules, FitsSigned, w64, to_z-of_z, ap, ◌∙◌}
use Rattle.spec_flac.specs.Subframe.{copies}
use Rattle.flac_subframes.proofs.WrittenRows.{take_written}
use Rattle.flac_subframes.proofs.PredictedSubframes.{copies_more}
use Rattle.flac_subframes.proofs.constant.fill.Goals as goal

next : (row : List ℤ) (n : ℕ) (z : ℤ) → n < length row → take n row ≡ copies n z → take (n + 1) (set row n z) ≡ copies (n + 1) z
next row n z lt so_far = take_written row n z lt ∙ ap (λ (zs : List ℤ). zs ++ z ∷ []) so_far ∙ copies_more n z ∙ (let k : suc n ≡ n + 1 = omega arith in ap (λ (j : ℕ). copies j z) k)

pub loop-n-preserved : goal.loop-n-preserved
loop-n-preserved c =
    let f : FitsSigned w64 c.args.value = search rules in
    let so_far = simp to_z-of_z at c.loop-n.invariant in
    simp to_z-of_z (next c.loop-n.row c.loop-n.n c.args.value (omega arith) so_far)

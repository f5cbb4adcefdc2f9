-- Where no gain of a rendition is above 32 dB, none multiplies by more.
use Rattle.std.proofs.Common.{arith, ◌≡◌, ◌<◌, ◌≤◌, ◌+◌, ◌-◌, ◌*◌, ◌/◌, ℕ, ℤ, pos, negsuc, Bool, true, false, ◌&&◌, if◌then◌else◌, List, [], ◌∷◌, Option, Some, None, max, nat_lt}
use Rattle.std.specs.Prelude.{IfSome}
use Rattle.std.specs.List.{list_any, flat_map, zip, enumerate_from, find}
use Rattle.std.proofs.lemmas.Int.{ints}
use Rattle.std.proofs.lemmas.Bool.{cases_lt, ltb-false, lt-ltb, le-ltb}
use Rattle.std.proofs.Math.Logic.{⊎_elim}
use Rattle.std.proofs.Math.Nat.{mul-le-mul_right, mul-le-mul_left}
use Rattle.spec_gains.specs.Gains.{gain_of}
use Rattle.spec_gains.proofs.GainLemmas.{gain_most}
use Rattle.spec_descriptors.specs.ParameterDefinition.{FixedFields}
use Rattle.spec_descriptors.specs.MixGain.{MixGainFields}
use Rattle.spec_blocks.specs.ParameterBlock.{GainFields, Step, Linear, Bezier, ContentFields, Opaque, Gain, Demix, Recon}
use Rattle.spec_sequence.specs.Parts.{BlockValue, UnitValue}
use Rattle.spec_play.specs.Mixes.{Rendition, unit_length}
use Rattle.spec_play.specs.GainsOverTime.{part_gain, subblock_gain, GainBlock, gain_block_in, gain_block_of, unit_gain_blocks, gain_blocks, TimedBlock, timed_after, covers, covered_gain, subblock_durations, gain_at}
use Rattle.spec_play.specs.Selection.{parts_in, has_id, some_part, is_above, goes_above, is_gain_above}
use Rattle.spec_play.proofs.Tests.{neither, Each, each_false, each_flat_map, each_map, each_enumerated, each_found, each_like}

-- what 32 dB multiply by
abbrev pub most : ℕ
most = 39810717055340

low_gain : (z : ℤ) → is_above z ≡ false → gain_of z ≤ most
low_gain (pos n) e = let small : n ≤ 8192 = ltb-false 8192 n e in gain_most (pos n) (omega (arith, ints))
low_gain (negsuc n) e = gain_most (negsuc n) (omega (arith, ints))

between : (a b n k : ℕ) → k < n → a ≤ most → b ≤ most → (a * (n - k) + b * k) / n ≤ most
between a b n k h low high =
    let first = mul-le-mul_right (n - k) low in
    let second = mul-le-mul_right k high in
    let whole : a * (n - k) + b * k ≤ most * n = omega arith in
    ⊎_elim (λ over. let more : n * (most + 1) ≤ n * ((a * (n - k) + b * k) / n) = mul-le-mul_left n over in absurd (omega arith)) (λ under. under) (cases_lt most ((a * (n - k) + b * k) / n))

part_low : (n : ℕ) (part : GainFields) (k : ℕ) → k < n → goes_above part ≡ false → part_gain n part k ≤ most
part_low n (Step start) k h e = low_gain start e
part_low n (Linear start end) k h e = let both = neither (is_above start) (is_above end) e in between (gain_of start) (gain_of end) n k h (low_gain start both.0) (low_gain end both.1)
part_low n (Bezier start end control time) k h e = low_gain start (neither (is_above start) (is_above end) e).0

part_or : (n : ℕ) (part : GainFields) (rest k : ℕ) → goes_above part ≡ false → rest ≤ most → (if nat_lt k n then part_gain n part k else rest) ≤ most
part_or n part rest k e low = ⊎_elim (λ under. rw (lt-ltb k n under) (part_low n part k under e)) (λ over. rw (le-ltb k n over) low) (cases_lt k n)

subblock_low : (durations : List ℕ) (gains : List GainFields) (k : ℕ) → Each (λ g. goes_above g ≡ false) gains → subblock_gain (zip durations gains) k ≤ most
subblock_low [] gains k e = omega arith
subblock_low (n ∷ durations) [] k e = omega arith
subblock_low (n ∷ durations) (g ∷ gains) k e = part_or n g (subblock_gain (zip durations gains) (k - n)) k e.0 (subblock_low durations gains (k - n) e.1)

-- ---- blocks

abbrev pub IsLow : GainBlock → Type 0
IsLow block = Each (λ g. goes_above g ≡ false) block.gains

content_low : (fixed : Option FixedFields) (content : ContentFields) → list_any goes_above (parts_in content) ≡ false → Each IsLow (gain_block_in fixed content)
content_low fixed Opaque e = tt
content_low fixed (Gain (Some own) gains) e = (each_false goes_above gains e, tt)
content_low None (Gain None gains) e = tt
content_low (Some fixed) (Gain None gains) e = (each_false goes_above gains e, tt)
content_low fixed (Demix mode) e = tt
content_low fixed (Recon parts) e = tt

block_low : (gain : MixGainFields) (block : BlockValue) → (has_id gain block && list_any goes_above (parts_in block.fields.content)) ≡ false → Each IsLow (gain_block_of gain block)
block_low gain block e = by (has_id gain block) e
  where
    by : (b : Bool) → (b && list_any goes_above (parts_in block.fields.content)) ≡ false → Each IsLow (if b then gain_block_in gain.definition.fixed block.fields.content else [])
    by true e = content_low gain.definition.fixed block.fields.content e
    by false e = tt

unit_low : (gain : MixGainFields) (u : ℕ) (unit : UnitValue) → list_any (λ block. has_id gain block && list_any goes_above (parts_in block.fields.content)) unit.blocks ≡ false
    → Each (λ (p : ℕ × GainBlock). IsLow p.1) (unit_gain_blocks gain (u, unit))
unit_low gain u unit e =
    each_map (λ (p : ℕ × GainBlock). IsLow p.1) (λ block. (u, block)) (flat_map (gain_block_of gain) unit.blocks)
    (each_flat_map IsLow (gain_block_of gain) unit.blocks
    (each_like (λ block. (has_id gain block && list_any goes_above (parts_in block.fields.content)) ≡ false) (λ block. Each IsLow (gain_block_of gain block)) (block_low gain) unit.blocks
    (each_false (λ block. has_id gain block && list_any goes_above (parts_in block.fields.content)) unit.blocks e)))

units_low : (gain : MixGainFields) (n : ℕ) (units : List UnitValue) → list_any (λ unit. list_any (λ block. has_id gain block && list_any goes_above (parts_in block.fields.content)) unit.blocks) units ≡ false
    → Each (λ (p : ℕ × GainBlock). IsLow p.1) (flat_map (unit_gain_blocks gain) (enumerate_from n units))
units_low gain n units e =
    each_flat_map (λ (p : ℕ × GainBlock). IsLow p.1) (unit_gain_blocks gain) (enumerate_from n units)
    (each_like (λ (p : ℕ × UnitValue). list_any (λ block. has_id gain block && list_any goes_above (parts_in block.fields.content)) p.1.blocks ≡ false)
    (λ (p : ℕ × UnitValue). Each (λ (q : ℕ × GainBlock). IsLow q.1) (unit_gain_blocks gain p)) (λ p. unit_low gain p.0 p.1) (enumerate_from n units)
    (each_enumerated (λ unit. list_any (λ block. has_id gain block && list_any goes_above (parts_in block.fields.content)) unit.blocks ≡ false) n units (each_false _ units e)))

timed_low : (length : ℕ) (blocks : List (ℕ × GainBlock)) (end : ℕ) → Each (λ (p : ℕ × GainBlock). IsLow p.1) blocks → Each (λ (t : TimedBlock). IsLow t.block) (timed_after length end blocks)
timed_low length [] end e = tt
timed_low length (p ∷ blocks) end e = (e.0, timed_low length blocks (max (p.0 * length) end + p.1.fixed.duration) e.1)

covered_low : (default : ℤ) (tick : ℕ) (o : Option TimedBlock) → is_above default ≡ false → IfSome o (λ t. IsLow t.block) → covered_gain default tick o ≤ most
covered_low default tick None e low = low_gain default e
covered_low default tick (Some timed) e low = subblock_low (subblock_durations timed.block.fixed) timed.block.gains (tick - timed.start) low

pub gain_bounded : (r : Rendition) (gain : MixGainFields) (tick : ℕ) → is_gain_above r gain ≡ false → gain_at r gain tick ≤ most
unfolding gain_at
gain_bounded r gain tick e =
    let both = neither (is_above gain.default_mix_gain) (some_part goes_above r gain) e in
    let timed = timed_after (unit_length r) 0 (gain_blocks gain r.units) in
    covered_low gain.default_mix_gain tick (find (covers tick) timed) both.0
    (each_found (λ (t : TimedBlock). IsLow t.block) (covers tick) timed (timed_low (unit_length r) (gain_blocks gain r.units) 0 (units_low gain 0 r.units both.1)))

-- Which block covers a tick, and how a track goes on.
use Rattle.std.proofs.Common.{arith, ◌≡◌, ◌<◌, ◌≤◌, ◌+◌, ◌*◌, ℕ, refl, sym, ap, ◌∙◌, true, false, List, [], ◌∷◌, ◌++◌, map, length, get_or, drop, Some, None, max}
use Rattle.std.specs.List.{flat_map, find, enumerate_from}
use Rattle.std.proofs.lemmas.List.{drop_more}
use Rattle.std.proofs.lemmas.Bool.{cases_lt}
use Rattle.std.proofs.lemmas.Bool.Decides.{nat_tests}
use Rattle.std.proofs.Math.Logic.{⊎_elim}
use Rattle.std.proofs.Math.Nat.{mul-le-mul_right}
use Rattle.spec_descriptors.specs.MixGain.{MixGainFields}
use Rattle.spec_sequence.specs.Parts.{BlockValue, UnitValue}
use Rattle.spec_play.specs.Mixes.{Rendition, unit_of, unit_length}
use Rattle.spec_play.specs.GainsOverTime.{GainBlock, gain_block_of, unit_gain_blocks, gain_blocks, TimedBlock, timed_after, covers, covered_gain, gain_at}
use Rattle.spec_play.proofs.Tests.{Each, each_map, each_both}
use Rattle.iamf_mixing.specs.Rows.{gain_over}
use Rattle.iamf_mixing.specs.declared.track.GainTrack.{GainTrack}
use Rattle.iamf_mixing.specs.Tracks.{blocks_from, IsNext, IsFilled, HasGains}
use Rattle.iamf_mixing.proofs.GainsOver.{over_inside, over_before, over_after}

-- ---- covering

early : (timed : TimedBlock) (t : ℕ) → t < timed.start → covers t timed ≡ false
early timed t h = grind (arith, nat_tests)

late : (timed : TimedBlock) (t : ℕ) → timed.start + timed.block.fixed.duration ≤ t → covers t timed ≡ false
late timed t h = grind (arith, nat_tests)

now : (timed : TimedBlock) (t : ℕ) → timed.start ≤ t → t < timed.start + timed.block.fixed.duration → covers t timed ≡ true
now timed t h k = grind (arith, nat_tests)

-- a block that starts at a tick
abbrev pub starting : ℕ → GainBlock → TimedBlock
starting start block = record { start = start; block = block }

-- before the end of the blocks before them, blocks cover no tick
pub none_before : (l e : ℕ) (blocks : List (ℕ × GainBlock)) (t : ℕ) → t < e → find (covers t) (timed_after l e blocks) ≡ None
none_before l e [] t h = refl
none_before l e (p ∷ blocks) t h =
    let start = max (p.0 * l) e in
    let miss : covers t (starting start p.1) ≡ false = early (starting start p.1) t (omega arith) in
    rw miss (none_before l (start + p.1.fixed.duration) blocks t (omega arith))

-- nor before the start of the first of their units
pub none_yet : (l e n : ℕ) (blocks : List (ℕ × GainBlock)) (t : ℕ) → Each (λ (p : ℕ × GainBlock). n ≤ p.0) blocks → t < n * l → find (covers t) (timed_after l e blocks) ≡ None
none_yet l e n [] t later h = refl
none_yet l e n (p ∷ blocks) t later h =
    let start = max (p.0 * l) e in
    let unit : n * l ≤ p.0 * l = mul-le-mul_right l later.0 in
    let miss : covers t (starting start p.1) ≡ false = early (starting start p.1) t (omega arith) in
    rw miss (none_yet l (start + p.1.fixed.duration) n blocks t later.1 h)

each_same : (n m : ℕ) (blocks : List GainBlock) → n ≤ m → Each (λ (block : GainBlock). n ≤ m) blocks
each_same n m [] h = tt
each_same n m (block ∷ blocks) h = (h, each_same n m blocks h)

pub numbered : (gain : MixGainFields) (n m : ℕ) (units : List UnitValue) → n ≤ m → Each (λ (p : ℕ × GainBlock). n ≤ p.0) (flat_map (unit_gain_blocks gain) (enumerate_from m units))
numbered gain n m [] h = tt
numbered gain n m (unit ∷ units) h =
    each_both (λ (p : ℕ × GainBlock). n ≤ p.0) (unit_gain_blocks gain (m, unit)) (flat_map (unit_gain_blocks gain) (enumerate_from (m + 1) units))
    (each_map (λ (p : ℕ × GainBlock). n ≤ p.0) (λ block. (m, block)) (flat_map (gain_block_of gain) unit.blocks) (each_same n m (flat_map (gain_block_of gain) unit.blocks) h))
    (numbered gain n (m + 1) units (omega arith))

-- the first of some blocks covers its ticks, and none before it
pub first_covers : (l e v : ℕ) (block : GainBlock) (blocks : List (ℕ × GainBlock)) (t : ℕ) → max (v * l) e ≤ t → t < max (v * l) e + block.fixed.duration
    → find (covers t) (timed_after l e ((v, block) ∷ blocks)) ≡ Some (starting (max (v * l) e) block)
first_covers l e v block blocks t begun going_on = let hit : covers t (starting (max (v * l) e) block) ≡ true = now (starting (max (v * l) e) block) t begun going_on in rw hit refl

pub none_at_gap : (l e v : ℕ) (block : GainBlock) (blocks : List (ℕ × GainBlock)) (t : ℕ) → t < max (v * l) e → find (covers t) (timed_after l e ((v, block) ∷ blocks)) ≡ None
none_at_gap l e v block blocks t h =
    let start = max (v * l) e in
    let miss : covers t (starting start block) ≡ false = early (starting start block) t h in
    rw miss (none_before l (start + block.fixed.duration) blocks t (omega arith))

pub past_first : (l e v : ℕ) (block : GainBlock) (blocks : List (ℕ × GainBlock)) (t : ℕ) → max (v * l) e + block.fixed.duration ≤ t
    → find (covers t) (timed_after l e ((v, block) ∷ blocks)) ≡ find (covers t) (timed_after l (max (v * l) e + block.fixed.duration) blocks)
past_first l e v block blocks t h = let miss : covers t (starting (max (v * l) e) block) ≡ false = late (starting (max (v * l) e) block) t h in rw miss refl

-- ---- what is not passed

-- a block of the gain
pub next_of : (r : Rendition) (gain : MixGainFields) (v i : ℕ) (x : BlockValue) (b : GainBlock) → i < length (unit_of r v).blocks → x ≡ get_or (unit_of r v).blocks i x → gain_block_of gain x ≡ b ∷ []
    → blocks_from r gain v i ≡ (v, b) ∷ blocks_from r gain v (i + 1)
next_of r gain v i x b h is one =
    let blocks = (unit_of r v).blocks in
    let later = flat_map (unit_gain_blocks gain) (enumerate_from (v + 1) (drop (v + 1) r.units)) in
    ap (λ bs. map (λ block. (v, block)) (flat_map (gain_block_of gain) bs) ++ later) (drop_more blocks i x h)
    ∙ ap (λ y. map (λ block. (v, block)) (gain_block_of gain y ++ flat_map (gain_block_of gain) (drop (i + 1) blocks)) ++ later) (sym is)
    ∙ ap (λ bs. map (λ block. (v, block)) (bs ++ flat_map (gain_block_of gain) (drop (i + 1) blocks)) ++ later) one

-- ---- rows

-- the gain at a tick before the end of the next block, once that is written over the row
pub written_gain : (r : Rendition) (gain : MixGainFields) (u : ℕ) (row : List ℕ) (track : GainTrack) (b : GainBlock) (start k : ℕ) → IsNext r gain track b → IsFilled r gain u row track → start ≡ max (track.unit * unit_length r) track.end
    → k < length row → u * unit_length r + k < start + b.fixed.duration → gain_over (starting start b) (u * unit_length r + k) (get_or row k 0) ≡ gain_at r gain (u * unit_length r + k)
unfolding gain_at
written_gain r gain u row track b start k next filled start_is h within =
    let l = unit_length r in
    let t = u * l + k in
    let v = track.unit in
    let rest = blocks_from r gain v (track.block + 1) in
    let found : track.end ≤ t → find (covers t) (timed_after l 0 (gain_blocks gain r.units)) ≡ find (covers t) (timed_after l track.end ((v, b) ∷ rest)) = λ past. filled.on.rest t past ∙ ap (λ bs. find (covers t) (timed_after l track.end bs)) next in
    ⊎_elim
    (λ (old : t < track.end). over_before (starting start b) t (get_or row k 0) (omega arith) ∙ filled.done k h old)
    (λ (past : track.end ≤ t). ⊎_elim
    (λ (gap : t < start).
    let none = found past ∙ none_at_gap l track.end v b rest t (omega arith) in
    over_before (starting start b) t (get_or row k 0) gap ∙ filled.open_to k h past ∙ sym (ap (covered_gain gain.default_mix_gain t) none))
    (λ (begun : start ≤ t).
    let some = found past ∙ first_covers l track.end v b rest t (omega arith) (omega arith) in
    let here : covered_gain gain.default_mix_gain t (Some (starting (max (v * l) track.end) b)) ≡ covered_gain gain.default_mix_gain t (Some (starting start b)) = ap (λ (s : ℕ). covered_gain gain.default_mix_gain t (Some (starting s b))) (sym start_is) in
    over_inside (starting start b) t (get_or row k 0) begun within ∙ sym (ap (covered_gain gain.default_mix_gain t) some ∙ here))
    (cases_lt t start))
    (cases_lt t track.end)

-- the track past the next block
abbrev pub past_block : GainTrack → ℕ → GainTrack
past_block track end = record { unit = track.unit; block = track.block + 1; end = end }

pub filled_past : (r : Rendition) (gain : MixGainFields) (u : ℕ) (row after : List ℕ) (track : GainTrack) (b : GainBlock) (start end : ℕ) → IsNext r gain track b → IsFilled r gain u row track
    → start ≡ max (track.unit * unit_length r) track.end → end ≡ start + b.fixed.duration → length after ≡ length row
    → ((k : ℕ) → k < length row → get_or after k 0 ≡ gain_over (starting start b) (u * unit_length r + k) (get_or row k 0)) → IsFilled r gain u after (past_block track end)
filled_past r gain u row after track b start end next filled start_is end_is long written =
    let l = unit_length r in
    let v = track.unit in
    let rest = blocks_from r gain v (track.block + 1) in
    record {
      on = record {
        rest = λ t past.
            let skipped : max (v * l) track.end + b.fixed.duration ≤ t = omega arith in
            let ended : max (v * l) track.end + b.fixed.duration ≡ end = omega arith in
            filled.on.rest t (omega arith) ∙ ap (λ bs. find (covers t) (timed_after l track.end bs)) next ∙ past_first l track.end v b rest t skipped ∙ ap (λ (e : ℕ). find (covers t) (timed_after l e rest)) ended;
      };
      done = λ k h before. let there : k < length row = omega arith in written k there ∙ written_gain r gain u row track b start k next filled start_is there (omega arith);
      open_to = λ k h past. let there : k < length row = omega arith in written k there ∙ over_after (starting start b) (u * l + k) (get_or row k 0) (omega arith) ∙ filled.open_to k there (omega arith);
    }

-- no block is left that covers a tick of the unit
pub complete : (r : Rendition) (gain : MixGainFields) (u : ℕ) (row : List ℕ) (track : GainTrack) → u < track.unit → track.block ≡ 0 → length row ≡ unit_length r → IsFilled r gain u row track → HasGains r gain u row
unfolding gain_at
complete r gain u row track past first long filled = λ k h.
    let l = unit_length r in
    let t = u * l + k in
    let v = track.unit in
    let unit_end : (u + 1) * l ≤ v * l = mul-le-mul_right l (omega arith) in
    let early : t < v * l = omega arith in
    ⊎_elim (λ (done : t < track.end). filled.done k h done)
    (λ (left : track.end ≤ t).
    let own = numbered gain v v (unit_of r v ∷ drop (v + 1) r.units) (omega arith) in
    let none : find (covers t) (timed_after l track.end (blocks_from r gain v 0)) ≡ None = none_yet l track.end v (blocks_from r gain v 0) t own early in
    let found = filled.on.rest t left ∙ ap (λ (i : ℕ). find (covers t) (timed_after l track.end (blocks_from r gain v i))) first ∙ none in
    filled.open_to k h left ∙ sym (ap (covered_gain gain.default_mix_gain t) found))
    (cases_lt t track.end)

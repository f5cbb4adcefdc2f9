-- What a player reserves, from unit to unit.
use Rattle.std.proofs.Common.{arith, ◌≡◌, ◌<◌, ◌≤◌, ◌+◌, ◌*◌, ◌/◌, ◌^◌, ℕ, ℤ, pos, sym, ap, subst, ◌∙◌, List, length, get_or, take, unsigned_abs}
use Rattle.std.specs.List.{flat_map}
use Rattle.std.proofs.Math.Nat.{mul-le-mul_left, mul-le-mul_right}
use Rattle.std.proofs.lemmas.Nat.{mul-add-lt}
use Rattle.std.proofs.lemmas.List.{get_or-take, length-take-le}
use Rattle.std.specs.Prelude.{IsTrue}
use Rattle.std.proofs.lemmas.Bool.Decides.{nat_tests}
use Rattle.spec_samples.specs.Lpcm.{is_depth}
use Rattle.spec_obu.specs.declared.trim.Trim.{Trim}
use Rattle.spec_sequence.specs.Parts.{temporal_units, first_trim}
use Rattle.spec_sequence.specs.Reading.{values_of, roles}
use Rattle.spec_rules.specs.Units.{unit_count}
use Rattle.spec_waves.specs.Wave.{Shape}
use Rattle.spec_play.specs.Mixes.{Rendition, codec_of, unit_length, unit_of}
use Rattle.spec_play.specs.Waves.{wave_shape}
use Rattle.spec_play.specs.FixedMix.{fixed_mix}
use Rattle.spec_play.specs.Playing.{unit_bytes}
use Rattle.iamf_mixing.specs.Bytes.{mixed_bytes}
use Rattle.iamf_sequence.specs.SequenceValue.{SequenceValue}
use Rattle.iamf_play.specs.declared.element.PlayedElement.{PlayedElement}
use Rattle.iamf_play.specs.declared.reserved.Reserved.{Reserved}
use Rattle.iamf_play.specs.PlayedElements.{AreParts, AreBegun}
use Rattle.iamf_play.specs.Mixing.{mixed_from, kept_by, kept_of, first_of, place, IsAt}
use Rattle.iamf_play.specs.Reserving.{IsOf, IsReserved, HasPlayed}
use Rattle.iamf_play.proofs.Renditions.{units_are, unit_count_is}
use Rattle.iamf_play.proofs.MixedUnits.{bytes_are, tick_among}

pub parts_after : (s : SequenceValue) (r : Rendition) (u : ℕ) (ps : List PlayedElement) → AreBegun s r u ps → AreParts s r (u + 1) ps
parts_after s r u ps are = record { count = are.count; each = λ k m p a b. (are.each k m p a b).part }

pub channels_of : (s : SequenceValue) (r : Rendition) (u : ℕ) (v : Reserved) → IsReserved s r u v → v.shape.channels ≡ (wave_shape r).channels
channels_of s r u v is = ap (λ (x : Shape). x.channels) is.shape

pub depth_of : (s : SequenceValue) (r : Rendition) (u : ℕ) (v : Reserved) → IsReserved s r u v → v.shape.depth ≡ (codec_of r).depth
depth_of s r u v is = ap (λ (x : Shape). x.depth) is.shape

pub units_of : (s : SequenceValue) (r : Rendition) → IsOf s r → r.units ≡ temporal_units (values_of s.entries)
units_of s r is = units_are (values_of s.entries) is.mix r.target r is.heard_is

pub unit_among : (s : SequenceValue) (r : Rendition) (n : ℕ) → IsOf s r → n < length r.units → n < unit_count (roles s.entries)
unit_among s r n is h = subst (λ k. n < k) (unit_count_is s.entries is.mix r.target r is.heard_is) h

pub at_unit : (s : SequenceValue) (r : Rendition) (u channels : ℕ) (ps : List PlayedElement) → IsOf s r → u < length r.units → AreBegun s r u ps → channels ≡ (wave_shape r).channels → IsAt s r u channels ps
at_unit s r u channels ps is h are wide = record { playable = is.playable; elements = are; unit = h; wide = wide }

-- the kept values fit in the room for a unit
pub kept_room : (ticks kept channels room : ℕ) → kept ≤ ticks → room ≡ ticks * channels → kept * channels ≤ room
kept_room ticks kept channels room h e = let more : kept * channels ≤ ticks * channels = mul-le-mul_right channels h in omega arith

pub kept_is : (r : Rendition) (u ticks kept : ℕ) (trim : Trim) → kept ≡ kept_by ticks trim → ticks ≡ unit_length r → trim ≡ first_trim (unit_of r u).frames → kept ≡ kept_of r u
kept_is r u ticks kept trim k t e = k ∙ ap (λ n. kept_by n trim) t ∙ ap (kept_by (unit_length r)) e

pub mixed_is : (r : Rendition) (u kept first channels : ℕ) (mixed : List ℤ) (trim : Trim) → take (kept * channels) mixed ≡ mixed_from r u first kept → kept ≡ kept_of r u → trim ≡ first_trim (unit_of r u).frames → first ≡ trim.start → channels ≡ (wave_shape r).channels
    → take (kept * (wave_shape r).channels) mixed ≡ mixed_from r u (first_of r u) (kept_of r u)
mixed_is r u kept first channels mixed trim value k t f c =
    ap (λ n. take (kept * n) mixed) (sym c) ∙ value ∙ ap (mixed_from r u first) k ∙ ap (λ n. mixed_from r u n (kept_of r u)) (f ∙ ap (λ (x : Trim). x.start) t)

pub bytes_is : (r : Rendition) (u kept channels depth : ℕ) (mixed : List ℤ) (bytes : List ℕ) → take (kept * channels * (depth / 8)) bytes ≡ flat_map (mixed_bytes depth) (take (kept * channels) mixed)
    → channels ≡ (wave_shape r).channels → depth ≡ (codec_of r).depth → take (kept * (wave_shape r).channels) mixed ≡ mixed_from r u (first_of r u) (kept_of r u)
    → take (kept * (wave_shape r).channels * ((codec_of r).depth / 8)) bytes ≡ unit_bytes r u
bytes_is r u kept channels depth mixed bytes put c d value =
    ap (λ n. take (kept * n * ((codec_of r).depth / 8)) bytes) (sym c) ∙ ap (λ n. take (kept * channels * (n / 8)) bytes) (sym d)
    ∙ put ∙ ap (λ n. flat_map (mixed_bytes n) (take (kept * channels) mixed)) d ∙ ap (λ n. flat_map (mixed_bytes (codec_of r).depth) (take (kept * n) mixed)) c
    ∙ ap (flat_map (mixed_bytes (codec_of r).depth)) value ∙ bytes_are r u

-- ---- the values of the unit played last

pub mixed_low : (r : Rendition) (u n c : ℕ) (v : Reserved) → HasPlayed r u v → n < kept_of r u → c < (wave_shape r).channels → n * (wave_shape r).channels + c < v.kept * (wave_shape r).channels
mixed_low r u n c v played h k =
    let kept = played.kept in
    let inside : n < v.kept = omega (arith, kept) in
    omega (arith, mul-add-lt n (wave_shape r).channels c v.kept inside k)

pub mixed_value : (r : Rendition) (u n c : ℕ) (v : Reserved) → HasPlayed r u v → n < kept_of r u → c < (wave_shape r).channels → get_or v.mixed.items (n * (wave_shape r).channels + c) (pos 0) ≡ fixed_mix r (place u (first_of r u + n) c)
mixed_value r u n c v played h k =
    sym (get_or-take (v.kept * (wave_shape r).channels) v.mixed.items (n * (wave_shape r).channels + c) (pos 0) (mixed_low r u n c v played h k))
    ∙ ap (λ (xs : List ℤ). get_or xs (n * (wave_shape r).channels + c) (pos 0)) played.mixed
    ∙ tick_among r u (first_of r u) (kept_of r u) n c h k

-- ---- sizes

pub kept_low : (r : Rendition) (u : ℕ) (v : Reserved) → HasPlayed r u v → v.kept ≤ unit_length r
kept_low r u v played = let kept = played.kept in omega (arith, kept)

pub values_low : (s : SequenceValue) (r : Rendition) (p u : ℕ) (v : Reserved) → IsReserved s r p v → HasPlayed r u v → v.kept * v.shape.channels < 2 ^ 26
values_low s r p u v is played =
    let few : v.shape.channels ≤ 225 = (let c = channels_of s r p v is in let most = is.of.shape.few in omega (arith, c, most)) in
    let more = mul-le-mul_left v.kept few in
    let low = kept_low r u v played in
    let short = is.of.short in
    omega (arith, more, low, short)

pub bytes_low : (s : SequenceValue) (r : Rendition) (p u : ℕ) (v : Reserved) → IsReserved s r p v → HasPlayed r u v → v.kept * v.shape.channels * (v.shape.depth / 8) ≤ length v.bytes.items
bytes_low s r p u v is played =
    let inner = mul-le-mul_right (wave_shape r).channels (kept_low r u v played) in
    let outer = mul-le-mul_right ((codec_of r).depth / 8) inner in
    let whole : v.kept * (wave_shape r).channels * ((codec_of r).depth / 8) ≤ length v.bytes.items = subst (λ n. v.kept * (wave_shape r).channels * ((codec_of r).depth / 8) ≤ n) (sym is.bytes) outer in
    subst (λ n. v.kept * n * (v.shape.depth / 8) ≤ length v.bytes.items) (sym (channels_of s r p v is)) (subst (λ n. v.kept * (wave_shape r).channels * (n / 8) ≤ length v.bytes.items) (sym (depth_of s r p v is)) whole)

pub place_low : (s : SequenceValue) (r : Rendition) (p u n c : ℕ) (v : Reserved) → IsReserved s r p v → HasPlayed r u v → n < kept_of r u → c < (wave_shape r).channels → n * v.shape.channels + c < length v.mixed.items
place_low s r p u n c v is played h k =
    let low = mixed_low r u n c v played h k in
    let room = mul-le-mul_right (wave_shape r).channels (kept_low r u v played) in
    let whole : n * (wave_shape r).channels + c < length v.mixed.items = (let long = is.mixed in omega (arith, low, room, long)) in
    subst (λ m. n * m + c < length v.mixed.items) (sym (channels_of s r p v is)) whole

depth_low : (d : ℕ) → IsTrue (is_depth d) → d ≤ 32
depth_low d h = grind (arith, nat_tests)

pub bytes_fit : (s : SequenceValue) (r : Rendition) (p u : ℕ) (v : Reserved) → IsReserved s r p v → HasPlayed r u v → v.kept * v.shape.channels * (v.shape.depth / 8) < 2 ^ 30
bytes_fit s r p u v is played =
    let depth : v.shape.depth ≤ 32 = subst (λ d. d ≤ 32) (sym (depth_of s r p v is)) (depth_low (codec_of r).depth is.of.shape.depth) in
    let size : v.shape.depth / 8 ≤ 4 = omega arith in
    let more = mul-le-mul_left (v.kept * v.shape.channels) size in
    let low = values_low s r p u v is played in
    omega (arith, more, low)

pub mixed_small : (s : SequenceValue) (r : Rendition) (p u n c : ℕ) (v : Reserved) → IsReserved s r p v → HasPlayed r u v → n < kept_of r u → c < (wave_shape r).channels → unsigned_abs (get_or v.mixed.items (n * (wave_shape r).channels + c) (pos 0)) < 2 ^ 126
mixed_small s r p u n c v is played h k =
    let i = n * (wave_shape r).channels + c in
    let most = v.kept * (wave_shape r).channels in
    let low = mixed_low r u n c v played h k in
    let more = mul-le-mul_right (wave_shape r).channels (kept_low r u v played) in
    let room : most ≤ length v.mixed.items = (let long = is.mixed in omega (arith, more, long)) in
    let inside : i < length (take most v.mixed.items) = subst (λ m. i < m) (sym (length-take-le most v.mixed.items room)) low in
    subst (λ (z : ℤ). unsigned_abs z < 2 ^ 126) (get_or-take most v.mixed.items i (pos 0) low) (played.small i (pos 0) inside)

pub row_low : (s : SequenceValue) (r : Rendition) (p u n : ℕ) (v : Reserved) → IsReserved s r p v → HasPlayed r u v → n < kept_of r u → n * v.shape.channels < 2 ^ 26
row_low s r p u n v is played h =
    let kept = played.kept in
    let more = mul-le-mul_right v.shape.channels (let below : n ≤ v.kept = omega (arith, kept) in below) in
    let low = values_low s r p u v is played in
    omega (arith, more, low)

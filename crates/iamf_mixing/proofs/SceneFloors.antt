-- Equal fractions have equal floors.
use Rattle.std.proofs.Common.{arith, ◌≡◌, ◌<◌, ℕ, ℤ, pos, ◌+ℤ◌, ◌*ℤ◌, ◌≤ℤ◌, ◌<ℤ◌, unsigned_abs, List, length, sym, ap, ◌∙◌}
use Rattle.std.proofs.lemmas.Int.{ints}
use Rattle.spec_descriptors.specs.Ambisonics.{AmbisonicsFields, Mono, Projection}
use Rattle.spec_descriptors.specs.Ambisonics as fields
use Rattle.spec_demix.specs.declared.Fraction.{Fraction}
use Rattle.spec_demix.specs.Floor.{floor_of, unit}
use Rattle.spec_demix.specs.Scenes.{scene_top, scene_bottom}
use Rattle.spec_demix.proofs.FloorLemmas.{floor-low, floor-high, distribute, mul-ordered, swapped, swapped_left}
use Rattle.demix_layers.proofs.Floors.{int_ordered}
use Rattle.demix_layers.specs.SceneView.{IsPlayed, IsOutput}
use Rattle.obu_element_config.specs.declared.config.ElementConfig.{ElementConfig}
use Rattle.obu_element_config.specs.declared.config.ElementConfig.TheVariants as config
use Rattle.iamf_mixing.specs.Scenes.{output_units, scene_units}

not_below : (x y : ℤ) (n m : ℕ) → 0 < n → 0 < m → x *ℤ pos m ≡ y *ℤ pos n → floor_of x n <ℤ floor_of y m → ⊥
not_below x y n m some other same below =
    let q = floor_of x n in
    let p = floor_of y m in
    let next : (q +ℤ pos 1) ≤ℤ p = omega (arith, ints) in
    let high = floor-high x n some in
    let step : (q +ℤ pos 1) *ℤ pos n ≡ q *ℤ pos n +ℤ pos 1 *ℤ pos n = distribute q (pos 1) (pos n) in
    let up : ((q +ℤ pos 1) *ℤ pos n) ≤ℤ (p *ℤ pos n) = mul-ordered (q +ℤ pos 1) p n next in
    let past : (x +ℤ pos 1) ≤ℤ (p *ℤ pos n) = omega (arith, ints) in
    let more : ((x +ℤ pos 1) *ℤ pos m) ≤ℤ ((p *ℤ pos n) *ℤ pos m) = mul-ordered (x +ℤ pos 1) (p *ℤ pos n) m past in
    let parts : (x +ℤ pos 1) *ℤ pos m ≡ x *ℤ pos m +ℤ pos 1 *ℤ pos m = distribute x (pos 1) (pos m) in
    let turn : (p *ℤ pos n) *ℤ pos m ≡ (p *ℤ pos m) *ℤ pos n = swapped p n m in
    let low : ((p *ℤ pos m) *ℤ pos n) ≤ℤ (y *ℤ pos n) = mul-ordered (p *ℤ pos m) y n (floor-low y m other) in
    omega (arith, ints)

same_floor : (x y : ℤ) (n m : ℕ) → 0 < n → 0 < m → x *ℤ pos m ≡ y *ℤ pos n → floor_of x n ≡ floor_of y m
same_floor x y n m some other same = int_ordered (floor_of x n) (floor_of y m) (λ h. not_below x y n m some other same h) (λ h. not_below y x m n other some (sym same) h)

some_bottom : (fields : AmbisonicsFields) → 0 < scene_bottom fields
some_bottom (Mono outputs substreams mapping) = omega arith
some_bottom (Projection outputs substreams coupled matrix) = omega arith

of_fraction : (fields : AmbisonicsFields) (coded : List ℤ) (c : ℕ) (top bottom : ℤ) → pos 0 <ℤ bottom → top *ℤ pos (scene_bottom fields) ≡ scene_top fields coded c *ℤ bottom
    → floor_of (top *ℤ pos unit) (unsigned_abs bottom) ≡ output_units fields coded c
of_fraction fields coded c top bottom above same =
    let b = unsigned_abs bottom in
    let s = scene_bottom fields in
    let t = scene_top fields coded c in
    let whole : bottom ≡ pos b = omega (arith, ints) in
    let some : 0 < b = omega (arith, ints) in
    let left : (top *ℤ pos unit) *ℤ pos s ≡ (top *ℤ pos s) *ℤ pos unit = swapped top unit s in
    let middle : (top *ℤ pos s) *ℤ pos unit ≡ (t *ℤ pos b) *ℤ pos unit = ap (λ z. z *ℤ pos unit) (same ∙ ap (λ z. t *ℤ z) whole) in
    let right : (pos unit *ℤ t) *ℤ pos b ≡ pos unit *ℤ (t *ℤ pos b) = swapped_left t unit b in
    let turn : (t *ℤ pos b) *ℤ pos unit ≡ pos unit *ℤ (t *ℤ pos b) = omega (arith, ints) in
    same_floor (top *ℤ pos unit) (pos unit *ℤ t) b s some (some_bottom fields) (left ∙ middle ∙ turn ∙ sym right)

pub output_is : (kept : ElementConfig) (coded : List ℤ) (c : ℕ) (f : Fraction) → pos 0 <ℤ f.bottom → IsPlayed kept (length coded) c → IsOutput kept coded c f
    → floor_of (f.top *ℤ pos unit) (unsigned_abs f.bottom) ≡ scene_units kept coded c
output_is (config.Scalable layers) coded c f above played is = absurd played
output_is (config.Mono outputs mapping) coded c f above played is = of_fraction (fields.Mono outputs (length coded) mapping.now) coded c f.top f.bottom above is
output_is (config.Projection outputs substreams coupled matrix) coded c f above played is = of_fraction (fields.Projection outputs substreams coupled matrix.now) coded c f.top f.bottom above is
output_is (config.Other kind bytes) coded c f above played is = absurd played

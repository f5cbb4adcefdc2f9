-- What a gain multiplies by: IAMF 1.0.0, "Mix Gain Parameter Data", whose gains are signed numbers of 1/256 dB. The numbers
-- here count 10^12 as one, and each product of two of them is rounded down.
use Rattle.std.specs.Prelude.{ℕ, zero, suc, ◌*◌, ◌/◌, ◌%◌, ◌^◌, List, [], ◌∷◌, ℤ, pos, negsuc, unsigned_abs, slice_index}
use Rattle.std.specs.Int.{int_div_euclid, int_rem_euclid}

-- one
abbrev pub one : ℕ
one = 1000000000000

abbrev pub scaled : ℕ → ℕ → ℕ
scaled x y = x * y / one

-- 1/256 dB
abbrev pub least_gain : ℕ
least_gain = 1000449824792

-- so many 1/256 dB
abbrev pub low_of : ℕ → ℕ
low_of zero = one
low_of (suc l) = scaled (low_of l) least_gain

-- so many 1/16 dB
abbrev pub high_of : ℕ → ℕ
high_of zero = one
high_of (suc h) = scaled (high_of h) (low_of 16)

-- b 1/256 dB, less than one decibel
abbrev pub fine_of : ℕ → ℕ
fine_of b = scaled (high_of (b / 16)) (low_of (b % 16))

-- the whole decibels below twenty
abbrev pub coarse_numbers : List ℕ
coarse_numbers =
    1000000000000
    ∷ 1122018454301
    ∷ 1258925411794
    ∷ 1412537544622
    ∷ 1584893192461
    ∷ 1778279410038
    ∷ 1995262314968
    ∷ 2238721138568
    ∷ 2511886431509
    ∷ 2818382931264
    ∷ 3162277660168
    ∷ 3548133892335
    ∷ 3981071705534
    ∷ 4466835921509
    ∷ 5011872336272
    ∷ 5623413251903
    ∷ 6309573444801
    ∷ 7079457843841
    ∷ 7943282347242
    ∷ 8912509381337
    ∷ []

abbrev pub coarse_of : ℕ → ℕ
coarse_of decibels = slice_index coarse_numbers decibels

-- a number times 10^e, rounded down: twenty decibels are ten
abbrev pub shifted : ℕ → ℤ → ℕ
shifted q (pos e) = q * 10 ^ e
shifted q (negsuc e) = q / 10 ^ suc e

-- the gain of g 1/256 dB, where g is 256 (20 e + r) + b with r below 20 and b below 256
abbrev pub gain_of : ℤ → ℕ
gain_of g =
    let decibels = int_div_euclid g (pos 256) in
    let b = unsigned_abs (int_rem_euclid g (pos 256)) in
    let r = unsigned_abs (int_rem_euclid decibels (pos 20)) in
    shifted (scaled (coarse_of r) (fine_of b)) (int_div_euclid decibels (pos 20))

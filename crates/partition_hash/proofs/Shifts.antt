-- Shifts of a 32-bit number to the right by two or more bits.
use Rattle.std.proofs.Common.{ℕ, ◌*◌, ◌/◌, ◌^◌, ◌<◌, ◌≤◌, arith}
use Rattle.std.proofs.Math.Nat.{pow-le-pow_right, mul-div-le, mul-le-mul_right}

pub shifted-lt : (h j : ℕ) → h < 2 ^ 32 → 2 ≤ j → h / 2 ^ j < 2 ^ 30
shifted-lt h j fits far =
    let power : 2 ^ 2 ≤ 2 ^ j = pow-le-pow_right {n = 2} (omega arith) far in
    let product : 2 ^ j * (h / 2 ^ j) ≤ h = mul-div-le h (2 ^ j) in
    let quarter : 2 ^ 2 * (h / 2 ^ j) ≤ 2 ^ j * (h / 2 ^ j) = mul-le-mul_right (h / 2 ^ j) power in
    omega (arith, product, quarter)

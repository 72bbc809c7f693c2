-- Bounds on the fields of a group, and the code's steps that assemble a group.
use Rattle.std.proofs.Common.{◌≡◌, ℕ, ◌+◌, ◌*◌, ◌%◌, ◌^◌, ◌<◌, ◌≤◌, List, get_or, arith}
use Rattle.std.proofs.lemmas.Nat.{mul-le, shl_whole}
use Rattle.std.proofs.Math.Nat.{pow-le-pow_right}
use Rattle.astc_model.specs.Bits.{field_of}
use Rattle.astc_model.specs.Sequences.{trits, quints, trit_bits, quint_bits, value_of}
use Rattle.ise_codec.proofs.GroupLaws.{trit_value-lt, quint_value-lt}

pow_le : (b c : ℕ) → b ≤ c → 2 ^ b ≤ 2 ^ c
pow_le b c le = pow-le-pow_right {n = 2} (omega arith) le

pub trit_fits : (b z i k : ℕ) (digits : List ℕ) (low : ℕ) → b ≤ 6 → i < 5 → digits
    ≡ trits (trit_bits b z) → low ≡ field_of z k b → get_or digits i 0 * 2 ^ b + low < 256
trit_fits b z i k digits low small within d l =
    let value : value_of b (trits (trit_bits b z)) i (field_of z k b) < 3 * 2 ^ b =
    trit_value-lt b z i k within in
    let power : 2 ^ b ≤ 2 ^ 6 = pow_le b 6 small in
    rw (d, l) (omega arith)

pub quint_fits : (b z i k : ℕ) (digits : List ℕ) (low : ℕ) → b ≤ 5 → i < 3 → digits
    ≡ quints (quint_bits b z) → low ≡ field_of z k b → get_or digits i 0 * 2 ^ b + low < 256
quint_fits b z i k digits low small within d l =
    let value : value_of b (quints (quint_bits b z)) i (field_of z k b) < 5 * 2 ^ b =
    quint_value-lt b z i k within in
    let power : 2 ^ b ≤ 2 ^ 5 = pow_le b 5 small in
    rw (d, l) (omega arith)

pub stacked_size : (high width field : ℕ) → high < 2 ^ 57 → width ≤ 6 → field < 2 ^ width
    → high * 2 ^ width % 2 ^ 64 + field ≤ 64 * high + 63
stacked_size high width field room small fits =
    let whole : high * 2 ^ width % 2 ^ 64 ≡ high * 2 ^ width = shl_whole high 57 width 64 room
    (omega arith) in
    let power : 2 ^ width ≤ 2 ^ 6 = pow_le width 6 small in
    omega (arith, whole, mul-le high (2 ^ width) high 64 (omega arith) power)

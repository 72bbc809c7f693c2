-- Every texel belongs to a partition that its block has.
use Rattle.std.proofs.Common.{◌≡◌, ◌≢◌, ℕ, zero, suc, ◌<◌, ◌≤◌, ◌==◌, Bool, true, false, if◌then◌else◌, refl, arith}
use Rattle.std.proofs.lemmas.Bool.{eqb-false}
use Rattle.astc_model.specs.Partitions.{first_greatest, score, score_if, part_of, part_at, hash52, hashed_seed, x_shift, y_shift, doubled}

-- the index of the greatest score is below 4; below 3 or 2 if the last scores are 0
first_greatest-lt : (a b c d : ℕ) → first_greatest a b c d < 4
first_greatest-lt a b c d = grind arith

first_greatest-three : (a b c : ℕ) → first_greatest a b c 0 < 3
first_greatest-three a b c = grind arith

first_greatest-two : (a b : ℕ) → first_greatest a b 0 0 < 2
first_greatest-two a b = grind arith

first_greatest-parts : (parts a b c d : ℕ) → 2 ≤ parts → parts ≤ 4
    → first_greatest a b (score_if parts 2 c) (score_if parts 3 d) < parts
first_greatest-parts zero a b c d several few = absurd (omega arith)
first_greatest-parts (suc zero) a b c d several few = absurd (omega arith)
first_greatest-parts (suc (suc zero)) a b c d several few = first_greatest-two a b
first_greatest-parts (suc (suc (suc zero))) a b c d several few = first_greatest-three a b c
first_greatest-parts (suc (suc (suc (suc zero)))) a b c d several few = first_greatest-lt a b c d
first_greatest-parts (suc (suc (suc (suc (suc parts))))) a b c d several few = absurd (omega arith)

-- in a block of several partitions, the partition of a texel is below their number
pub part_at-lt : (parts n x y : ℕ) → 2 ≤ parts → parts ≤ 4 → part_at parts n x y < parts
unfolding part_at
part_at-lt parts n x y several few =
    let r : ℕ = hash52 n in
    let s : ℕ = x_shift parts n in
    let t : ℕ = y_shift parts n in
    first_greatest-parts parts (score r s t 0 x y) (score r s t 1 x y) (score r s t 2 x y)
    (score r s t 3 x y) several few

-- a property of the partition of a texel, with one partition or with several
one_or_more : (b : Bool) (parts part : ℕ) → (parts == 1) ≡ b → 1 ≤ parts
    → (2 ≤ parts → part < parts) → (if b then 0 else part) < parts
one_or_more true parts part one some several = some
one_or_more false parts part one some several =
    let other : parts ≢ 1 = eqb-false parts 1 one in
    let more : 2 ≤ parts = omega arith in
    several more

-- the partition of a texel is below the number of partitions
pub part_of-lt : (w h parts seed x y : ℕ) → 1 ≤ parts → parts ≤ 4
    → part_of w h parts seed x y < parts
unfolding part_of
part_of-lt w h parts seed x y some few =
    let n : ℕ = hashed_seed parts seed in
    let part : ℕ = part_at parts n (doubled w h x) (doubled w h y) in
    one_or_more (parts == 1) parts part refl some (λ several. part_at-lt parts n (doubled w h x)
    (doubled w h y) several few)

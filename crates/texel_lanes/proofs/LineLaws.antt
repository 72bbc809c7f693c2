-- The lanes of scalar products of texels with lines, and stores of sixteen bytes.
use Rattle.std.proofs.Common.{◌≡◌, ℕ, ◌+◌, ◌-◌, ◌*◌, ◌%◌, ◌<◌, ◌≤◌, List, Bool, true, false, cond, ltb, length, get_or, map, refl, sym, subst, ◌∙◌, arith, w8, Fits}
use Rattle.std.specs.Simd.Lanes.{zip2, sel_l, top, Each1}
use Rattle.std.proofs.lemmas.Bool.{ltb-true, ltb-false}
use Rattle.std.proofs.lemmas.Nat.{mul-le}
use Rattle.std.proofs.lemmas.Simd.{tops_compared, Each1-get_or}
use Rattle.texel_lanes.specs.Lanes.{HasLanes, along_lane, far_apart, four_products}
use Rattle.texel_lanes.proofs.LaneLaws.{compared, made, same_lanes}

-- ---- absolute differences of bytes

abbrev pub wrapped_byte_difference : ℕ → ℕ → ℕ
wrapped_byte_difference a b = (a + (256 - b)) % 256

apart_by_case : (a b : ℕ) (test : Bool) → ltb a b ≡ test → a < 256 → b < 256
    → (cond (ltb a b) b a + (256 - cond (ltb a b) a b)) % 256 ≡ far_apart a b
apart_by_case a b true e p q = let less = ltb-true a b e in rw e (omega arith)
apart_by_case a b false e p q = let most = ltb-false a b e in rw e (omega arith)

abbrev pub less_byte_mask : List ℕ → List ℕ → List Bool
less_byte_mask a b = map (top 7) (zip2 (λ a b. cond (ltb a b) 255 0) a b)

pub apart_bytes : (a b : List ℕ) → length a ≡ 16 → length b ≡ 16 → Each1 (Fits w8) a
    → Each1 (Fits w8) b → HasLanes 16
    (zip2 wrapped_byte_difference (sel_l (less_byte_mask a b) b a)
    (sel_l (less_byte_mask a b) a b))
    (λ k. far_apart (get_or a k 0) (get_or b k 0))
apart_bytes a b p q fa fb =
    let most = subst (λ ms. HasLanes 16 (sel_l ms b a)
    (λ k. cond (ltb (get_or a k 0) (get_or b k 0)) (get_or b k 0) (get_or a k 0)))
    (sym (tops_compared w8 ltb a b)) (compared 16 ltb a b b a p q q p) in
    let least = subst (λ ms. HasLanes 16 (sel_l ms a b)
    (λ k. cond (ltb (get_or a k 0) (get_or b k 0)) (get_or a k 0) (get_or b k 0)))
    (sym (tops_compared w8 ltb a b)) (compared 16 ltb a b a b p q p q) in
    same_lanes 16 _ _ _ (made 16 wrapped_byte_difference _ _ _ _ most least)
    (λ k l. apart_by_case (get_or a k 0) (get_or b k 0) _ refl
    (Each1-get_or (Fits w8) a k 0 (omega arith) fa).fits
    (Each1-get_or (Fits w8) b k 0 (omega arith) fb).fits)

-- ---- sums of four products

pub four_small : (xs ys : List ℕ) (t m : ℕ) → t < 4
    → ((k : ℕ) → k < 16 → get_or xs k 0 ≤ 255) → ((k : ℕ) → k < 16 → get_or ys k 0 ≤ m)
    → four_products xs ys t ≤ 4 * (255 * m)
four_small xs ys t m l small factors =
    let one : (k : ℕ) → k < 16 → get_or xs k 0 * get_or ys k 0 ≤ 255 * m =
    λ k below. mul-le (get_or xs k 0) (get_or ys k 0) 255 m (small k below) (factors k below) in
    omega (
      arith,
      one (4 * t) (omega arith),
      one (4 * t + 1) (omega arith),
      one (4 * t + 2) (omega arith),
      one (4 * t + 3) (omega arith),
    )

sums_of_steps : (a b c d e f g h i j k l : ℕ)
    → 4 * (a * e + b * f + (c * g + d * h)) + (a * i + b * j + (c * k + d * l))
    ≡ a * (4 * e + i) + b * (4 * f + j) + c * (4 * g + k) + d * (4 * h + l)
sums_of_steps a b c d e f g h i j k l = omega arith

pub along_is : (apart coarse fine texels origins quarters rests result : List ℕ)
    → HasLanes 16 apart (λ k. far_apart (get_or texels k 0) (get_or origins k 0))
    → HasLanes 4 coarse (four_products apart quarters)
    → HasLanes 4 fine (four_products apart rests)
    → HasLanes 4 result (λ t. 4 * get_or coarse t 0 + get_or fine t 0)
    → HasLanes 4 result (along_lane texels origins quarters rests)
along_is apart coarse fine texels origins quarters rests result h one other both = record {
  long = both.long;
  each = λ t l.
      both.each t l
      ∙ (rw (
        one.each t l,
        other.each t l,
        h.each (4 * t) (omega arith),
        h.each (4 * t + 1) (omega arith),
        h.each (4 * t + 2) (omega arith),
        h.each (4 * t + 3) (omega arith),
      ) (sums_of_steps _ _ _ _ _ _ _ _ _ _ _ _));
}

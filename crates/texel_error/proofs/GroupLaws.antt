-- The weights of four neighbouring texels, computed from the lanes of their places.
use Rattle.std.proofs.Common.{◌≡◌, ℕ, ◌+◌, ◌*◌, ◌<◌, ◌≤◌, List, get_or, ap, sym, ◌∙◌, arith}
use Rattle.std.specs.Prelude.{slice_index}
use Rattle.std.proofs.lemmas.List.{get_or-map}
use Rattle.std.proofs.lemmas.Nat.{mul-le}
use Rattle.texel_lanes.specs.Lanes.{HasLanes, four_products}
use Rattle.texel_lanes.proofs.LaneLaws.{four_shares}
use Rattle.texel_error.specs.Drawing.{HaveValues, values_of}
use Rattle.texel_error.specs.Groups.{IsOriginGroup, group_pairs, place_of_lane}
use Rattle.texel_error.specs.Numerators.{rounded, share_sum}
use Rattle.texel_error.specs.declared.drawn.DrawnPoints.{DrawnPoints}
use Rattle.texel_error.specs.declared.groups.GroupOrigins.{GroupOrigins}

product_small : (a f : ℕ) → a ≤ 64 → a * f ≤ 64 * f
product_small a f small = mul-le a f 64 f small (omega arith)

pub four_small : (a b c d e f g h : ℕ) → a ≤ 64 → b ≤ 64 → c ≤ 64 → d ≤ 64 → e + f + g + h ≤ 16
    → a * e + b * f + (c * g + d * h) ≤ 1024
four_small a b c d e f g h p q r s total =
    omega (
      arith,
      product_small a e p,
      product_small b f q,
      product_small c g r,
      product_small d h s,
    )

module _ (n : ℕ) (few : n ≤ 144) (points : DrawnPoints) (have : HaveValues n points)
    (own : GroupOrigins) (is : IsOriginGroup n own) where
  -- the targets at the places of the lanes are at most 64
  pub targets_small : (targets : List ℕ)
      → HasLanes 16 targets (λ k. get_or points.targets.now (place_of_lane own k) 0)
      → (k : ℕ) → k < 16 → get_or targets k 0 ≤ 64
  targets_small targets lanes k l =
      omega (arith, lanes.each k l, have.targets (place_of_lane own k) (is.within k l))

  -- the weight for the target of a place
  value_at : (p : ℕ) → p < n → get_or (values_of points) p 0
      ≡ get_or points.values.now (get_or points.targets.now p 0) 0
  unfolding values_of
  value_at p below = get_or-map (slice_index points.values.now) points.targets.now p 0 0
      (omega (arith, have.places))

  value_small : (p : ℕ) → p < n → get_or (values_of points) p 0 ≤ 64
  value_small p below =
      omega (
        arith,
        value_at p below,
        have.small (get_or points.targets.now p 0) 0
            (omega (arith, have.all, have.targets p below)),
      )

  pub value_lanes : (targets values : List ℕ)
      → HasLanes 16 targets (λ k. get_or points.targets.now (place_of_lane own k) 0)
      → HasLanes 16 values (λ k. get_or points.values.now (get_or targets k 0) 0)
      → HasLanes 16 values (λ k. get_or (values_of points) (place_of_lane own k) 0)
  value_lanes targets values at are = record {
    long = are.long;
    each = λ k l. are.each k l ∙ ap (λ t. get_or points.values.now t 0) (at.each k l)
        ∙ sym (value_at (place_of_lane own k) (is.within k l));
  }

  pub share_small : (t : ℕ) → t < 4 → share_sum (values_of points) (group_pairs own t) ≤ 1024
  share_small t l =
      let small = four_small _ _ _ _ _ _ _ _
      (value_small (place_of_lane own (4 * t)) (is.within (4 * t) (omega arith)))
      (value_small (place_of_lane own (4 * t + 1)) (is.within (4 * t + 1) (omega arith)))
      (value_small (place_of_lane own (4 * t + 2)) (is.within (4 * t + 2) (omega arith)))
      (value_small (place_of_lane own (4 * t + 3)) (is.within (4 * t + 3) (omega arith)))
      (is.factors.total t l) in
      omega (arith, small)

  pub numerators_are : (values numerators : List ℕ)
      → HasLanes 16 values (λ k. get_or (values_of points) (place_of_lane own k) 0)
      → HasLanes 4 numerators (four_products values own.factors)
      → (t : ℕ) → t < 4
      → get_or numerators t 0 ≡ share_sum (values_of points) (group_pairs own t)
  numerators_are values numerators lanes are t l = are.each t l
      ∙ four_shares values own.factors (values_of points) (place_of_lane own) t l lanes

  pub weight_small : (t : ℕ) → t < 4
      → rounded (share_sum (values_of points) (group_pairs own t)) ≤ 64
  weight_small t l = omega (arith, share_small t l)

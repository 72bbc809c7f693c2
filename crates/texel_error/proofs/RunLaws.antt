-- The places on which the weights of four texels depend, stored directly or as offsets in two runs.
use Rattle.std.proofs.Common.{◌≡◌, ℕ, ◌+◌, ◌*◌, ◌<◌, ◌≤◌, true, false, List, get_or, length, refl, ap, ◌∙◌, arith, inl, inr}
use Rattle.std.proofs.lemmas.Bool.{cases_lt}
use Rattle.std.specs.Prelude.{slice_index}
use Rattle.texel_lanes.specs.Lanes.{pairs_of}
use Rattle.texel_error.specs.Groups.{AreFactors, IsOriginGroup, IsLaneKept, group_pairs, place_of_lane}
use Rattle.texel_error.specs.Numerators.{share_sum}
use Rattle.texel_error.specs.declared.groups.GroupOrigins.{GroupOrigins}

products_same : (a b f g : ℕ) → f ≡ g → (0 < f → a ≡ b) → a * f ≡ b * g
products_same a b f g p same =
    elim (cases_lt 0 f) [
      | inl some ↦ ap (λ x. x * f) (same some) ∙ ap (λ x. b * x) p
      | inr least ↦
          let none : f ≡ 0 = omega arith in
          let other : g ≡ 0 = omega arith in
          rw (none, other) (omega arith)
    ]

sums_same : (a b c d e f g h : ℕ) → a ≡ e → b ≡ f → c ≡ g → d ≡ h → 0 + a + b + c + d
    ≡ 0 + e + f + g + h
sums_same a b c d e f g h p q r s = omega arith

module _ (n : ℕ) (own : GroupOrigins) (places factors : List ℕ) (are : AreFactors factors)
    (factors_are : own.factors ≡ factors) (all_first : length own.first ≡ 16)
    (all_second : length own.second ≡ 16) where
  own_factors : AreFactors own.factors
  own_factors = record {
    all = ap length factors_are ∙ are.all;
    small = λ k l. rw factors_are (are.small k l);
    total = λ t l. rw factors_are (are.total t l);
  }

  -- places that are stored directly
  pub far_group : own.near ≡ false → own.first ≡ places
      → ((k : ℕ) → k < 16 → get_or places k 0 < n) → IsOriginGroup n own
  far_group near_is first_is within = record {
    all_first = all_first;
    all_second = all_second;
    factors = own_factors;
    near = λ near. absurd (cc);
    within = λ k l. rw (near_is, first_is) (within k l);
  }

  pub far_pairs : own.near ≡ false → own.first ≡ places → (t : ℕ)
      → group_pairs own t ≡ pairs_of (slice_index places) factors t
  far_pairs near_is first_is t = rw (near_is, first_is, factors_are) refl

  -- places that are stored as offsets in two runs
  module _ (near_is : own.near ≡ true) (first_start : own.starts.0 ≤ 144)
      (second_start : own.starts.1 ≤ 144)
      (each : (k : ℕ) → k < 16 → IsLaneKept n own places k) where
    pub near_group : IsOriginGroup n own
    near_group = record {
      all_first = all_first;
      all_second = all_second;
      factors = own_factors;
      near = λ near. record {
        first = first_start;
        second = second_start;
        one = record { each = λ k l. (each k l).one };
      };
      within = λ k l. rw near_is ((each k l).within);
    }

    share_same : (values : List ℕ) (k : ℕ) → k < 16
        → get_or values (place_of_lane own k) 0 * get_or own.factors k 0
        ≡ get_or values (get_or places k 0) 0 * get_or factors k 0
    share_same values k l = products_same _ _ _ _ (ap (λ fs. get_or fs k 0) factors_are)
        (λ some. ap (λ p. get_or values p 0) (rw near_is ((each k l).same some)))

    pub near_shares : (values : List ℕ) (t : ℕ) → t < 4 → share_sum values (group_pairs own t)
        ≡ share_sum values (pairs_of (slice_index places) factors t)
    near_shares values t l = sums_same _ _ _ _ _ _ _ _ (share_same values (4 * t) (omega arith))
        (share_same values (4 * t + 1) (omega arith))
        (share_same values (4 * t + 2) (omega arith))
        (share_same values (4 * t + 3) (omega arith))

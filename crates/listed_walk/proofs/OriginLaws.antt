-- Sums over the points around a texel, from the places of these points.
use Rattle.std.proofs.Common.{◌≡◌, ℕ, zero, suc, ◌+◌, ◌*◌, ◌/◌, ◌%◌, ◌<◌, ◌≤◌, false, List, [], ◌∷◌, get_or, get_or-set_other, get_or-set_same, length, length-set, map, set, Option, None, Some, refl, ap, sym, subst, ◌∙◌, arith, inl, inr}
use Rattle.std.proofs.lemmas.Bool.{cases_lt}
use Rattle.std.specs.Prelude.{slice_index}
use Rattle.std.specs.Prelude.{sum_by, slice_index_or}
use Rattle.std.specs.Option.{IfSome}
use Rattle.std.specs.List.{All}
use Rattle.std.proofs.lemmas.List.{get_or-map}
use Rattle.std.proofs.lemmas.List.Elements.{All-map}
use Rattle.std.proofs.lemmas.List.Sums.{sum_by-cons}
use Rattle.astc_model.specs.declared.level.Level.{Level}
use Rattle.astc_model.specs.declared.level.Level.TheVariants.{Two, Three, Four, Five, Six, Eight, Ten, Twelve, Sixteen, Twenty, TwentyFour, ThirtyTwo, Forty, FortyEight, SixtyFour, Eighty, NinetySix, OneTwentyEight, OneSixty, OneNinetyTwo, TwoFiftySix}
use Rattle.astc_model.specs.Infill.{factors}
use Rattle.astc_model.specs.Levels.{count_of}
use Rattle.astc_model.specs.Nearest.{nearest_weight}
use Rattle.astc_model.specs.WeightValues.{weight_value}
use Rattle.quant_tables.specs.Tables.{nearest_weight_value}
use Rattle.candidates.specs.PointValues.{plane_values, point_value}
use Rattle.texel_error.specs.Numerators.{share_sum}
use Rattle.texel_lanes.specs.Lanes.{pairs_of}
use Rattle.texel_error.specs.Colours.{with_texel}
use Rattle.texel_error.specs.Drawing.{no_origins}
use Rattle.texel_error.specs.Groups.{AreFactors, IsOriginGroup, group_pairs}
use Rattle.texel_error.specs.declared.groups.GroupOrigins.{GroupOrigins}
use Rattle.texel_error.proofs.ListLaws.{sum_by-same}
use Rattle.texel_error.proofs.RunLaws.{far_group, far_pairs}
use Rattle.texel_error.proofs.SourceLaws.{lane_below, own_lane}
use Rattle.listed_walk.specs.Origins.{AreGroupOrigins, AreLaneOrigins, AreOrigins, AreOriginsTo, ArePlaceOrigins, HasPlaces, origin, origins_in, placed}

-- what is known of what may be there
pub if_some : {R : Type 0} (P Q : R → Type 0) → ((x : R) → P x → Q x) → (one : Option R)
    → IfSome one P → IfSome one Q
if_some P Q f None is = is
if_some P Q f (Some x) is = f x is

-- ---- the values of the places, instead of those of the points

-- the value of the target 0
zero_value : (level : Level) → count_of level ≤ 32 → nearest_weight_value level 0 ≡ 0
unfolding nearest_weight weight_value
zero_value Two few = refl
zero_value Three few = refl
zero_value Four few = refl
zero_value Five few = refl
zero_value Six few = refl
zero_value Eight few = refl
zero_value Ten few = refl
zero_value Twelve few = refl
zero_value Sixteen few = refl
zero_value Twenty few = refl
zero_value TwentyFour few = refl
zero_value ThirtyTwo few = refl
zero_value Forty few = absurd (omega (arith, few))
zero_value FortyEight few = absurd (omega (arith, few))
zero_value SixtyFour few = absurd (omega (arith, few))
zero_value Eighty few = absurd (omega (arith, few))
zero_value NinetySix few = absurd (omega (arith, few))
zero_value OneTwentyEight few = absurd (omega (arith, few))
zero_value OneSixty few = absurd (omega (arith, few))
zero_value OneNinetyTwo few = absurd (omega (arith, few))
zero_value TwoFiftySix few = absurd (omega (arith, few))

-- the values of the targets 31 and 32 are one
pub middle_value : (level : Level) → count_of level ≤ 32
    → nearest_weight_value level 31 ≡ nearest_weight_value level 32
unfolding nearest_weight weight_value
middle_value Two few = refl
middle_value Three few = refl
middle_value Four few = refl
middle_value Five few = refl
middle_value Six few = refl
middle_value Eight few = refl
middle_value Ten few = refl
middle_value Twelve few = refl
middle_value Sixteen few = refl
middle_value Twenty few = refl
middle_value TwentyFour few = refl
middle_value ThirtyTwo few = refl
middle_value Forty few = absurd (omega (arith, few))
middle_value FortyEight few = absurd (omega (arith, few))
middle_value SixtyFour few = absurd (omega (arith, few))
middle_value Eighty few = absurd (omega (arith, few))
middle_value NinetySix few = absurd (omega (arith, few))
middle_value OneTwentyEight few = absurd (omega (arith, few))
middle_value OneSixty few = absurd (omega (arith, few))
middle_value OneNinetyTwo few = absurd (omega (arith, few))
middle_value TwoFiftySix few = absurd (omega (arith, few))

module _ (level : Level) (few : count_of level ≤ 32) (targets : List ℕ) where
  by_place : (place : Option ℕ) (factor : ℕ) → IfSome place (λ p. p < length targets)
      → get_or (map (nearest_weight_value level) targets)
      (placed place factor).0 0 * (placed place factor).1
      ≡ point_value level targets place * factor
  by_place None factor there = rw (zero_value level few) (omega arith)
  by_place (Some p) factor there =
      ap (λ value. value * factor) (get_or-map (nearest_weight_value level) targets p 0 0 there)

  module _ (grid : List (Option ℕ))
      (within : All (λ place. IfSome place (λ p. p < length targets)) grid) where
    by_point : (point : ℕ × ℕ) → point.0 < length grid
        → get_or (map (nearest_weight_value level) targets)
        (origin grid point).0 0 * (origin grid point).1
        ≡ get_or (plane_values level grid targets) point.0 0 * point.1
    unfolding plane_values
    by_point point inside =
        by_place (slice_index_or grid point.0 None) point.1 (within point.0 None inside)
        ∙ ap (λ value. value * point.1)
        (sym (get_or-map (point_value level targets) grid point.0 None 0 inside))

    pub origins_sum : (points : List (ℕ × ℕ)) → All (λ point. point.0 < length grid) points
        → share_sum (map (nearest_weight_value level) targets) (map (origin grid) points)
        ≡ share_sum (plane_values level grid targets) points
    origins_sum [] inside = refl
    origins_sum (x ∷ xs) inside =
        let here = by_point x (inside 0 x (omega arith)) in
        let rest = origins_sum xs (λ k d below. inside (suc k) d (omega arith)) in
        omega (
          arith,
          here,
          rest,
          sum_by-cons (λ pair. get_or (map (nearest_weight_value level) targets) pair.0 0 * pair.1)
              (origin grid x) (map (origin grid) xs),
          sum_by-cons (λ pair. get_or (plane_values level grid targets) pair.0 0 * pair.1) x xs,
        )

-- ---- what is kept of a texel's points

module _ (n : ℕ) (some : 0 < n) (grid : List (Option ℕ))
    (within : All (λ place. IfSome place (λ p. p < n)) grid) where
  below : (place : Option ℕ) (factor : ℕ) → IfSome place (λ p. p < n) → (placed place factor).0 < n
  below None factor there = some
  below (Some p) factor there = there

  no_more : (place : Option ℕ) (factor : ℕ) → (placed place factor).1 ≤ factor
  no_more None factor = omega arith
  no_more (Some p) factor = omega arith

  total : (points : List (ℕ × ℕ)) → sum_by (λ one. one.1) (map (origin grid) points) ≤ sum_by
      (λ one. one.1) points
  total [] = omega arith
  total (x ∷ xs) =
      omega (
        arith,
        no_more (slice_index_or grid x.0 None) x.1,
        total xs,
        sum_by-cons (λ one. one.1)
            (origin grid x) (map (origin grid) xs),
        sum_by-cons (λ one. one.1) x xs,
      )

  pub are_origins : (points : List (ℕ × ℕ)) → All (λ point. point.0 < length grid) points
      → All (λ point. point.1 ≤ 16) points → sum_by (λ point. point.1) points ≡ 16
      → AreOrigins n (map (origin grid) points)
  are_origins points inside small sum = record {
    within = All-map (λ one. one.0 < n) (origin grid) points
        (λ k d lt. below _ _ (within _ None (inside k d lt)));
    small = All-map (λ one. one.1 ≤ 16) (origin grid) points
        (λ k d lt. omega (
          arith,
          small k d lt,
          no_more
              (slice_index_or grid (get_or points k d).0 None) (get_or points k d).1,
        ));
    total = omega (arith, sum, total points);
  }

-- sums of values that agree at the places below n
pub share_same : (n : ℕ) (values others : List ℕ) (pairs : List (ℕ × ℕ))
    → All (λ pair. pair.0 < n) pairs
    → ((p : ℕ) → p < n → get_or values p 0 ≡ get_or others p 0)
    → share_sum values pairs ≡ share_sum others pairs
share_same n values others pairs within same =
    sum_by-same (λ pair. get_or values pair.0 0 * pair.1)
    (λ pair. get_or others pair.0 0 * pair.1) pairs
    (λ k d below. ap (λ value. value * (get_or pairs k d).1)
    (same (get_or pairs k d).0 (within k d below)))

-- ---- what is kept of the points around the texels of a group

-- a group, as a ghost field may have it
pub places_of_group : (n : ℕ) (own : GroupOrigins) → IsOriginGroup n own → HasPlaces n own
places_of_group n own is = record {
  all_first = is.all_first;
  all_second = is.all_second;
  factors = is.factors;
  near = λ near.
      let runs = is.near near in
      record {
        first = runs.first;
        second = runs.second;
        below = λ k l small. elim (runs.one.each k l) [
          | inl both ↦ both.1
          | inr both ↦ let far = both.0 in absurd (omega arith)
        ];
        above = λ k l least. elim (runs.one.each k l) [
          | inl both ↦ let small = both.0 in absurd (omega arith)
          | inr both ↦ both
        ];
      };
  within = is.within;
}

pub group_of_places : (n : ℕ) (own : GroupOrigins) → HasPlaces n own → IsOriginGroup n own
group_of_places n own is = record {
  all_first = is.all_first;
  all_second = is.all_second;
  factors = is.factors;
  near = λ near.
      let runs = is.near near in
      record {
        first = runs.first;
        second = runs.second;
        one = record {
          each = λ k l. elim (cases_lt (get_or own.first k 0) 16) [
            | inl small ↦ inl (small, runs.below k l small)
            | inr least ↦ inr (runs.above k l least)
          ];
        };
      };
  within = is.within;
}

four_pairs : (a b c d e f g h i j k l m n o p : ℕ) → a ≡ i → b ≡ j → c ≡ k → d ≡ l → e ≡ m → f ≡ n
    → g ≡ o → h ≡ p → ◌≡◌ {A = List (ℕ × ℕ)} ((a, b) ∷ (c, d) ∷ (e, f) ∷ (g, h) ∷ [])
    ((i, j) ∷ (k, l) ∷ (m, n) ∷ (o, p) ∷ [])
four_pairs a b c d e f g h i j k l m n o p q r s t u v w x = rw (q, r, s, t, u, v, w, x) refl

module _ (w h n m : ℕ) (grid : List (Option ℕ)) where
  -- those of one place
  pub place_origins : (p : ℕ) (a b c d : ℕ × ℕ) → 0 < w * h
      → (p < w * h → a ∷ b ∷ c ∷ d ∷ [] ≡ origins_in w h n m grid p)
      → AreOrigins (w * h) (a ∷ b ∷ c ∷ d ∷ [])
      → ArePlaceOrigins w h n m grid p (a.0 ∷ b.0 ∷ c.0 ∷ d.0 ∷ []) (a.1 ∷ b.1 ∷ c.1 ∷ d.1 ∷ [])
  place_origins p a b c d some is are =
      let none : ℕ × ℕ = (0, 0) in
      record {
        within = within;
        small = small;
        total = let total = are.total in omega arith;
        pairs = λ below. is below;
      }
    where
      within : (k : ℕ) → k < 4 → get_or (a.0 ∷ b.0 ∷ c.0 ∷ d.0 ∷ []) k 0 < w * h
      within zero l = are.within 0 (0, 0) (omega arith)
      within (suc zero) l = are.within 1 (0, 0) (omega arith)
      within (suc (suc zero)) l = are.within 2 (0, 0) (omega arith)
      within (suc (suc (suc zero))) l = are.within 3 (0, 0) (omega arith)
      within (suc (suc (suc (suc k)))) l = absurd (omega arith)

      small : (k : ℕ) → k < 4 → get_or (a.1 ∷ b.1 ∷ c.1 ∷ d.1 ∷ []) k 0 ≤ 16
      small zero l = are.small 0 (0, 0) (omega arith)
      small (suc zero) l = are.small 1 (0, 0) (omega arith)
      small (suc (suc zero)) l = are.small 2 (0, 0) (omega arith)
      small (suc (suc (suc zero))) l = are.small 3 (0, 0) (omega arith)
      small (suc (suc (suc (suc k)))) l = absurd (omega arith)

  -- past the end
  pub no_place : (p : ℕ) → w * h ≤ p → 0 < w * h
      → ArePlaceOrigins w h n m grid p (0 ∷ 0 ∷ 0 ∷ 0 ∷ []) (0 ∷ 0 ∷ 0 ∷ 0 ∷ [])
  no_place p past some =
      place_origins p (0, 0) (0, 0) (0, 0) (0, 0) some (λ below. absurd (omega arith))
      (record { within = within; small = small; total = omega arith })
    where
      within : All {X = ℕ × ℕ} (λ one. one.0 < w * h) ((0, 0) ∷ (0, 0) ∷ (0, 0) ∷ (0, 0) ∷ [])
      within zero d l = some
      within (suc zero) d l = some
      within (suc (suc zero)) d l = some
      within (suc (suc (suc zero))) d l = some
      within (suc (suc (suc (suc k)))) d l = absurd (omega arith)

      small : All {X = ℕ × ℕ} (λ one. one.1 ≤ 16) ((0, 0) ∷ (0, 0) ∷ (0, 0) ∷ (0, 0) ∷ [])
      small zero d l = omega arith
      small (suc zero) d l = omega arith
      small (suc (suc zero)) d l = omega arith
      small (suc (suc (suc zero))) d l = omega arith
      small (suc (suc (suc (suc k)))) d l = absurd (omega arith)

  module _ (t : ℕ) (places factors own own_factors : List ℕ) (few : t < 4)
      (all_places : length places ≡ 16) (all_factors : length factors ≡ 16) where
    -- put into the lanes of its group
    pub own_lanes : (p : ℕ) → ArePlaceOrigins w h n m grid p own own_factors
        → AreLaneOrigins w h n m grid p (with_texel places t own)
        (with_texel factors t own_factors) t
    own_lanes p are =
        let new : List ℕ = with_texel places t own in
        let others : List ℕ = with_texel factors t own_factors in
        let at : (c : ℕ) → c < 4 → get_or new (4 * t + c) 0 ≡ get_or own c 0 =
        λ c l. own_lane places t own (omega arith) c l in
        let also : (c : ℕ) → c < 4 → get_or others (4 * t + c) 0 ≡ get_or own_factors c 0 =
        λ c l. own_lane factors t own_factors (omega arith) c l in
        let start : 4 * t ≡ 4 * t + 0 = omega arith in
        let first : get_or new (4 * t) 0 ≡ get_or own 0 0 =
        ap (λ k. get_or new k 0) start ∙ at 0 (omega arith) in
        let first_factor : get_or others (4 * t) 0 ≡ get_or own_factors 0 0 =
        ap (λ k. get_or others k 0) start ∙ also 0 (omega arith) in
        record {
          within = λ c l. rw (at c l) (are.within c l);
          small = λ c l. rw (also c l) (are.small c l);
          total =
              omega (
                arith,
                are.total,
                first_factor,
                also 1 (omega arith),
                also 2 (omega arith),
                also 3 (omega arith),
              );
          pairs = λ below.
              four_pairs _ _ _ _ _ _ _ _ _ _ _ _ _ _ _ _ first first_factor (at 1 (omega arith))
              (also 1 (omega arith)) (at 2 (omega arith)) (also 2 (omega arith))
              (at 3 (omega arith)) (also 3 (omega arith)) ∙ are.pairs below;
        }

    -- the lanes of the texels before it stay
    pub kept_lanes : (p s : ℕ) → s < t → AreLaneOrigins w h n m grid p places factors s
        → AreLaneOrigins w h n m grid p (with_texel places t own)
        (with_texel factors t own_factors) s
    kept_lanes p s before are =
        let new : List ℕ = with_texel places t own in
        let others : List ℕ = with_texel factors t own_factors in
        let at : (k : ℕ) → k < 4 * s + 4 → get_or new k 0 ≡ get_or places k 0 =
        λ k l. lane_below places t own k (omega arith) in
        let also : (k : ℕ) → k < 4 * s + 4 → get_or others k 0 ≡ get_or factors k 0 =
        λ k l. lane_below factors t own_factors k (omega arith) in
        record {
          within = λ c l. rw (at (4 * s + c) (omega arith)) (are.within c l);
          small = λ c l. rw (also (4 * s + c) (omega arith)) (are.small c l);
          total =
              omega (
                arith,
                are.total,
                also (4 * s) (omega arith),
                also (4 * s + 1) (omega arith),
                also (4 * s + 2) (omega arith),
                also (4 * s + 3) (omega arith),
              );
          pairs = λ below.
              four_pairs _ _ _ _ _ _ _ _ _ _ _ _ _ _ _ _ (at (4 * s) (omega arith))
              (also (4 * s) (omega arith)) (at (4 * s + 1) (omega arith))
              (also (4 * s + 1) (omega arith)) (at (4 * s + 2) (omega arith))
              (also (4 * s + 2) (omega arith)) (at (4 * s + 3) (omega arith))
              (also (4 * s + 3) (omega arith)) ∙ are.pairs below;
        }

    pub lanes_more : (g : ℕ)
        → ((s : ℕ) → s < t → AreLaneOrigins w h n m grid (4 * g + s) places factors s)
        → ArePlaceOrigins w h n m grid (4 * g + t) own own_factors
        → (s : ℕ) → s < t + 1 → AreLaneOrigins w h n m grid (4 * g + s) (with_texel places t own)
        (with_texel factors t own_factors) s
    lanes_more g before are s l =
        elim (cases_lt s t) [
          | inl earlier ↦ kept_lanes (4 * g + s) s earlier (before s earlier)
          | inr last ↦
              let same : t ≡ s = omega arith in
              subst (λ s. AreLaneOrigins w h n m grid (4 * g + s) (with_texel places t own)
              (with_texel factors t own_factors) s) same (own_lanes (4 * g + t) are)
        ]

  module _ (g : ℕ) (places factors : List ℕ) (all_factors : length factors ≡ 16)
      (each : (s : ℕ) → s < 4 → AreLaneOrigins w h n m grid (4 * g + s) places factors s) where
    pub lanes_within : (k : ℕ) → k < 16 → get_or places k 0 < w * h
    lanes_within k l =
        let at : k ≡ 4 * (k / 4) + k % 4 = omega arith in
        subst (λ k. get_or places k 0 < w * h) (sym at)
        ((each (k / 4) (omega arith)).within (k % 4) (omega arith))

    lanes_small : (k : ℕ) → k < 16 → get_or factors k 0 ≤ 16
    lanes_small k l =
        let at : k ≡ 4 * (k / 4) + k % 4 = omega arith in
        subst (λ k. get_or factors k 0 ≤ 16) (sym at)
        ((each (k / 4) (omega arith)).small (k % 4) (omega arith))

    pub lane_factors : AreFactors factors
    lane_factors = record {
      all = all_factors;
      small = lanes_small;
      total = λ t l. (each t l).total;
    }

    -- a group with the same shares has them
    pub group_as : (own : GroupOrigins) → IsOriginGroup (w * h) own
        → ((values : List ℕ) (t : ℕ) → t < 4 → share_sum values (group_pairs own t)
        ≡ share_sum values (pairs_of (slice_index places) factors t))
        → AreGroupOrigins w h n m grid g own
    group_as own is same = record {
      group = places_of_group (w * h) own is;
      shares = λ t l below values. same values t l ∙ ap (share_sum values) ((each t l).pairs below);
    }

    pub group_far : (own : GroupOrigins) → own.near ≡ false → own.first ≡ places
        → own.factors ≡ factors → length own.first ≡ 16 → length own.second ≡ 16
        → AreGroupOrigins w h n m grid g own
    group_far own near first same all_first all_second =
        group_as own (far_group (w * h) own places factors lane_factors same all_first all_second
        near first lanes_within)
        (λ values t l. ap (share_sum values) (far_pairs (w * h) own places factors lane_factors
        same all_first all_second near first t))

pub four_list : (xs : List (ℕ × ℕ)) → length xs ≡ 4 → xs ≡ get_or xs 0 (0, 0) ∷ get_or xs 1 (0, 0)
    ∷ get_or xs 2 (0, 0) ∷ get_or xs 3 (0, 0) ∷ []
four_list [] all = absurd (omega arith)
four_list (a ∷ []) all = absurd (omega arith)
four_list (a ∷ b ∷ []) all = absurd (omega arith)
four_list (a ∷ b ∷ c ∷ []) all = absurd (omega arith)
four_list (a ∷ b ∷ c ∷ d ∷ []) all = refl
four_list (a ∷ b ∷ c ∷ d ∷ e ∷ xs) all = absurd (omega arith)

-- the points around a place give its origins
pub origins_from : (w h n m : ℕ) (grid : List (Option ℕ)) (p : ℕ) (around xs : List (ℕ × ℕ))
    → p < w * h → length grid ≡ n * m → All (λ place. IfSome place (λ p. p < w * h)) grid
    → around ≡ factors w h n m (p % w) (p / w) → All (λ point. point.0 < n * m) around
    → All (λ point. point.1 ≤ 16) around → sum_by (λ point. point.1) around ≡ 16
    → xs ≡ map (origin grid) around → length xs ≡ 4
    → ArePlaceOrigins w h n m grid p
    ((get_or xs 0 (0, 0)).0 ∷ (get_or xs 1 (0, 0)).0 ∷ (get_or xs 2 (0, 0)).0
    ∷ (get_or xs 3 (0, 0)).0 ∷ [])
    ((get_or xs 0 (0, 0)).1 ∷ (get_or xs 1 (0, 0)).1 ∷ (get_or xs 2 (0, 0)).1
    ∷ (get_or xs 3 (0, 0)).1 ∷ [])
origins_from w h n m grid p around xs below points within around_is inside small total xs_are all =
    let some : 0 < w * h = omega arith in
    let in_grid : All (λ point. point.0 < length grid) around =
    λ k d l. omega (arith, inside k d l) in
    let own : AreOrigins (w * h) (map (origin grid) around) =
    are_origins (w * h) some grid within around in_grid small total in
    place_origins w h n m grid p (get_or xs 0 (0, 0)) (get_or xs 1 (0, 0)) (get_or xs 2 (0, 0))
    (get_or xs 3 (0, 0)) some
    (λ there. sym (four_list xs all) ∙ xs_are ∙ ap (map (origin grid)) around_is)
    (subst (AreOrigins (w * h)) (four_list xs all) (subst (AreOrigins (w * h)) (sym xs_are) own))

-- one group more
pub groups_more : (w h n m : ℕ) (grid : List (Option ℕ)) (g : ℕ) (groups : List GroupOrigins)
    (own : GroupOrigins) → AreOriginsTo w h n m grid g groups → g < 36
    → AreGroupOrigins w h n m grid g own → AreOriginsTo w h n m grid (g + 1) (set groups g own)
groups_more w h n m grid g groups own are few is = record {
  all = length-set groups g own ∙ are.all;
  each = λ k l. elim (cases_lt k g) [
    | inl before ↦
        subst (AreGroupOrigins w h n m grid k)
        (sym (get_or-set_other groups g k own no_origins (λ same. omega arith)))
        (are.each k before)
    | inr last ↦
        let same : g ≡ k = omega arith in
        subst (λ k. AreGroupOrigins w h n m grid k (get_or (set groups g own) k no_origins)) same
        (subst (AreGroupOrigins w h n m grid g)
        (sym (get_or-set_same groups g own no_origins (omega (arith, are.all)))) is)
  ];
}

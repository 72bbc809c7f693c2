-- Beyond a far value, away from the present one, no value that moves one channel reduces the error.
use Rattle.std.proofs.Common.{◌≡◌, ◌≢◌, ℕ, ◌+◌, ◌-◌, ◌*◌, ◌^◌, ◌<◌, ◌≤◌, Bool, true, false, get_or, set, sym, ap, subst, ◌∙◌, arith, inl, inr}
use Rattle.std.specs.Prelude.{sum_by}
use Rattle.std.proofs.lemmas.Bool.{cases_lt, cases_Bool}
use Rattle.std.proofs.Math.Nat.{mul-le-mul_left}
use Rattle.astc_model.specs.ColourValues.{colour_value}
use Rattle.astc_model.specs.Endpoints.{endpoint_integers}
use Rattle.astc_model.specs.Levels.{count_of}
use Rattle.moments.specs.Floors.{AreSmall, IsMost, factor_of, more_of, less_of}
use Rattle.moments.specs.declared.Moments.{Moments}
use Rattle.error_tables.specs.Floors.{channel_part, widening_of, moments_at}
use Rattle.error_tables.specs.RowFloors.{plus_at, minus_at, IsEndFar, swapped}
use Rattle.error_tables.proofs.FloorLaws.{channel_hopeless}
use Rattle.error_tables.proofs.RowLaws.{end_law}
use Rattle.colour_bounds.specs.Bounds.{single_channel_of, IsSingleChannel}
use Rattle.colour_bounds.specs.Curves.{curve_more, curve_less}
use Rattle.colour_bounds.specs.OneChannel.{moves_one, moved_channel, moved_ends}
use Rattle.colour_bounds.specs.Orders.{IsOrder, integer_on}
use Rattle.colour_bounds.specs.OwnWalks.{end_of, other_end_of, turned_moments, byte_on, IsInTrend, RisesOn, AreOutsideNoBetter, IsPresentAt, IsOtherEndFar, IsConvex, IsWalkOn, IsOwnWalk}
use Rattle.colour_bounds.specs.PartScans.{IsPartScan, error_now, error_with}
use Rattle.colour_bounds.specs.declared.curves.Curve.{Curve}
use Rattle.colour_bounds.specs.declared.one_channel.Trend.{Trend}
use Rattle.colour_bounds.specs.Ranks.{integer_at}
use Rattle.colour_bounds.specs.declared.orders.WalkOrder.{WalkOrder}
use Rattle.colour_bounds.specs.declared.own_walk.OwnWalk.{OwnWalk}
use Rattle.colour_bounds.specs.declared.part_scan.PartitionScan.{PartitionScan}
use Rattle.colour_bounds.proofs.OrderLaws.{integer_below}
use Rattle.colour_bounds.proofs.PartScanLaws.{present_value}
use Rattle.colour_bounds.proofs.RankLaws.{integer_of_rank}
use Rattle.colour_bounds.proofs.SingleChannelLaws.{present_range}
use Rattle.colour_bounds.proofs.BoundTrial.{exchange}
use Rattle.colour_bounds.proofs.CurveLaws.{far_above, far_below}

-- ---- the bound by one endpoint is convex in it

module _ (m : Moments) (k most : ℕ) (convex : IsConvex m) where
  abbrev over : ℕ
  over = m.first_squares * m.second_squares - m.products * m.products

  squares : m.first_squares * m.second_squares ≡ m.products * m.products + over
  squares = omega (arith, convex.squares)

  abbrev bound : Curve
  bound = record {
    square = over * (k * k);
    slope = 2 * (m.products * (k * m.second_targets));
    start = m.second_squares * m.target_squares;
    less_slope = 2 * (m.second_squares * (k * m.first_targets));
    less_start = m.second_targets * m.second_targets;
  }

  abbrev both : ℕ → ℕ
  both x = m.products * m.products * (k * x * (k * x))

  plus_is : (x : ℕ) → plus_at m (k * x) ≡ both x + curve_more bound x
  plus_is x = plain x m.first_squares m.products m.second_squares m.second_targets m.target_squares
      over (ap (λ n. n * (k * x * (k * x))) squares)
    where
      plain : (x uu uw ww wz zz v : ℕ)
          → uu * ww * (k * x * (k * x)) ≡ (uw * uw + v) * (k * x * (k * x))
          → ww * (k * x * (k * x) * uu + zz) + 2 * (uw * (k * x * wz))
          ≡ uw * uw * (k * x * (k * x))
          + (v * (k * k) * (x * x) + 2 * (uw * (k * wz)) * x + ww * zz)
      plain x uu uw ww wz zz v whole = omega (arith, whole)

  minus_is : (x : ℕ) → minus_at m (k * x) ≡ both x + curve_less bound x
  minus_is x = plain x m.products m.second_squares m.first_targets m.second_targets
    where
      plain : (x uw ww uz wz : ℕ)
          → ww * (2 * (k * x * uz)) + (uw * (k * x)) * (uw * (k * x)) + wz * wz
          ≡ uw * uw * (k * x * (k * x)) + (2 * (ww * (k * uz)) * x + wz * wz)
      plain x uw ww uz wz = omega arith

  far_is : (x : ℕ) → IsEndFar m (k * x) most
      → curve_less bound x + m.second_squares * most ≤ curve_more bound x
  far_is x far = omega (arith, far, plus_is x, minus_is x)

  is_far : (x : ℕ) → curve_less bound x + m.second_squares * most ≤ curve_more bound x
      → IsEndFar m (k * x) most
  is_far x far = omega (arith, far, plus_is x, minus_is x)

  near_is : (x : ℕ) → plus_at m (k * x) < minus_at m (k * x) + m.second_squares * most
      → curve_more bound x < curve_less bound x + m.second_squares * most
  near_is x near = omega (arith, near, plus_is x, minus_is x)

  -- away from a near endpoint, all endpoints beyond a far one are far
  pub ends_above : (x y z : ℕ)
      → plus_at m (k * x) < minus_at m (k * x) + m.second_squares * most
      → x ≤ y → y ≤ z → IsEndFar m (k * y) most → IsEndFar m (k * z) most
  ends_above x y z near low high far =
      elim (cases_lt x y) [
        | inl less ↦ is_far z (far_above bound (m.second_squares * most) x y z less high
            (far_is y far) (near_is x near))
        | inr more ↦
            let same : y ≡ x = omega (arith, low, more) in
            absurd (omega (arith, near, subst (λ n. IsEndFar m (k * n) most) same far))
      ]

  pub ends_below : (x y z : ℕ)
      → plus_at m (k * x) < minus_at m (k * x) + m.second_squares * most
      → y ≤ x → z ≤ y → IsEndFar m (k * y) most → IsEndFar m (k * z) most
  ends_below x y z near high low far =
      elim (cases_lt y x) [
        | inl less ↦ is_far z (far_below bound (m.second_squares * most) z y x low less
            (far_is y far) (near_is x near))
        | inr more ↦
            let same : y ≡ x = omega (arith, high, more) in
            absurd (omega (arith, near, subst (λ n. IsEndFar m (k * n) most) same far))
      ]

-- ---- with a far endpoint the channel has at least its present error

more_turned : (m : Moments) (x y : ℕ) → more_of (swapped m) y x ≡ more_of m x y
more_turned m x y = plain m.first_squares m.products m.second_squares m.target_squares
  where
    plain : (uu uw ww zz : ℕ) → y * y * ww + 2 * (y * x * uw) + x * x * uu + zz
        ≡ x * x * uu + 2 * (x * y * uw) + y * y * ww + zz
    plain uu uw ww zz = omega arith

less_turned : (m : Moments) (x y : ℕ) → less_of (swapped m) y x ≡ less_of m x y
less_turned m x y = plain m.first_targets m.second_targets
  where
    plain : (uz wz : ℕ) → 2 * (y * wz + x * uz) ≡ 2 * (x * uz + y * wz)
    plain uz wz = omega arith

pub far_form : (is_first : Bool) (m : Moments) (k most : ℕ) (ends : ℕ × ℕ)
    → (turned_moments is_first m).second_squares ≢ 0
    → IsEndFar (turned_moments is_first m) (k * end_of is_first ends) most
    → less_of m (k * ends.0) (k * ends.1) + most ≤ more_of m (k * ends.0) (k * ends.1)
far_form true m k most ends some far = end_law m (k * ends.0) (k * ends.1) most some far
far_form false m k most ends some far =
    rw (← more_turned m (k * ends.0) (k * ends.1), ← less_turned m (k * ends.0) (k * ends.1))
    (end_law (swapped m) (k * ends.1) (k * ends.0) most some far)

-- a far other endpoint gives the channel at least its present error, too
pub other_form : (is_first : Bool) (m : Moments) (k most : ℕ) (ends : ℕ × ℕ)
    → (turned_moments is_first m).first_squares ≢ 0
    → IsEndFar (swapped (turned_moments is_first m)) (k * other_end_of is_first ends) most
    → less_of m (k * ends.0) (k * ends.1) + most ≤ more_of m (k * ends.0) (k * ends.1)
other_form true m k most ends some far =
    rw (← more_turned m (k * ends.0) (k * ends.1), ← less_turned m (k * ends.0) (k * ends.1))
    (end_law (swapped m) (k * ends.1) (k * ends.0) most some far)
other_form false m k most ends some far = end_law m (k * ends.0) (k * ends.1) most some far

-- ---- the walk

module _ (w h : ℕ) (scan : PartitionScan) (place : ℕ) (is : IsPartScan w h scan)
    (within : place < endpoint_integers scan.cem) (trend : Trend) (is_first : Bool)
    (order : WalkOrder) (start : ℕ) where
  abbrev c : ℕ
  c = moved_channel scan.cem place

  abbrev ends : ℕ → ℕ × ℕ
  ends value = moved_ends trend scan.cem (set scan.values place value) place

  abbrev present : ℕ
  present = get_or scan.values place 0

  abbrev count : ℕ
  count = count_of scan.tables.now.level

  abbrev byte_of : ℕ → ℕ
  byte_of value = colour_value scan.tables.now.level value

  -- a value with the trend, with which the channel has at least its present error, does not reduce
  -- the error
  pub no_better : (kept value : ℕ) → IsSingleChannel scan trend place kept
      → value < count → IsInTrend scan trend place (byte_of value)
      → kept ≤ single_channel_of scan trend place (byte_of value)
      → error_now w h scan ≤ error_with w h scan place value
  no_better kept value single range in_trend more =
      let moves = single.moves (byte_of value) in_trend in
      let all = exchange w h scan place value is within range in
      rw (← is.kept.total_is) (omega (arith, moves, all, more))

  -- the present value is at its position in the order
  pub starts_at : IsPresentAt scan place order start → byte_on scan order start ≡ present
  starts_at at =
      ap (λ rank. byte_of (integer_at count rank)) at.is
      ∙ ap byte_of (integer_of_rank scan.tables.now.level _ is.kept.is_shaped.six
      (present_range w h scan place is within))
      ∙ sym (present_value w h scan place is within)

  module _ (walk : OwnWalk) (sum : ℕ) (trend_is : walk.trend ≡ trend)
      (end_is : walk.is_first ≡ is_first) (order_is : walk.order ≡ order)
      (start_is : walk.start ≡ start)
      (moments_are : walk.moments ≡ turned_moments is_first (moments_at scan.floor c))
      (widening_is : walk.widening ≡ widening_of scan.tables.now.decoded.flavour c)
      (small_c : c < 4)
      (sum_is : sum ≡ sum_by (channel_part scan.tables.now c (ends present).0 (ends present).1)
      scan.reach.now)
      (kept_is : walk.kept ≡ get_or scan.tables.now.weights c 0 * sum)
      (enough : IsMost walk.most sum scan.floor.count)
      (single : IsSingleChannel scan trend place walk.kept)
      (convex : IsConvex (turned_moments is_first (moments_at scan.floor c)))
      (orders : IsOrder count order) (starts : IsPresentAt scan place order start)
      (rises : RisesOn scan trend place is_first order)
      (outside : AreOutsideNoBetter w h scan trend place)
      (on : IsInTrend scan trend place present)
    where
      abbrev m : Moments
      m = turned_moments is_first (moments_at scan.floor c)

      abbrev k : ℕ
      k = factor_of (widening_of scan.tables.now.decoded.flavour c)

      abbrev Far : ℕ → Type 0
      Far value = IsEndFar m (k * end_of is_first (ends value)) walk.most

      far_form_value : (value : ℕ) → value < count → IsInTrend scan trend place (byte_of value)
          → less_of (moments_at scan.floor c) (k * (ends (byte_of value)).0)
          (k * (ends (byte_of value)).1) + walk.most
          ≤ more_of (moments_at scan.floor c) (k * (ends (byte_of value)).0)
          (k * (ends (byte_of value)).1)
          → error_now w h scan ≤ error_with w h scan place value
      far_form_value value range in_trend form =
          let e : ℕ × ℕ = ends (byte_of value) in
          let more : sum ≤ sum_by (channel_part scan.tables.now c e.0 e.1) scan.reach.now =
          channel_hopeless scan.tables.now scan.reach.now scan.floor c e.0 e.1 walk.most sum
          is.floored small_c enough form in
          no_better walk.kept value single range in_trend
          (rw kept_is (mul-le-mul_left (get_or scan.tables.now.weights c 0) more))

      far_value : (value : ℕ) → value < count → IsInTrend scan trend place (byte_of value)
          → Far (byte_of value)
          → error_now w h scan ≤ error_with w h scan place value
      far_value value range in_trend far =
          far_form_value value range in_trend
          (far_form is_first (moments_at scan.floor c) k walk.most (ends (byte_of value))
          convex.some far)

      other_value : (value : ℕ) → value < count → IsInTrend scan trend place (byte_of value)
          → IsOtherEndFar is_first m (widening_of scan.tables.now.decoded.flavour c) walk.most
          (ends (byte_of value))
          → error_now w h scan ≤ error_with w h scan place value
      other_value value range in_trend far =
          far_form_value value range in_trend
          (other_form is_first (moments_at scan.floor c) k walk.most (ends (byte_of value))
          far.some far.far)

      module _ (near : plus_at m (k * end_of is_first (ends present))
          < minus_at m (k * end_of is_first (ends present)) + m.second_squares * walk.most) where
        integer_below_count : (at : ℕ) → at < order.count → integer_on count order at < count
        integer_below_count at inside =
            integer_below scan.tables.now.level order orders is.kept.is_shaped.six at inside

        either : (at : ℕ) → at < order.count
            → (IsInTrend scan trend place (byte_on scan order at) → Far (byte_on scan order at))
            → error_now w h scan ≤ error_with w h scan place (integer_on count order at)
        either at inside far =
            elim (cases_Bool (moves_one trend scan.cem (set scan.values place
            (byte_on scan order at)) place)) [
              | inl in_trend ↦ far_value (integer_on count order at)
                  (integer_below_count at inside) in_trend (far in_trend)
              | inr out ↦ outside (integer_on count order at) (integer_below_count at inside) out
            ]

        first_on : IsInTrend scan trend place (byte_on scan order start)
        first_on = rw (starts_at starts) on

        above : (at k' : ℕ) → start < at → at ≤ k' → k' < order.count
            → IsInTrend scan trend place (byte_on scan order at) → Far (byte_on scan order at)
            → error_now w h scan ≤ error_with w h scan place (integer_on count order k')
        above at k' low high inside in_trend far =
            either k' inside (λ also.
            ends_above m k walk.most convex (end_of is_first (ends present))
            (end_of is_first (ends (byte_on scan order at)))
            (end_of is_first (ends (byte_on scan order k'))) near
            (rw (starts_at starts) at (rises.rises start at (omega (arith, low))
            (omega (arith, high, inside)) first_on in_trend))
            (rises.rises at k' high inside in_trend also) far)

        below : (at k' : ℕ) → at < start → k' ≤ at
            → IsInTrend scan trend place (byte_on scan order at) → Far (byte_on scan order at)
            → error_now w h scan ≤ error_with w h scan place (integer_on count order k')
        below at k' high low in_trend far =
            let first : at < order.count = omega (arith, high, starts.within) in
            either k' (omega (arith, low, first)) (λ also.
            ends_below m k walk.most convex (end_of is_first (ends present))
            (end_of is_first (ends (byte_on scan order at)))
            (end_of is_first (ends (byte_on scan order k'))) near
            (rw (starts_at starts) at (rises.rises at start (omega (arith, high)) starts.within
            in_trend first_on))
            (rises.rises k' at low first also in_trend) far)

        pub walk_is : AreSmall walk.moments → walk.most ≤ 2 ^ 61 → IsWalkOn w h scan place walk
        walk_is small fits = record {
          single = rw trend_is single;
          channel_small = small_c;
          small = small;
          most_fits = fits;
          outside = rw trend_is outside;
          orders = rw order_is orders;
          starts = rw (order_is, start_is) starts;
          other_end = rw (trend_is, end_is, moments_are, widening_is) other_value;
          above = rw (start_is, order_is, trend_is, end_is, moments_are, widening_is)
              (λ at k' low high inside far. above at k' low high inside far.0 far.1);
          below = rw (start_is, order_is, trend_is, end_is, moments_are, widening_is)
              (λ at k' high low far. below at k' high low far.0 far.1);
        }

-- the error with a value that has the trend of the walk
pub walk_exchange : (w h : ℕ) (scan : PartitionScan) (place : ℕ) (walk : OwnWalk) (value : ℕ)
    → IsPartScan w h scan → place < endpoint_integers scan.cem → IsOwnWalk w h scan place walk
    → value < count_of scan.tables.now.level
    → IsInTrend scan walk.trend place (colour_value scan.tables.now.level value)
    → error_with w h scan place value + walk.kept
    ≡ scan.tables.now.total + single_channel_of scan walk.trend place
    (colour_value scan.tables.now.level value)
walk_exchange w h scan place walk value is within walks range in_trend =
    let moves = walks.on.single.moves (colour_value scan.tables.now.level value) in_trend in
    let all = exchange w h scan place value is within range in
    omega (arith, moves, all)

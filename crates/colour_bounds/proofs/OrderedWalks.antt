-- The orders along which an endpoint rises, and the values that a walk leaves out.
use Rattle.std.proofs.Common.{◌≡◌, ◌≢◌, ◌⊎◌, ℕ, ◌+◌, ◌*◌, ◌/◌, ◌%◌, ◌<◌, ◌≤◌, Bool, length, get_or, set, Option, None, Some, refl, sym, ap, subst, ◌∙◌, arith, inl, inr}
use Rattle.std.specs.Prelude.{IsTrue, IfSome, bit_and, nat_eq}
use Rattle.std.proofs.lemmas.Bool.{cases_Bool, eqb-true}
use Rattle.astc_model.proofs.SumLaws.{every_below}
use Rattle.astc_model.specs.ColourValues.{colour_value}
use Rattle.astc_model.specs.Endpoints.{endpoint_integers}
use Rattle.astc_model.specs.Levels.{count_of}
use Rattle.moments.specs.Floors.{factor_of}
use Rattle.error_tables.specs.RowFloors.{IsEndFar, swapped}
use Rattle.quant_tables.proofs.ValueLaws.{colour_value-le}
use Rattle.colour_bounds.specs.OneChannel.{moves_one, moved_ends}
use Rattle.colour_bounds.specs.Orders.{integer_on, rank_on, whole_order, half_order}
use Rattle.colour_bounds.specs.OwnWalks.{other_end_of, other_half, is_falling, RisesAlong, RisesOn, IsPresentRank, IsWalkOn, IsOtherEndFar, IsOwnWalk}
use Rattle.colour_bounds.specs.PartScans.{IsPartScan}
use Rattle.colour_bounds.specs.Ranks.{integer_at, rank_of}
use Rattle.colour_bounds.specs.declared.one_channel.Trend.{Trend}
use Rattle.colour_bounds.specs.declared.orders.WalkOrder.{WalkOrder}
use Rattle.colour_bounds.specs.declared.own_walk.OwnWalk.{OwnWalk}
use Rattle.colour_bounds.specs.declared.part_scan.PartitionScan.{PartitionScan}
use Rattle.colour_bounds.proofs.OffsetLaws.{offsets_rise, others_stay}
use Rattle.colour_bounds.proofs.OrderLaws.{integer_below, half_is, half_top, other_top, keys_rise, whole_is, whole_rank}
use Rattle.colour_bounds.proofs.PartScanLaws.{present_value}
use Rattle.colour_bounds.proofs.RankLaws.{rank_range, integer_of_rank, values_rise}
use Rattle.colour_bounds.proofs.SingleChannelLaws.{present_range}

-- ---- all values

-- an endpoint that rises with the values rises with their ranks
pub whole_rises : (scan : PartitionScan) (trend : Trend) (place : ℕ) (is_first : Bool)
    → length scan.values ≡ 8 → 6 ≤ count_of scan.tables.now.level
    → RisesAlong scan.cem trend place is_first
    → RisesOn scan trend place is_first (whole_order (count_of scan.tables.now.level))
whole_rises scan trend place is_first eight some along = record {
  rises = λ j k order inside on also.
      let count : ℕ = count_of scan.tables.now.level in
      let byte_at : ℕ → ℕ = λ rank. colour_value scan.tables.now.level (integer_at count rank) in
      let first : ℕ = rank_on (whole_order count) j in
      let second : ℕ = rank_on (whole_order count) k in
      let order_too : byte_at first ≤ byte_at second =
      subst (λ n. byte_at n ≤ byte_at second)
      (sym (whole_rank count j (omega (arith, order, inside))))
      (subst (λ n. byte_at j ≤ byte_at n) (sym (whole_rank count k inside))
      (values_rise scan.tables.now.level j k some order inside)) in
      along.rises scan.values (byte_at first) (byte_at second) eight order_too
      (colour_value-le scan.tables.now.level (integer_at count second)
      (integer_below scan.tables.now.level (whole_order count) (whole_is count some) some k inside))
      on also;
}

-- a walk over all values leaves none out
pub whole_walk : (w h : ℕ) (scan : PartitionScan) (place : ℕ) (order : WalkOrder)
    (walk : Option OwnWalk) → 6 ≤ count_of scan.tables.now.level
    → order ≡ whole_order (count_of scan.tables.now.level)
    → IfSome walk (IsWalkOn w h scan place) → IfSome walk (λ own. own.order ≡ order)
    → IfSome walk (IsOwnWalk w h scan place)
whole_walk w h scan place order None some whole on order_is = tt
whole_walk w h scan place order (Some walk) some whole on order_is = record {
  on = on;
  others = λ value range out.
      let rank : ℕ = rank_of (count_of scan.tables.now.level) value in
      let here : (rank < 0) ⊎ (0 + count_of scan.tables.now.level ≤ rank) =
      subst (λ o. (rank < o.from) ⊎ (o.from + o.count ≤ rank)) (order_is ∙ whole) out in
      let within = rank_range scan.tables.now.level value some range in
      absurd (elim here [
        | inl below ↦ omega (arith, below)
        | inr above ↦ omega (arith, above, within)
      ]);
}

-- ---- offsets

top_of : (n : ℕ) → n ≤ 255 → bit_and n 128 ≡ n / 128 * 128
top_of n byte = eqb-true (bit_and n 128) (n / 128 * 128)
    (every_below (λ k. nat_eq (bit_and k 128) (k / 128 * 128)) 256 n refl (omega (arith, byte)))

same_top : (n m : ℕ) → n ≤ 255 → m ≤ 255 → n / 128 ≡ m / 128 → bit_and n 128 ≡ bit_and m 128
same_top n m first second same =
    top_of n first ∙ ap (λ x. x * 128) same ∙ sym (top_of m second)

other_byte : (n : ℕ) → other_half n ≤ 255
other_byte n = grind arith

module _ (w h : ℕ) (scan : PartitionScan) (place : ℕ) (is : IsPartScan w h scan)
    (within : place < endpoint_integers scan.cem) (mode_is : (scan.cem ≡ 9) ⊎ (scan.cem ≡ 13))
    (odd : place % 2 ≢ 0) (trend : Trend) (rank : ℕ)
    (range : rank < count_of scan.tables.now.level) where
  abbrev count : ℕ
  count = count_of scan.tables.now.level

  abbrev byte_of : ℕ → ℕ
  byte_of value = colour_value scan.tables.now.level value

  abbrev byte_at : ℕ → ℕ
  byte_at n = byte_of (integer_at count n)

  abbrev order : WalkOrder
  order = half_order count rank

  byte_on-le : (at : ℕ) → at < order.count → byte_at (rank_on order at) ≤ 255
  byte_on-le at inside =
      colour_value-le scan.tables.now.level (integer_on count order at)
      (integer_below scan.tables.now.level order
      (half_is scan.tables.now.level is.kept.is_shaped.six rank) is.kept.is_shaped.six at inside)

  pub half_rises : RisesOn scan trend place (is_falling trend) order
  half_rises = record {
    rises = λ j k le inside on also.
        let first : j < order.count = omega (arith, le, inside) in
        offsets_rise scan.cem place scan.values is.eight_values mode_is within odd trend
        (byte_at (rank_on order j)) (byte_at (rank_on order k))
        (same_top (byte_at (rank_on order j)) (byte_at (rank_on order k)) (byte_on-le j first)
        (byte_on-le k inside)
        (half_top scan.tables.now.level is.kept.is_shaped.six rank j range first
        ∙ sym (half_top scan.tables.now.level is.kept.is_shaped.six rank k range inside)))
        (keys_rise scan.tables.now.level is.kept.is_shaped.six rank j k le inside)
        (byte_on-le j first) (byte_on-le k inside) on;
  }

  module _ (rank_is : IsPresentRank scan place rank) (walk : OwnWalk)
      (on : IsWalkOn w h scan place walk) (order_is : walk.order ≡ order)
      (trend_is : walk.trend ≡ trend) (end_is : walk.is_first ≡ is_falling trend)
      (far : IsOtherEndFar walk.is_first walk.moments walk.widening walk.most
      (moved_ends walk.trend scan.cem
      (set scan.values place (other_half (get_or scan.values place 0))) place))
    where
      abbrev half : ℕ
      half = other_half (get_or scan.values place 0)

      present_is : byte_at rank ≡ get_or scan.values place 0
      present_is =
          ap byte_at rank_is
          ∙ ap byte_of (integer_of_rank scan.tables.now.level _ is.kept.is_shaped.six
          (present_range w h scan place is within))
          ∙ sym (present_value w h scan place is within)

      other_ends : (t : Trend) (b : Bool) (byte : ℕ) → t ≡ trend → b ≡ is_falling trend
          → bit_and byte 128 ≡ bit_and half 128
          → IsTrue (moves_one t scan.cem (set scan.values place byte) place)
          → other_end_of b (moved_ends t scan.cem (set scan.values place half) place)
          ≡ other_end_of b (moved_ends t scan.cem (set scan.values place byte) place)
      other_ends t b byte t_is b_is top = rw (t_is, b_is) (λ in_trend.
          sym (others_stay scan.cem place scan.values is.eight_values mode_is within odd trend
          byte half top in_trend))

      top_is : (value : ℕ) → value < count
          → (rank_of count value < order.from) ⊎ (order.from + order.count ≤ rank_of count value)
          → bit_and (byte_of value) 128 ≡ bit_and half 128
      top_is value value_range out =
          let same : byte_at (rank_of count value) ≡ byte_of value =
          ap byte_of (integer_of_rank scan.tables.now.level value is.kept.is_shaped.six
          value_range) in
          let top : byte_at (rank_of count value) / 128 ≡ other_half (byte_at rank) / 128 =
          other_top scan.tables.now.level is.kept.is_shaped.six rank (rank_of count value) range
          (rank_range scan.tables.now.level value is.kept.is_shaped.six value_range) out in
          same_top (byte_of value) half
          (colour_value-le scan.tables.now.level value value_range) (other_byte _)
          (ap (λ n. n / 128) (sym same) ∙ top
          ∙ ap (λ n. other_half n / 128) present_is)

      pub offset_walk : IsOwnWalk w h scan place walk
      offset_walk = record {
        on = on;
        others = λ value value_range out.
            let here : (rank_of count value < order.from)
            ⊎ (order.from + order.count ≤ rank_of count value) =
            subst (λ o. (rank_of count value < o.from)
            ⊎ (o.from + o.count ≤ rank_of count value)) order_is out in
            elim (cases_Bool (moves_one walk.trend scan.cem
            (set scan.values place (byte_of value)) place)) [
              | inl in_trend ↦
                  on.other_end value value_range in_trend (record {
                    some = far.some;
                    far = subst (λ e. IsEndFar (swapped walk.moments)
                        (factor_of walk.widening * e) walk.most)
                        (other_ends walk.trend walk.is_first (byte_of value) trend_is end_is
                        (top_is value value_range here) in_trend) far.far;
                  })
              | inr outside ↦ on.outside value value_range outside
            ];
      }

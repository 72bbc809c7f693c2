-- A walk over the values of a colour integer by their positions.
use Rattle.std.proofs.Common.{◌≡◌, ◌≢◌, ℕ, ◌+◌, ◌*◌, ◌<◌, ◌≤◌, get_or, sym, ap, subst, ◌∙◌, arith, inl, inr, Option, None, Some}
use Rattle.std.specs.Option.{IfSome}
use Rattle.texel_error.specs.Limited.{under}
use Rattle.std.proofs.lemmas.Bool.{cases_lt, cases_eq}
use Rattle.std.proofs.lemmas.Nat.{mul-le}
use Rattle.astc_model.specs.Endpoints.{endpoint_integers}
use Rattle.astc_model.specs.Levels.{count_of}
use Rattle.texel_error.specs.Counting.{TakesAtMost}
use Rattle.colour_bounds.specs.Orders.{integer_on, rank_on, position_of}
use Rattle.colour_bounds.specs.OwnWalks.{IsOwnWalk}
use Rattle.colour_bounds.specs.PartScans.{IsPartScan, state_of, integer_of as place_integer}
use Rattle.colour_bounds.specs.Ranks.{integer_at as rank_integer, rank_of}
use Rattle.colour_bounds.specs.declared.own_walk.OwnWalk.{OwnWalk}
use Rattle.colour_bounds.specs.declared.part_scan.PartitionScan.{PartitionScan}
use Rattle.colour_bounds.proofs.OrderLaws.{one_position, position_is, rank_of_position, integer_is}
use Rattle.colour_bounds.proofs.RankLaws.{integer_of_rank}
use Rattle.colour_bounds.proofs.SingleChannelLaws.{present_range}
use Rattle.error_tables.proofs.UnderLaws.{of_none, of_some}
use Rattle.error_tables.specs.State.{StateView}
use Rattle.error_state.specs.Scans.{range_of, value_at, error_now, error_with_value, IsBetter, least_of, better_of}
use Rattle.error_state.specs.declared.kinds.CodedKind.{CodedKind}
use Rattle.error_state.specs.declared.kinds.CodedKind.TheVariants.{Colour}
use Rattle.error_state.specs.declared.scans.Better.{Better}

module _ (w h : ℕ) (scan : PartitionScan) (place : ℕ) (is : IsPartScan w h scan)
    (within : place < endpoint_integers scan.cem) (walk : OwnWalk)
    (walks : IsOwnWalk w h scan place walk) where
  abbrev count : ℕ
  count = count_of scan.tables.now.level

  abbrev present : ℕ
  present = get_or scan.tables.now.block.colours.items (place_integer scan place) 0

  abbrev integer_at : ℕ → ℕ
  integer_at at = integer_on count walk.order at

  abbrev IsLow : Option Better → (value : ℕ) → Type 0
  IsLow best value = least_of (error_now w h (state_of scan)) best
      ≤ error_with_value w h (state_of scan) Colour (place_integer scan place) value

  rank_at : (at : ℕ) → at < walk.order.count
      → rank_of count (integer_at at) ≡ rank_on walk.order at
  rank_at = rank_of_position scan.tables.now.level walk.order walks.on.orders is.kept.is_shaped.six

  -- the integer at another position is not the present one
  pub other_at : (at : ℕ) → at < walk.order.count → at ≢ walk.start → integer_at at ≢ present
  other_at at inside other = λ same.
      other (one_position walk.order at walk.start walks.on.orders.turns inside
      walks.on.starts.within
      (sym (rank_at at inside) ∙ ap (rank_of count) same ∙ sym walks.on.starts.is))

  -- the values before and after the present one, and those that the walk leaves out
  pub all_values : (best : Option Better) → least_of (error_now w h (state_of scan)) best
      ≤ error_now w h (state_of scan)
      → ((at : ℕ) → walk.start < at → at < walk.order.count → IsLow best (integer_at at))
      → ((at : ℕ) → at < walk.start → IsLow best (integer_at at))
      → (value : ℕ) → value < count → value ≢ present → IsLow best value
  all_values best less above below value range other =
      elim (cases_lt (rank_of count value) walk.order.from) [
        | inl out ↦
            let no = walks.others value range (inl out) in
            omega (arith, less, no)
        | inr from ↦ elim (cases_lt (rank_of count value) (walk.order.from + walk.order.count)) [
          | inl before ↦ on_walk from before
          | inr out ↦
              let no = walks.others value range (inr out) in
              omega (arith, less, no)
        ]
      ]
    where
      on_walk : walk.order.from ≤ rank_of count value
          → rank_of count value < walk.order.from + walk.order.count → IsLow best value
      on_walk from before =
          let at : ℕ = position_of walk.order (rank_of count value) in
          let here = position_is walk.order (rank_of count value) walks.on.orders.turns from before
          in
          let is_it : integer_at at ≡ value =
          integer_is scan.tables.now.level walk.order walks.on.orders is.kept.is_shaped.six value
          range from before in
          elim (cases_lt at walk.start) [
            | inl low ↦ subst (IsLow best) is_it (below at low)
            | inr high ↦ elim (cases_eq at walk.start) [
              | inl same ↦
                  let present_is : value ≡ present =
                  sym (integer_of_rank scan.tables.now.level value is.kept.is_shaped.six range)
                  ∙ ap (rank_integer count) (sym here.1 ∙ ap (rank_on walk.order) same
                  ∙ walks.on.starts.is)
                  ∙ integer_of_rank scan.tables.now.level present is.kept.is_shaped.six
                  (present_range w h scan place is within) in
                  absurd (other present_is)
              | inr apart ↦
                  subst (IsLow best) is_it (above at (omega (arith, high, apart)) here.0)
            ]
          ]

-- the texels of one value more
pub more_steps : (n k before between after : ℕ) → TakesAtMost before between (n * k)
    → TakesAtMost between after k → TakesAtMost before after ((n + 1) * k)
more_steps n k before between after first second = record {
  least = omega (arith, first.least, second.least);
  most = omega (arith, first.most, second.most);
}

-- the texels of two walks
pub both_steps : (n m all k before between after : ℕ) → n + m ≤ all
    → TakesAtMost before between (n * k) → TakesAtMost between after (m * k)
    → TakesAtMost before after (all * k)
both_steps n m all k before between after few first second =
    let fewer : (n + m) * k ≤ all * k = mul-le (n + m) k all k few (omega arith) in
    record {
      least = omega (arith, first.least, second.least);
      most = omega (arith, first.most, second.most, fewer);
    }

pub fewer_steps : (n all k before after : ℕ) → n ≤ all → TakesAtMost before after (n * k)
    → TakesAtMost before after (all * k)
fewer_steps n all k before after few steps =
    let fewer : n * k ≤ all * k = mul-le n k all k few (omega arith) in
    record {
      least = steps.least;
      most = omega (arith, steps.most, fewer);
    }

-- ---- one value more, under the least error or that and 1

module _ (w h : ℕ) (state : StateView) (kind : CodedKind) (i value : ℕ) (best : Option Better)
    (limit : ℕ) (within : value < range_of state kind) (other : value ≢ value_at state kind i)
    (is : IfSome best (IsBetter w h state kind i))
    (tie : limit ≤ least_of (error_now w h state) best + 1)
    (fits : limit ≤ error_now w h state) where
  pub still_better : (tried : Option ℕ)
      → tried ≡ under limit (error_with_value w h state kind i value)
      → IfSome (better_of best value tried) (IsBetter w h state kind i)
  still_better None tried_is = is
  still_better (Some e) tried_is =
      let both = of_some limit (error_with_value w h state kind i value) e tried_is in
      record {
        within = within;
        other = other;
        exact = both.1;
        less = omega (arith, both.0, both.1, fits);
      }

  pub still_falls : (tried : Option ℕ)
      → tried ≡ under limit (error_with_value w h state kind i value)
      → least_of (error_now w h state) (better_of best value tried)
      ≤ least_of (error_now w h state) best
  still_falls None tried_is = omega arith
  still_falls (Some e) tried_is =
      let both = of_some limit (error_with_value w h state kind i value) e tried_is in
      omega (arith, both.0, both.1, tie)

  pub least_here : least_of (error_now w h state) best ≤ limit → (tried : Option ℕ)
      → tried ≡ under limit (error_with_value w h state kind i value)
      → least_of (error_now w h state) (better_of best value tried)
      ≤ error_with_value w h state kind i value
  least_here low None tried_is =
      let most = of_none limit (error_with_value w h state kind i value) tried_is in
      omega (arith, low, most)
  least_here low (Some e) tried_is =
      let both = of_some limit (error_with_value w h state kind i value) e tried_is in
      omega (arith, both.1)

pub less_errors : (w h : ℕ) (state : StateView) (kind : CodedKind) (i : ℕ) (best : Option Better)
    → IfSome best (IsBetter w h state kind i)
    → IfSome best (λ better. better.error < error_now w h state)
less_errors w h state kind i None is = tt
less_errors w h state kind i (Some better) is = is.less

-- The orders in which walks take the integers of a level.
use Rattle.std.specs.Prelude.{ℕ, ◌+◌, ◌-◌, ◌/◌, ◌<◌, ◌≤◌, nat_lt, if◌then◌else◌}
use Rattle.colour_bounds.specs.Ranks.{integer_at}
use Rattle.colour_bounds.specs.declared.orders.WalkOrder.{WalkOrder}

-- the rank at position `at` of an order
abbrev pub rank_on : WalkOrder → ℕ → ℕ
rank_on order at = order.from
    + (if nat_lt (order.turn + at) order.count then order.turn + at else
    order.turn + at - order.count)

-- the position of a rank in an order
abbrev pub position_of : WalkOrder → ℕ → ℕ
position_of order rank =
    if nat_lt (rank - order.from) order.turn then rank - order.from + order.count - order.turn else
    rank - order.from - order.turn

-- the integer at position `at` of an order
abbrev pub integer_on : (count : ℕ) → WalkOrder → ℕ → ℕ
integer_on count order at = integer_at count (rank_on order at)

-- all integers of a level with `count` integers, in the order of their values
abbrev pub whole_order : ℕ → WalkOrder
whole_order count = record { from = 0; turn = 0; count = count }

-- the integers whose values have the top bit of that of `rank`, in the order of the offsets that
-- they encode: values whose next bit is set encode the negative offsets, which come first
abbrev pub half_order : (count rank : ℕ) → WalkOrder
half_order count rank =
    if nat_lt rank (count / 2)
    then record { from = 0; turn = (count + 3) / 4; count = count / 2 }
    else record { from = count / 2; turn = count / 2 - (count + 3) / 4; count = count / 2 }

-- the ranks of the order belong to a level with `count` integers
pub record IsOrder (count : ℕ) (order : WalkOrder) : Type 0 where
  pub fits : order.from + order.count ≤ count
  pub turns : order.turn < order.count

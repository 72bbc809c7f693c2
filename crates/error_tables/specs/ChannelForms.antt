-- The form of a part by the two ends of one channel.
use Rattle.std.specs.Prelude.{ℕ, ◌+◌, ◌*◌, ◌^◌, ◌≤◌}
use Rattle.error_tables.specs.declared.channel_forms.OneChannel.{OneChannel}

-- between two ends the form is one_more less one_less
abbrev pub one_more : OneChannel → (first second : ℕ) → ℕ
one_more one first second =
    one.first_square * (first * first) + one.product * (first * second) + one.second_square
    * (second * second) + one.start

abbrev pub one_less : OneChannel → (first second : ℕ) → ℕ
one_less one first second = one.less_first * first + one.less_second * second + one.less_start

-- its numbers are those of a form of a part
pub record IsSmallOne (one : OneChannel) : Type 0 where
  pub small_first_square : one.first_square ≤ 2 ^ 41
  pub small_product : one.product ≤ 2 ^ 41
  pub small_second_square : one.second_square ≤ 2 ^ 41
  pub small_start : one.start ≤ 2 ^ 62
  pub small_less_first : one.less_first ≤ 2 ^ 49
  pub small_less_second : one.less_second ≤ 2 ^ 49
  pub small_less_start : one.less_start ≤ 2 ^ 61

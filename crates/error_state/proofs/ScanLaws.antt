-- The places of a part that has a colour integer, counted by the integer.
use Rattle.std.proofs.Common.{◌≡◌, ◌≢◌, ℕ, zero, suc, ◌+◌, ◌-◌, ◌*◌, ◌/◌, ◌%◌, ◌<◌, ◌≤◌, ◌==◌, ◌&&◌, Bool, true, false, cond, get_or, refl, arith, Option, None, Some}
use Rattle.std.proofs.lemmas.Bool.{eqb-true, le-leb, lt-ltb}
use Rattle.std.proofs.lemmas.Nat.{mul-le}
use Rattle.astc_model.specs.Sums.{sum_to}
use Rattle.astc_model.specs.Shapes.{colour_count}
use Rattle.astc_model.specs.Endpoints.{endpoint_integers}
use Rattle.astc_model.specs.Partitions.{part_of}
use Rattle.astc_model.specs.declared.block.Coded.{Coded as CodedFields}
use Rattle.texel_error.specs.Counting.{count_on, is_inside, TakesAtMost}
use Rattle.error_tables.specs.Changed.{HasColour}
use Rattle.error_tables.specs.Reached.{has_colour, is_part_inside, is_coloured_inside}
use Rattle.error_tables.specs.State.{StateView, part_count, coloured_count}
use Rattle.error_state.specs.Scans.{range_of, value_at, error_now, error_with_value, IsBetter, least_of, better_of}
use Rattle.error_state.specs.declared.kinds.CodedKind.{CodedKind}
use Rattle.error_state.specs.declared.scans.Better.{Better}
use Rattle.error_tables.proofs.UnderLaws.{of_none, of_some}
use Rattle.texel_error.specs.Limited.{under}
use Rattle.std.specs.Option.{IfSome}

-- what takes each place that another test takes takes no fewer
count_on-le-count_on : (on off : ℕ → Bool) (n : ℕ) → ((p : ℕ) → on p ≡ true → off p ≡ true)
    → count_on on n ≤ count_on off n
unfolding sum_to
count_on-le-count_on on off zero also = omega arith
count_on-le-count_on on off (suc n) also =
    one (on n) (off n) _ _ (count_on-le-count_on on off n also) (also n)
  where
    one : (a b : Bool) (s t : ℕ) → s ≤ t → (a ≡ true → b ≡ true) → s + cond a 1 0 ≤ t + cond b 1 0
    one true true s t le h = omega (arith, le)
    one true false s t le h = let no : false ≡ true = h refl in absurd (cc)
    one false true s t le h = omega (arith, le)
    one false false s t le h = omega (arith, le)

has_colour-true : (coded : CodedFields) (part i : ℕ) → HasColour coded part i
    → has_colour coded part i ≡ true
has_colour-true coded part i has =
    rw (
      le-leb (colour_count part coded.cems) i has.from,
      lt-ltb i
          (colour_count part coded.cems + endpoint_integers (get_or coded.cems part 0)) has.below,
    )
    refl

-- the places of the part are those that the integer counts
pub part_count-le : (w h : ℕ) (state : StateView) (part i : ℕ) → HasColour state.block part i
    → part_count w h state part ≤ coloured_count w h state i
part_count-le w h state part i has =
    count_on-le-count_on (is_part_inside w h state.block part state.places)
    (is_coloured_inside w h state.block i state.places) (w * h)
    (λ p on. also (is_inside state.places p) (part_of w h state.block.parts state.block.seed (p % w)
    (p / w)) on)
  where
    also : (b : Bool) (own : ℕ) → (b && (own == part)) ≡ true → (b && has_colour state.block own i)
        ≡ true
    also true own on = let same : own ≡ part = eqb-true own part on in
        rw same (has_colour-true state.block part i has)
    also false own on = on

-- so a bound by the part's places is one by the integer's
pub takes_by_integer : (w h : ℕ) (state : StateView) (part i before after : ℕ)
    → HasColour state.block part i
    → TakesAtMost before after (part_count w h state part)
    → TakesAtMost before after (coloured_count w h state i)
takes_by_integer w h state part i before after has takes =
    record {
      least = takes.least;
      most = omega (arith, takes.most, part_count-le w h state part i has);
    }

-- values before one, and others after it
pub steps_within : (from a to all k before between after : ℕ) → a < to → to ≤ all
    → TakesAtMost before between ((a - from) * k) → TakesAtMost between after ((to - (a + 1)) * k)
    → TakesAtMost before after ((all - 1) * k)
steps_within from a to all k before between after less few first second =
    let fewer : ((a - from) + (to - (a + 1))) * k ≤ (all - 1) * k =
    mul-le ((a - from) + (to - (a + 1))) k (all - 1) k (omega arith) (omega arith) in
    record {
      least = omega (arith, first.least, second.least);
      most = spread (a - from) (to - (a + 1)) ((all - 1) * k) first.most second.most fewer;
    }
  where
    spread : (x y z : ℕ) → between ≤ before + x * k → after ≤ between + y * k → (x + y) * k ≤ z
        → after ≤ before + z
    spread x y z one two fewer = omega (arith, one, two, fewer)

-- ---- one value more of a scan

pub least-le : (w h : ℕ) (state : StateView) (kind : CodedKind) (i : ℕ) (best : Option Better)
    → IfSome best (IsBetter w h state kind i)
    → least_of (error_now w h state) best ≤ error_now w h state
least-le w h state kind i None is = omega arith
least-le w h state kind i (Some better) is = omega (arith, is.less)

module _ (w h : ℕ) (state : StateView) (kind : CodedKind) (i value : ℕ) (best : Option Better)
    (within : value < range_of state kind) (other : value ≢ value_at state kind i)
    (is : IfSome best (IsBetter w h state kind i)) where
  abbrev total : ℕ
  total = error_now w h state

  abbrev tried_error : ℕ
  tried_error = error_with_value w h state kind i value

  pub still_better : (tried : Option ℕ) → tried ≡ under (least_of total best) tried_error
      → IfSome (better_of best value tried) (IsBetter w h state kind i)
  still_better None tried_is = is
  still_better (Some e) tried_is =
      let both = of_some (least_of total best) tried_error e tried_is in
      record {
        within = within;
        other = other;
        exact = both.1;
        less = omega (arith, both.0, both.1, least-le w h state kind i best is);
      }

  pub still_falls : (tried : Option ℕ) → tried ≡ under (least_of total best) tried_error
      → least_of total (better_of best value tried) ≤ least_of total best
  still_falls None tried_is = omega arith
  still_falls (Some e) tried_is = let both = of_some (least_of total best) tried_error e tried_is in
      omega (arith, both.0, both.1)

  pub least_here : (tried : Option ℕ) → tried ≡ under (least_of total best) tried_error
      → least_of total (better_of best value tried) ≤ tried_error
  least_here None tried_is = of_none (least_of total best) tried_error tried_is
  least_here (Some e) tried_is = let both = of_some (least_of total best) tried_error e tried_is in
      omega (arith, both.1)

-- the texels of one value more
pub scan_steps : (from value k before between after : ℕ) → from ≤ value
    → TakesAtMost before between ((value - from) * k) → TakesAtMost between after k
    → TakesAtMost before after ((value + 1 - from) * k)
scan_steps from value k before between after order first second =
    let whole : value + 1 - from ≡ (value - from) + 1 = omega arith in
    record {
      least = omega (arith, first.least, second.least);
      most = rw whole (one (value - from) first.most second.most);
    }
  where
    one : (x : ℕ) → between ≤ before + x * k → after ≤ between + k → after ≤ before + (x + 1) * k
    one x before_it last = omega (arith, before_it, last)

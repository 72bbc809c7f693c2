use Rattle.std.proofs.Common.{ℕ, ◌+◌, ◌≤◌, arith}
use Rattle.error_tables.proofs.FloorLaws.{channel_form-le}
use Rattle.colour_bounds.proofs.own_walk.is_trend_far.Goals as goal

pub returns-in-Some : goal.returns-in-Some
returns-in-Some g c = λ reached value in_trend.
    let own = channel_form-le c.args.scan.now.tables.now c.args.scan.now.reach.now
    c.args.scan.now.floor _ _ _ c.requires.scan.floored c.in-Some.ensures.within in
    rw (c.in-Some.ensures.less_is value in_trend, c.in-Some.ensures.more_is value in_trend)
    (plain _ _ _ _ _ (c.reaches.ensures.exact.0 reached) own)
  where
    plain : (less more most own_less own_more : ℕ) → less + most ≤ more → own_less ≤ own_more
        → less + own_less + most ≤ more + own_more
    plain less more most own_less own_more far own = omega (arith, far, own)

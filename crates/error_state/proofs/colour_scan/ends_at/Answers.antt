use Rattle.error_state.proofs.colour_scan.ends_at.Goals as goal

pub returns-in-Some : goal.returns-in-Some
returns-in-Some g c = λ far at value_is.
    let in_trend = rw (c.value_of.ensures, value_is) at c.in-Some.ensures in
    (in_trend.0, rw in_trend.1 at (c.is_far.ensures.0 far))

use Rattle.std.proofs.Common.{ℕ, ◌≤◌, arith, inl, inr}
use Rattle.std.proofs.lemmas.Bool.{cases_lt}
use Rattle.error_tables.specs.State.{coloured_count}
use Rattle.colour_bounds.specs.PartScans.{integer_of}
use Rattle.colour_bounds.specs.PartScans.{state_of}
use Rattle.error_state.specs.Scans.{error_now, least_of}
use Rattle.error_state.proofs.ScanLaws.{steps_within}
use Rattle.error_state.proofs.colour_scan.best_by_bounds.Goals as goal

pub returns-clause-least : goal.returns-clause-least
returns-clause-least g c =
    let total : ℕ = error_now g.row.W g.row.H (state_of c.args.scan.now) in
    let falls = c.best_colour_between.ensures.falls in
    let from_none : least_of total c.best_colour_between-below.result.best ≤ total =
    rw c.first_limit-none.ensures.none at c.best_colour_between-below.ensures.falls in
    let best : least_of total c.best_colour_between.result.best ≤ total =
    omega (arith, falls, from_none) in
    λ value within other. elim (cases_lt value c.values_to_try-from.result.0) [
      | inl low ↦ omega (arith, best, c.values_to_try-from.ensures.others value within (inl low))
      | inr above ↦ elim (cases_lt value c.from-present.result) [
        | inl before ↦ omega (
          arith,
          falls,
          c.best_colour_between-below.ensures.least value above
              before,
        )
        | inr behind ↦ elim (cases_lt value c.values_to_try-from.result.1) [
          | inl below ↦ c.best_colour_between.ensures.least value
              (omega (arith, behind, other, c.from-present.ensures)) below
          | inr high ↦ omega (
            arith,
            best,
            c.values_to_try-from.ensures.others value within
                (inr high),
          )
        ]
      ]
    ]

pub returns-clause-steps : goal.returns-clause-steps
returns-clause-steps g c =
    steps_within c.values_to_try-from.result.0 c.from-present.result c.values_to_try-from.result.1 _
    (coloured_count g.row.W g.row.H (state_of c.args.scan.now)
    (integer_of c.args.scan.now c.args.place)) _ _ _
    (omega (arith, c.values_to_try-from.ensures.behind, c.from-present.ensures))
    c.values_to_try-from.ensures.range
    c.best_colour_between-below.ensures.steps c.best_colour_between.ensures.steps

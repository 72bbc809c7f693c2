use Rattle.std.proofs.Common.{◌≤◌, arith, rules}
use Rattle.std.proofs.lemmas.List.Elements.{All-replicate}
use Rattle.error_tables.proofs.around.no_corner.Goals as goal

pub returns : goal.returns
returns c = λ w h corner mode places. record {
  all_points = search rules;
  all_factors = search rules;
  points_are = λ k below. absurd (omega arith);
  factors_are = λ k below. absurd (omega arith);
  small = All-replicate (λ factor. factor ≤ 16) 144 0 (omega arith);
}

-- The values of the points of a plane, from a table by their targets.
use Rattle.std.proofs.Common.{◌≡◌, ℕ, ◌<◌, ◌≤◌, get_or, length, ap, sym, ◌∙◌, arith}
use Rattle.std.specs.Prelude.{slice_index}
use Rattle.std.proofs.lemmas.List.{get_or-map}
use Rattle.std.specs.List.{All}
use Rattle.std.proofs.lemmas.List.FromFn.{get_or-map-range_with_len, length-map-range_with_len}
use Rattle.astc_model.specs.Levels.{count_of}
use Rattle.astc_model.specs.Nearest.{nearest_weight}
use Rattle.astc_model.specs.declared.level.Level.{Level}
use Rattle.quant_tables.proofs.NearestLaws.{nearest_weight-is}
use Rattle.quant_tables.proofs.ValueLaws.{weight_value-le}
use Rattle.quant_tables.specs.Tables.{nearest_weight_value, nearest_weight_values_of}
use Rattle.texel_error.specs.Drawing.{HaveValues, values_of}
use Rattle.texel_error.specs.declared.drawn.DrawnPoints.{DrawnPoints}
use Rattle.listed_walk.proofs.OriginLaws.{middle_value}

nearest_value-at : (level : Level) (target : ℕ) → target < 65
    → get_or (nearest_weight_values_of level) target 0 ≡ nearest_weight_value level target
nearest_value-at level target below =
    get_or-map-range_with_len (nearest_weight_value level) 0 65 target target 0 below (omega arith)

all_nearest : (level : Level) → length (nearest_weight_values_of level) ≡ 65
all_nearest level = length-map-range_with_len (nearest_weight_value level) 0 65

nearest_small : (level : Level) → count_of level ≤ 32
    → All (λ value. value ≤ 64) (nearest_weight_values_of level)
nearest_small level few = λ k d below.
    let there : k < 65 = rw (all_nearest level) at below in
    rw (get_or-map-range_with_len (nearest_weight_value level) 0 65 k k d there (omega arith))
    (weight_value-le level (nearest_weight level k) (nearest_weight-is level k).within)

-- a plane has values from the table of a level
pub have_values : (n : ℕ) (level : Level) (points : DrawnPoints) → points.values.now
    ≡ nearest_weight_values_of level → count_of level ≤ 32
    → ((p : ℕ) → p < n → get_or points.targets.now p 0 ≤ 64) → length points.targets.now ≡ 160
    → HaveValues n points
have_values n level points table few targets places = record {
  all = rw table (all_nearest level);
  small = rw table (nearest_small level few);
  middle = rw table (nearest_value-at level 31 (omega arith) ∙ middle_value level few
      ∙ sym (nearest_value-at level 32 (omega arith)));
  targets = targets;
  places = places;
}

-- these are those of the level
pub values_of-is : (n : ℕ) (level : Level) (points : DrawnPoints) → points.values.now
    ≡ nearest_weight_values_of level
    → ((p : ℕ) → p < n → get_or points.targets.now p 0 ≤ 64) → length points.targets.now ≡ 160
    → n ≤ 144 → (p : ℕ) → p < n
    → get_or (values_of points) p 0 ≡ nearest_weight_value level (get_or points.targets.now p 0)
unfolding values_of
values_of-is n level points table small all few p below =
    get_or-map (slice_index points.values.now) points.targets.now p 0 0 (omega arith)
    ∙ ap (λ values. get_or values (get_or points.targets.now p 0) 0) table
    ∙ nearest_value-at level (get_or points.targets.now p 0) (omega (arith, small p below))

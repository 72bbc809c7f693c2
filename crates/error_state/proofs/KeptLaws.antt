-- The data of a partition serves any list that has its places.
use Rattle.std.proofs.Common.{◌≡◌, ℕ, List, ◌∙◌, sym}
use Rattle.std.specs.Prelude.{sum_by}
use Rattle.moments.specs.declared.Moments.{Moments}
use Rattle.error_tables.specs.Reached.{IsPartReach}
use Rattle.error_tables.specs.Floors.{AreMomentsOf, IsPartFloor, channel_part, inside_at}
use Rattle.error_tables.specs.declared.tables.Tables.{Tables}
use Rattle.error_tables.specs.declared.floors.PartitionFloor.{PartitionFloor}

moments_move : (tables : Tables) (c : ℕ) (old new : List ℕ) (moments : Moments)
    → ((f : ℕ → ℕ) → sum_by f new ≡ sum_by f old)
    → AreMomentsOf tables c old moments → AreMomentsOf tables c new moments
moments_move tables c old new moments same is = record {
  floored = λ first second.
      rw (same (channel_part tables c first second), same (inside_at tables.places.now))
      (is.floored first second);
}

pub floor_moves : (w h : ℕ) (tables : Tables) (part : ℕ) (old new : List ℕ) (floor : PartitionFloor)
    → IsPartReach w h tables.block part tables.places.now old
    → IsPartReach w h tables.block part tables.places.now new
    → IsPartFloor tables old floor → IsPartFloor tables new floor
floor_moves w h tables part old new floor old_is new_is is =
    let same : (f : ℕ → ℕ) → sum_by f new ≡ sum_by f old = λ f. new_is.are.same f
    ∙ sym (old_is.are.same f) in
    record {
      red = moments_move tables 0 old new floor.red same is.red;
      green = moments_move tables 1 old new floor.green same is.green;
      blue = moments_move tables 2 old new floor.blue same is.blue;
      alpha = moments_move tables 3 old new floor.alpha same is.alpha;
      count = is.count ∙ sym (same (inside_at tables.places.now));
      taken = is.taken ∙ sym (same _);
    }

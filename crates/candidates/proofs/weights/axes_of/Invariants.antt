use Rattle.std.proofs.Common.{◌≡◌, ℕ, ◌<◌, length}
use Rattle.std.specs.Prelude.{slice_index_or}
use Rattle.std.specs.List.{All}
use Rattle.astc_model.specs.Candidates.{no_ends}
use Rattle.candidates.specs.Axes.{axis_of, no_axis, IsAxis}
use Rattle.candidates.proofs.weights.axes_of.Given as goal

abbrev pub invariant-loop-part : goal.invariant-loop-part
invariant-loop-part l = record {
  count : length l.axes ≡ 4;
  all : All IsAxis l.axes;
  each : (k : ℕ) → k < l.part → slice_index_or l.axes k no_axis
      ≡ axis_of l.component l.plane (slice_index_or l.ends k no_ends);
}

use Rattle.std.proofs.Common.{◌≡◌, ℕ, ◌+◌, ◌*◌, ◌/◌, ◌%◌, ◌<◌, ◌≤◌, length, get_or, None}
use Rattle.images.specs.Pictures.{texel_at}
use Rattle.astc_rows.specs.Bands.{picture}
use Rattle.astc_rows.proofs.sources.source_of.Given as goal

-- the places so far have their texels, and all others lie outside
abbrev pub invariant-loop-place : goal.invariant-loop-place
invariant-loop-place g l = record {
  count : length l.source ≡ g.row.W * g.row.H;
  done : (k : ℕ) → k < l.place → get_or l.source k None ≡ texel_at (picture l.fn.band l.texels) 0
      (l.fn.column * g.row.W + k % g.row.W) (l.fn.row * g.row.H + k / g.row.W);
  outside : (k : ℕ) → l.place ≤ k → get_or l.source k None ≡ None;
}

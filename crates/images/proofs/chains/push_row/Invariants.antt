use Rattle.std.proofs.Common.{◌≡◌, ◌+◌, ◌*◌, ◌++◌, length, map}
use Rattle.std.specs.List.{range_with_len}
use Rattle.images.specs.Pictures.{bytes_of}
use Rattle.images.specs.Chains.{halved_texel}
use Rattle.images.proofs.chains.push_row.Given as goal

-- the texels of the row so far
abbrev pub invariant-loop-x : goal.invariant-loop-x
invariant-loop-x l = record {
  row : l.texels.items ≡ l.fn.texels.items ++ bytes_of
      (map (λ x. halved_texel l.images l.image x l.y) (range_with_len 0 l.x));
  size : length l.texels.items ≡ length l.fn.texels.items + 4 * l.x;
}

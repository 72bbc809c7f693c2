use Rattle.std.proofs.Common.{◌≡◌, length}
use Rattle.images.specs.Chains.{chain_of}
use Rattle.images.proofs.chains.chain.Given as goal

-- the levels so far
abbrev pub invariant-loop-level : goal.invariant-loop-level
invariant-loop-level l = record {
  levels : l.chain.items ≡ chain_of l.fn.images l.level;
  size : length l.chain.items ≡ l.level;
}

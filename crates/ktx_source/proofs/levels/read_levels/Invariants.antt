use Rattle.std.proofs.Common.{◌≡◌, ◌≤◌, ◌-◌, ◌+◌, ◌*◌, ◌^◌, ℕ, List, Some}
use Rattle.tex_shelf.specs.Frames.{OnlyReads}
use Rattle.ktx_header.specs.Levels.{levels_of}
use Rattle.ktx_header.proofs.LevelLemmas.{Reaches}
use Rattle.ktx_source.specs.Sources.{levels_in}
use Rattle.ktx_source.proofs.PictureLemmas.{AreFirst}
use Rattle.ktx_source.proofs.levels.read_levels.Given as goal

-- the levels so far, and those that the rest of the input has
abbrev pub invariant-loop-level : goal.invariant-loop-level
invariant-loop-level g l = record {
  reads : (input : List ℕ) → g.S.Shelf.left l.fn.shelf ≡ Some input
      → (current : List ℕ) × Reaches l.header.order (levels_in l.header.format l.header.extent)
      (levels_of l.header.order (levels_in l.header.format l.header.extent) 0
      l.header.extent.levels l.first input)
      l.level (l.header.extent.levels - l.level) l.before (g.S.Shelf.left l.shelf) l.levels.items
      current;
  place : l.before ≤ l.first + l.level * (2 ^ 30);
  so_far : AreFirst l.header.extent l.level l.levels.items;
  rest : OnlyReads g.S.Shelf l.fn.shelf l.shelf;
}

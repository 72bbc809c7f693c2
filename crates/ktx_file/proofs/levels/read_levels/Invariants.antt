use Rattle.std.proofs.Common.{◌≡◌, ◌≤◌, ◌-◌, ◌+◌, ◌*◌, ◌^◌, ℕ, List, Some, length}
use Rattle.std.specs.List.{AllByRecursion}
use Rattle.astc_model.specs.Sums.{sum_to}
use Rattle.tex_shelf.specs.Frames.{OnlyReads}
use Rattle.texture.specs.Shapes.{level_blocks}
use Rattle.ktx_header.specs.Levels.{levels_of}
use Rattle.ktx_header.proofs.LevelLemmas.{Reaches}
use Rattle.ktx_file.specs.Files.{levels_in}
use Rattle.ktx_file.proofs.levels.read_levels.Given as goal

-- the levels so far, and those that the rest of the input has
abbrev pub invariant-loop-level : goal.invariant-loop-level
invariant-loop-level g l = record {
  reads : (input : List ℕ) → g.S.Shelf.left l.fn.shelf ≡ Some input
      → (current : List ℕ) × Reaches l.order (levels_in l.layout)
      (levels_of l.order (levels_in l.layout) 0 l.layout.levels l.first input) l.level
      (l.layout.levels - l.level) l.before (g.S.Shelf.left l.shelf) l.blocks.items current;
  place : l.before ≤ l.first + l.level * (2 ^ 30);
  count : length l.blocks.items ≡ sum_to (level_blocks l.layout) l.level;
  sizes : AllByRecursion (λ block. length block ≡ 16) l.blocks.items;
  rest : OnlyReads g.S.Shelf l.fn.shelf l.shelf;
}

use Rattle.std.proofs.Common.{◌≡◌, ◌≤◌, ◌-◌, ◌+◌, ◌*◌, ℕ, List, Some, length}
use Rattle.pam_header.specs.Headers.{header_most}
use Rattle.pam_image.specs.Outside.{OnlyTakes}
use Rattle.tex_shelf.specs.declared.stop.Stop.TheVariants.{ReadFault}
use Rattle.tex_shelf.specs.Files.{with_front}
use Rattle.pam_image.proofs.LoopLaws.{Reaches, Unchanged}
use Rattle.pam_image.proofs.series.read_all_later.Given as goal

-- the images so far, and those that the rest of the input has
abbrev pub invariant-loop-image : goal.invariant-loop-image
invariant-loop-image g l = record {
  grown : length l.texels.items
      ≡ length l.fn.texels.items + 4 * (l.width * l.height * (l.image - 1));
  short : length l.ahead.items ≤ header_most;
  reads : (bytes : List ℕ) → with_front l.fn.ahead.items (g.S.Shelf.left l.fn.shelf) ≡ Some bytes
      → Reaches l.width l.height (l.count - 1) bytes l.fn.texels.items l.image (l.count - l.image)
      (with_front l.ahead.items (g.S.Shelf.left l.shelf)) l.texels.items;
  outside : OnlyTakes g.S.Shelf l.fn.shelf l.shelf ReadFault Unchanged;
}

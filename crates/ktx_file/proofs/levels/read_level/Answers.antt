use Rattle.std.proofs.Common.{◌≡◌, ◌∙◌, Ok, ap}
use Rattle.ktx_header.specs.Levels.{sized}
use Rattle.tex_shelf.proofs.StopLemmas.{exit_to}
use Rattle.ktx_header.proofs.LevelLemmas.{level_first}
use Rattle.ktx_file.specs.Files.{levels_in}
use Rattle.ktx_file.specs.Framing.{level_size_of}
use Rattle.ktx_file.proofs.LevelLemmas.{level_last}
use Rattle.ktx_file.proofs.levels.read_level.Goals as goal

pub returns-in_err-read_size-clause-reads : goal.returns-in_err-read_size-clause-reads
returns-in_err-read_size-clause-reads g c = λ input e.
    exit_to _ _ _ _ c.from_residual.result c.in_err-read_size.field-0.0 c.from_residual.ensures.1
    (level_first c.args.order (levels_in c.args.layout.now) c.args.level c.args.before input
    c.in_err-read_size.field-0.0
    (rw (c.level_size.ensures
    ∙ ap (λ shape. level_size_of shape c.args.level) c.shape.ensures.same)
    at (c.in_err-read_size.ensures.reads input e)))

pub returns-clause-reads : goal.returns-clause-reads
returns-clause-reads g c = λ input e.
    let m = c.in_ok-read_size.ensures.reads input e in
    let size : sized c.args.order c.args.level (level_size_of c.args.layout.now c.args.level)
    c.args.before input ≡ Ok tt =
    rw (c.level_size.ensures
    ∙ ap (λ shape. level_size_of shape c.args.level) c.shape.ensures.same) at m.1 in
    level_last c.args.order c.args.layout.now c.args.level c.args.before c.level_blocks.result input
    c.args.blocks.now.items c.read_blocks.new.blocks.items _ c.read_blocks.result size
    c.level_blocks.ensures.exact (c.read_blocks.ensures.reads _ m.0)

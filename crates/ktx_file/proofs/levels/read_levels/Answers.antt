use Rattle.std.proofs.Common.{[], ◌≡◌, ◌∙◌, ◌-◌, ◌+◌, length, ap, sym, arith, rules}
use Rattle.astc_model.proofs.SumLaws.{sum_to-more, sum_to-zero}
use Rattle.texture.specs.Shapes.{level_blocks}
use Rattle.tex_shelf.proofs.StopLemmas.{exit_to}
use Rattle.ktx_header.proofs.LevelLemmas.{reaches_start, reaches_on, reaches_fails}
use Rattle.ktx_file.specs.Files.{levels_in}
use Rattle.ktx_file.proofs.levels.read_levels.Goals as goal

pub loop-level-init : goal.loop-level-init
loop-level-init g c =
    let none : c.new-blocks.result.items ≡ [] = c.new-blocks.ensures.items in
    record {
      reads = λ input e. (
        input,
        reaches_start c.args.order
            (levels_in c.args.layout.now) c.args.layout.now.levels
            (c.args.layout.now.levels - 0) c.args.first _ input _ e none (omega arith),
      );
      place = omega arith;
      count = ap length none ∙ sym (sum_to-zero (level_blocks c.args.layout.now));
      sizes = rw none tt;
      rest = search rules;
    }

pub returns-in_err-read_level-clause-reads : goal.returns-in_err-read_level-clause-reads
returns-in_err-read_level-clause-reads g c = λ input e.
    let r = c.loop-level.invariant.reads input e in
    exit_to _ _ _ _ c.from_residual.result c.in_err-read_level.field-0.0 c.from_residual.ensures.1
    (reaches_fails c.args.order (levels_in c.args.layout.now) _ c.loop-level.level
    (c.args.layout.now.levels - c.loop-level.level)
    (c.args.layout.now.levels - (c.loop-level.level + 1)) c.loop-level.before _ _ r.0
    c.in_err-read_level.field-0.0 r.1 (omega arith)
    (c.in_err-read_level.ensures.reads r.0 r.1.left_is))

pub loop-level-preserved : goal.loop-level-preserved
loop-level-preserved g c =
    let level = c.loop-level.level in
    let shape = c.args.layout.now in
    record {
      reads = λ input e.
          let r = c.loop-level.invariant.reads input e in
          let m = c.in_ok-read_level.ensures.reads r.0 r.1.left_is in (
            _,
            reaches_on c.args.order (levels_in shape) _ level (shape.levels - level)
                (shape.levels - (level + 1)) c.loop-level.before _ _ _ c.loop-level.blocks.items
                c.read_level.new.blocks.items m.1.0 r.0
                r.1 (omega arith) (omega (arith, c.from.ensures, c.level_blocks.ensures.exact)) m.0
                m.1.1 m.1.2,
          );
      place = omega (
        arith,
        c.loop-level.invariant.place,
        c.from.ensures,
        c.level_blocks.ensures.most,
      );
      count = omega (
        arith,
        c.in_ok-read_level.ensures.grown.count,
        c.loop-level.invariant.count,
        sum_to-more (level_blocks shape) level,
      );
      sizes = c.in_ok-read_level.ensures.grown.sizes c.loop-level.invariant.sizes;
      rest = search rules;
    }

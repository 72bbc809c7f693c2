use Rattle.std.proofs.Common.{[], ◌≡◌, ◌-◌, ◌+◌, arith, rules}
use Rattle.tex_shelf.proofs.StopLemmas.{exit_to}
use Rattle.ktx_header.proofs.LevelLemmas.{reaches_start, reaches_on, reaches_fails}
use Rattle.ktx_source.specs.Sources.{levels_in}
use Rattle.ktx_source.proofs.PictureLemmas.{first_none, first_more, first_all}
use Rattle.ktx_source.proofs.levels.read_levels.Goals as goal

pub loop-level-init : goal.loop-level-init
loop-level-init g c =
    let header = c.args.header.now in
    let none : c.new-levels.result.items ≡ [] = c.new-levels.ensures.items in
    record {
      reads = λ input e. (
        input,
        reaches_start header.order (levels_in header.format header.extent)
            header.extent.levels (header.extent.levels - 0) c.args.first _ input _ e none
            (omega arith),
      );
      place = omega arith;
      so_far = first_none header.extent c.new-levels.result.items none;
      rest = search rules;
    }

pub returns-in_err-read_level-clause-reads : goal.returns-in_err-read_level-clause-reads
returns-in_err-read_level-clause-reads g c = λ input e.
    let header = c.args.header.now in
    let r = c.loop-level.invariant.reads input e in
    exit_to _ _ _ _ c.from_residual.result c.in_err-read_level.field-0.0 c.from_residual.ensures.1
    (reaches_fails header.order (levels_in header.format header.extent) _ c.loop-level.level
    (header.extent.levels - c.loop-level.level)
    (header.extent.levels - (c.loop-level.level + 1)) c.loop-level.before _ _ r.0
    c.in_err-read_level.field-0.0 r.1 (omega arith)
    (c.in_err-read_level.ensures.reads r.0 r.1.left_is))

pub loop-level-preserved : goal.loop-level-preserved
loop-level-preserved g c =
    let level = c.loop-level.level in
    let header = c.args.header.now in
    let grown = c.in_ok-read_level.ensures.grown in
    record {
      reads = λ input e.
          let r = c.loop-level.invariant.reads input e in
          let m = c.in_ok-read_level.ensures.reads r.0 r.1.left_is in (
            _,
            reaches_on header.order (levels_in header.format header.extent) _ level
                (header.extent.levels - level) (header.extent.levels - (level + 1))
                c.loop-level.before _ _ _ c.loop-level.levels.items c.read_level.new.levels.items
                m.1.0 r.0
                r.1 (omega arith) (omega (arith, c.from.ensures, c.level_bytes.ensures.exact)) m.0
                m.1.1 m.1.2,
          );
      place = omega (
        arith,
        c.loop-level.invariant.place,
        c.from.ensures,
        c.level_bytes.ensures.most,
      );
      so_far = first_more header.extent level c.loop-level.levels.items
          c.read_level.new.levels.items grown.0 c.loop-level.invariant.so_far grown.1 grown.2;
      rest = search rules;
    }

pub returns-clause-full : goal.returns-clause-full
returns-clause-full g c =
    first_all c.args.header.now.extent c.loop-level.level c.loop-level.levels.items
    c.loop-level.invariant.so_far (omega arith)

use Rattle.std.proofs.Common.{◌≡◌, ◌+◌, ◌∙◌, [], ◌∷◌, ◌++◌, length, drop, Ok, refl, ap}
use Rattle.ktx_header.specs.Levels.{sized, enough}
use Rattle.tex_shelf.proofs.StopLemmas.{exit_to}
use Rattle.ktx_header.proofs.LevelLemmas.{level_first, level_second, level_is}
use Rattle.ktx_source.specs.Rasters.{image_size, level_bytes, pictures_in}
use Rattle.ktx_source.specs.Sources.{levels_in}
use Rattle.ktx_source.proofs.levels.read_level.Goals as goal

pub returns-in_err-read_size-clause-reads : goal.returns-in_err-read_size-clause-reads
returns-in_err-read_size-clause-reads g c = λ input e.
    let header = c.args.header.now in
    exit_to _ _ _ _ c.from_residual.result c.in_err-read_size.field-0.0 c.from_residual.ensures.1
    (level_first header.order (levels_in header.format header.extent) c.args.level c.args.before
    input c.in_err-read_size.field-0.0
    (rw c.image_size-size.ensures at (c.in_err-read_size.ensures.reads input e)))

pub returns-in_err-bytes-clause-reads : goal.returns-in_err-bytes-clause-reads
returns-in_err-bytes-clause-reads g c = λ input e.
    let header = c.args.header.now in
    let m = c.in_ok-read_size.ensures.reads input e in
    let size : sized header.order c.args.level (image_size header.format header.extent c.args.level)
    c.args.before input ≡ Ok tt = rw c.image_size-size.ensures at m.1 in
    exit_to _ _ _ _ c.from_residual-in_err-bytes.result c.in_err-bytes.field-0.0
    c.from_residual-in_err-bytes.ensures.1
    (level_second header.order (levels_in header.format header.extent) c.args.level c.args.before
    input c.in_err-bytes.field-0.0 size
    (rw c.level_bytes-count.ensures.exact at (c.in_err-bytes.ensures.reads _ m.0)))

pub returns-clause-reads : goal.returns-clause-reads
returns-clause-reads g c = λ input e.
    let header = c.args.header.now in
    let m = c.in_ok-read_size.ensures.reads input e in
    let size : sized header.order c.args.level (image_size header.format header.extent c.args.level)
    c.args.before input ≡ Ok tt = rw c.image_size-size.ensures at m.1 in
    let n = c.in_ok-bytes.ensures.reads _ m.0 in
    let all : enough (level_bytes header.format header.extent c.args.level) (length (drop 4 input))
    (c.args.before + 4) ≡ Ok tt = rw c.level_bytes-count.ensures.exact at n.1.0 in (
      rw c.level_bytes-count.ensures.exact at n.0,
      (
        _,
        level_is header.order (levels_in header.format header.extent) c.args.level c.args.before
            input size all,
        c.in_ok-push.ensures.items
            ∙ ap (λ images. c.args.levels.now.items ++ images ∷ []) (c.in_ok-images.ensures
            ∙ ap (pictures_in header.format header.extent c.args.level)
            (rw c.level_bytes-count.ensures.exact at n.1.1)),
      ),
    )

pub returns-clause-grown : goal.returns-clause-grown
returns-clause-grown g c = (
  c.in_ok-images.images,
  rw c.in_ok-images.ensures
      (record { width = refl; height = refl; count = refl }),
  c.in_ok-push.ensures.items,
)

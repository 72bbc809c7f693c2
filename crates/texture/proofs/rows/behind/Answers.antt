use Rattle.std.proofs.Common.{◌≡◌, ℕ, ◌+◌, ◌<◌, ◌≤◌, arith}
use Rattle.texture.specs.Shapes.{rows_of, image_count}
use Rattle.texture.proofs.ShapeLaws.{images-some, rows-some, all-most}
use Rattle.texture.proofs.RowLaws.{row-within, row_start-image, row_start-level, left-row, left-image, left-level}
use Rattle.texture.proofs.rows.behind.Goals as goal

pub overflow_add-first : goal.overflow_add-first
overflow_add-first c =
    let shape = c.args.layout.now in
    let at = c.args.at in
    omega (
      arith,
      c.requires.columns,
      c.requires.at.first_is c.requires.level,
      row-within shape at.level at.image at.row c.requires.level c.requires.at.image_in
          (c.requires.at.row_in c.requires.level),
      all-most shape c.requires.at.valid,
    )

pub returns-then-at-rows-clause-left : goal.returns-then-at-rows-clause-left
returns-then-at-rows-clause-left c =
    left-row c.args.layout.now c.args.at.level c.args.at.image c.args.at.row c.requires.level
    (omega (arith, c.if-at-rows.true, c.rows.ensures.exact))

-- the last of n
last : (n found most : ℕ) → found ≤ n + 1 → found ≡ most → n < most → n + 1 ≡ most
last n found most over is inside = omega (arith, over, is, inside)

pub returns-then-at-image_count-clause-at : goal.returns-then-at-image_count-clause-at
returns-then-at-image_count-clause-at c =
    let shape = c.args.layout.now in
    let at = c.args.at in
    record {
      valid = c.requires.at.valid;
      level_most = c.requires.at.level_most;
      image_in = omega (arith, c.if-at-image_count.true, c.image_count.ensures.exact);
      row_in = λ below. omega (arith, rows-some shape at.level);
      first_is = λ below.
          omega (
            arith,
            c.requires.at.first_is c.requires.level,
            c.requires.columns,
            row_start-image
                shape at.level at.image at.row
                (last at.row c.rows.result (rows_of shape at.level) c.if-at-rows.false
                c.rows.ensures.exact (c.requires.at.row_in c.requires.level)),
          );
    }

pub returns-then-at-image_count-clause-left : goal.returns-then-at-image_count-clause-left
returns-then-at-image_count-clause-left c =
    let shape = c.args.layout.now in
    let at = c.args.at in
    left-image c.args.layout.now c.args.at.level c.args.at.image c.args.at.row c.requires.level
    (last at.row c.rows.result (rows_of shape at.level) c.if-at-rows.false c.rows.ensures.exact
    (c.requires.at.row_in c.requires.level))
    (omega (arith, c.if-at-image_count.true, c.image_count.ensures.exact))

pub returns-else-at-image_count-clause-at : goal.returns-else-at-image_count-clause-at
returns-else-at-image_count-clause-at c =
    let shape = c.args.layout.now in
    let at = c.args.at in
    record {
      valid = c.requires.at.valid;
      level_most = omega (arith, c.requires.level);
      image_in = omega (arith, images-some shape c.requires.at.valid);
      row_in = λ below. omega (arith, rows-some shape (at.level + 1));
      first_is = λ below.
          omega (
            arith,
            c.requires.at.first_is c.requires.level,
            c.requires.columns,
            row_start-level
                shape at.level at.image at.row
                (last at.row c.rows.result (rows_of shape at.level) c.if-at-rows.false
                c.rows.ensures.exact (c.requires.at.row_in c.requires.level))
                (last at.image c.image_count.result (image_count shape) c.if-at-image_count.false
                c.image_count.ensures.exact c.requires.at.image_in),
          );
    }

pub returns-else-at-image_count-clause-left : goal.returns-else-at-image_count-clause-left
returns-else-at-image_count-clause-left c =
    let shape = c.args.layout.now in
    let at = c.args.at in
    left-level c.args.layout.now c.args.at.level c.args.at.image c.args.at.row c.requires.level
    (last at.row c.rows.result (rows_of shape at.level) c.if-at-rows.false c.rows.ensures.exact
    (c.requires.at.row_in c.requires.level))
    (last at.image c.image_count.result (image_count shape) c.if-at-image_count.false
    c.image_count.ensures.exact c.requires.at.image_in)

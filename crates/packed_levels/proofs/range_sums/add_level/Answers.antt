use Rattle.std.proofs.Common.{◌≡◌, ◌+◌, ◌-◌, ◌*◌, ◌^◌, length, take, drop, sum, max, ap, sym, ◌∙◌, arith}
use Rattle.std.proofs.lemmas.List.{append-nil}
use Rattle.astc_model.proofs.SumLaws.{sum_to-more}
use Rattle.astc_model.specs.Sums.{sum_to}
use Rattle.texture.specs.Shapes.{image_count, image_blocks, level_blocks}
use Rattle.texture.specs.Places.{first_block}
use Rattle.texture.proofs.ShapeLaws.{level_blocks-is}
use Rattle.packed_levels.proofs.RangeLaws.{told-more, total-more, sum-most, length-most}
use Rattle.tex_shelf.proofs.PieceLemmas.{all-take}
use Rattle.packed_levels.proofs.range_sums.add_level.Goals as goal

pub loop-image-init : goal.loop-image-init
loop-image-init c =
    let shape = c.args.layout.now in
    let none : first_block shape c.args.level 0 ≡ sum_to (level_blocks shape) c.args.level =
    omega arith in
    record {
      images = sym (append-nil c.args.sums.now.images.items);
      total = c.requires.total ∙ ap (λ n. sum (take (n - c.args.start) c.args.errors.now))
          (sym none);
    }

pub share_of-share-requires : goal.share_of-share-requires
share_of-share-requires c =
    record {
      below = omega (
        arith,
        c.first_block-first.ensures.most,
        c.image_blocks-count.ensures.exact,
      );
    }

pub add_image-requires-clause-few : goal.add_image-requires-clause-few
add_image-requires-clause-few c =
    let first = c.first_block-first.result in
    let count = c.image_blocks-count.result in
    omega (
      arith,
      c.first_block-first.ensures.most,
      c.image_blocks-count.ensures.exact,
      ap length c.share_of-share.ensures,
      length-most (first + count - max c.args.start first)
          (drop (first - c.args.start) c.args.errors.now),
    )

pub add_image-requires-clause-total : goal.add_image-requires-clause-total
add_image-requires-clause-total c =
    let first = first_block c.args.layout.now c.args.level c.loop-image.image in
    omega (
      arith,
      c.first_block-first.ensures.most,
      c.first_block-first.ensures.exact,
      c.loop-image.invariant.total,
      sum-most (2 ^ 32) (take (first - c.args.start) c.args.errors.now)
          (all-take _ (first - c.args.start) c.args.errors.now c.requires.small),
      length-most (first - c.args.start) c.args.errors.now,
    )

pub loop-image-preserved : goal.loop-image-preserved
loop-image-preserved c =
    let shape = c.args.layout.now in
    record {
      images = told-more shape c.args.start c.args.level c.loop-image.image
          c.first_block-first.result c.image_blocks-count.result c.args.errors.now
          c.share_of-share.result.now c.args.sums.now.images.items c.loop-image.sums.images.items
          c.add_image.new.sums.images.items c.first_block-first.ensures.exact
          c.image_blocks-count.ensures.exact c.share_of-share.ensures
          c.loop-image.invariant.images
          c.in_ok-add_image.ensures.images;
      total = total-more shape c.args.start c.args.level c.loop-image.image
          c.first_block-first.result c.image_blocks-count.result c.loop-image.sums.total
          c.add_image.new.sums.total c.args.errors.now c.share_of-share.result.now
          c.first_block-first.ensures.exact c.image_blocks-count.ensures.exact
          c.share_of-share.ensures c.loop-image.invariant.total c.in_ok-add_image.ensures.total;
    }

pub returns-clause-total : goal.returns-clause-total
returns-clause-total c =
    let shape = c.args.layout.now in
    let all : c.loop-image.image ≡ image_count shape =
    omega (
      arith,
      c.loop-image-test.false,
      c.loop-image.auto.image-end,
      c.image_count-image-end.ensures.exact,
    ) in
    let size : first_block shape c.args.level c.loop-image.image
    ≡ sum_to (level_blocks shape) (c.args.level + 1) =
    ap (λ n. sum_to (level_blocks shape) c.args.level + n * image_blocks shape c.args.level) all
    ∙ ap (λ n. sum_to (level_blocks shape) c.args.level + n)
    (sym (level_blocks-is shape c.args.level))
    ∙ sym (sum_to-more (level_blocks shape) c.args.level) in
    c.loop-image.invariant.total ∙ ap (λ n. sum (take (n - c.args.start) c.args.errors.now)) size

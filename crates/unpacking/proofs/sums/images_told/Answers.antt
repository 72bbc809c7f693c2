use Rattle.std.proofs.Common.{◌≡◌, ℕ, ◌++◌, map, sym, ◌∙◌, ap, subst, arith, zero-add}
use Rattle.std.specs.List.{flat_map, range_with_len}
use Rattle.texture.specs.Shapes.{IsValid, image_count}
use Rattle.outcomes.proofs.PieceLaws.{pieces-more}
use Rattle.unpacking.specs.declared.unpacked_image.UnpackedImage.{UnpackedImage}
use Rattle.unpacking.specs.Unpacked.{place_in, told_of, level_told, all_told}
use Rattle.unpacking.proofs.ToldLaws.{told-more, told-few}
use Rattle.unpacking.proofs.sums.images_told.Goals as goal

pub loop-image-preserved : goal.loop-image-preserved
loop-image-preserved c =
    told-more (λ image. told_of c.args.ktx.now (place_in c.args.ktx.now c.loop-level.level image)) _
    c.loop-image.told.items _ c.image_told.result c.loop-image.image c.loop-image.invariant
    c.image_told.ensures c.in_ok-push.ensures.items

pub loop-level-preserved : goal.loop-level-preserved
unfolding level_told
loop-level-preserved c =
    let file = c.args.ktx.now in
    let level = c.loop-level.level in
    let told : ℕ → UnpackedImage = λ image. told_of file (place_in file level image) in
    let ended : c.loop-image.image ≡ c.image_count-image-end.result =
    omega (arith, c.loop-image-test.false, c.loop-image.auto.image-end) in
    let all : c.loop-image.image ≡ image_count file.shape = ended
    ∙ c.image_count-image-end.ensures.exact ∙ ap image_count c.layout-layout.ensures in
    c.loop-image.invariant ∙ ap (λ n. flat_map (level_told file) (range_with_len 0 level)
    ++ map told (range_with_len 0 n)) all
    ∙ ap (λ n. flat_map (level_told file) (range_with_len 0 level) ++ level_told file n)
    (sym (zero-add level)) ∙ sym (pieces-more (level_told file) 0 level)

pub returns-clause-told : goal.returns-clause-told
unfolding all_told
returns-clause-told c =
    let ended : c.loop-level.level ≡ c.levels-level-end.result =
    omega (arith, c.loop-level-test.false, c.loop-level.auto.level-end) in
    c.loop-level.invariant ∙ ap (λ n. flat_map (level_told c.args.ktx.now) (range_with_len 0 n))
    (ended ∙ c.levels-level-end.ensures.exact ∙ ap (λ s. s.levels) c.layout-layout.ensures)

pub returns-clause-few : goal.returns-clause-few
unfolding all_told
returns-clause-few c =
    let ended : c.loop-level.level ≡ c.levels-level-end.result =
    omega (arith, c.loop-level-test.false, c.loop-level.auto.level-end) in
    told-few c.args.ktx.now c.loop-level.told.items
    (c.loop-level.invariant ∙ ap (λ n. flat_map (level_told c.args.ktx.now) (range_with_len 0 n))
    (ended ∙ c.levels-level-end.ensures.exact ∙ ap (λ s. s.levels) c.layout-layout.ensures))
    (subst IsValid (c.shape.ensures.same ∙ c.layout-layout.ensures) c.shape.ensures.valid)

-- The report on the images of a range.
use Rattle.std.proofs.Common.{◌≡◌, ℕ, zero, suc, ◌+◌, ◌-◌, ◌*◌, ◌≤◌, max, List, [], ◌∷◌, ◌++◌, length, take, sum, sym, ◌∙◌, ap, arith, append_assoc}
use Rattle.std.specs.List.{flat_map, range_with_len, AllByRecursion}
use Rattle.std.proofs.lemmas.List.{take_all}
use Rattle.std.proofs.lemmas.List.Sums.{sum_by-append}
use Rattle.std.proofs.Math.Seq.{take-add}
use Rattle.astc_model.specs.Sums.{sum_to}
use Rattle.texture.specs.declared.shape.Shape.{Shape}
use Rattle.texture.specs.Shapes.{level_blocks, image_blocks, all_blocks}
use Rattle.texture.specs.Places.{first_block}
use Rattle.packed_levels.specs.declared.sums.PackedImage.{PackedImage}
use Rattle.outcomes.proofs.PieceLaws.{pieces-more}
use Rattle.packed_levels.specs.Reports.{share, share_told, image_told, level_told, range_told}

-- ---- sums

-- the errors up to a block, and the errors of the blocks after it
pub share-next : (start first count : ℕ) (errors : List ℕ)
    → take (first - start) errors ++ share start errors first count
    ≡ take (first + count - start) errors
share-next start first count errors =
    let size : (first - start) + (first + count - max start first) ≡ first + count - start =
    omega arith in
    sym (take-add (first - start) (first + count - max start first) errors)
    ∙ ap (λ n. take n errors) size

pub sum-next : (start first count : ℕ) (errors : List ℕ) → sum (take (first + count - start) errors)
    ≡ sum (take (first - start) errors) + sum (share start errors first count)
sum-next start first count errors = ap sum (sym (share-next start first count errors))
    ∙ sum_by-append (λ x. x) (take (first - start) errors) (share start errors first count)

pub sum-most : (most : ℕ) (errors : List ℕ) → AllByRecursion (λ e. e ≤ most) errors
    → sum errors ≤ length errors * most
sum-most most [] each = omega arith
sum-most most (e ∷ errors) each =
    omega (arith, sum_by-append (λ x. x) (e ∷ []) errors, each.0, sum-most most errors each.1)

pub length-most : {A : Type 0} (n : ℕ) (xs : List A) → length (take n xs) ≤ n
length-most zero xs = omega arith
length-most (suc n) [] = omega arith
length-most (suc n) (x ∷ xs) = omega (arith, length-most n xs)

pieces-next : {A : Type 0} (f : ℕ → List A) (n : ℕ) → flat_map f (range_with_len 0 (n + 1))
    ≡ flat_map f (range_with_len 0 n) ++ f n
pieces-next f n = pieces-more f 0 n ∙ ap (λ k. flat_map f (range_with_len 0 n) ++ f k) (omega arith)

-- ---- one image more

pub told-more : (shape : Shape) (start level image first count : ℕ) (errors own : List ℕ)
    (before old now : List PackedImage) → first ≡ first_block shape level image → count
    ≡ image_blocks shape level
    → own ≡ share start errors first count → old
    ≡ before ++ flat_map (image_told shape start errors level) (range_with_len 0 image)
    → now ≡ old ++ share_told shape level image own → now
    ≡ before ++ flat_map (image_told shape start errors level) (range_with_len 0 (image + 1))
told-more shape start level image first count errors own before old now first_is count_is own_is
    so_far more =
    let f : ℕ → List PackedImage = image_told shape start errors level in
    let one : share_told shape level image own ≡ f image =
    ap (share_told shape level image) (own_is ∙ ap (λ n. share start errors n count) first_is
    ∙ ap (λ n. share start errors (first_block shape level image) n) count_is) in
    more ∙ ap (λ xs. xs ++ share_told shape level image own) so_far
    ∙ ap (λ xs. (before ++ flat_map f (range_with_len 0 image)) ++ xs) one
    ∙ append_assoc before (flat_map f (range_with_len 0 image)) (f image)
    ∙ ap (λ xs. before ++ xs) (sym (pieces-next f image))

pub total-more : (shape : Shape) (start level image first count old now : ℕ) (errors own : List ℕ)
    → first ≡ first_block shape level image → count ≡ image_blocks shape level
    → own ≡ share start errors first count → old
    ≡ sum (take (first_block shape level image - start) errors) → now ≡ old + sum own
    → now ≡ sum (take (first_block shape level (image + 1) - start) errors)
total-more shape start level image first count old now errors own first_is count_is own_is so_far
    more =
    let place : first_block shape level image + image_blocks shape level
    ≡ first_block shape level (image + 1) = omega arith in
    let own_share : own ≡ share start errors (first_block shape level image)
    (image_blocks shape level) = own_is ∙ ap (λ n. share start errors n count) first_is
    ∙ ap (λ n. share start errors (first_block shape level image) n) count_is in
    more ∙ ap (λ n. n + sum own) so_far
    ∙ ap (λ xs. sum (take (first_block shape level image - start) errors) + sum xs) own_share
    ∙ sym (sum-next start (first_block shape level image) (image_blocks shape level) errors)
    ∙ ap (λ n. sum (take (n - start) errors)) place

-- all errors
pub total-all : (shape : Shape) (start : ℕ) (errors : List ℕ) (level : ℕ) → level ≡ shape.levels
    → start + length errors ≤ all_blocks shape
    → sum (take (sum_to (level_blocks shape) level - start) errors) ≡ sum errors
total-all shape start errors level all inside =
    let enough : length errors ≤ sum_to (level_blocks shape) level - start =
    omega (arith, inside, ap (sum_to (level_blocks shape)) all) in
    ap sum (take_all (sum_to (level_blocks shape) level - start) errors enough)

pub total-none : (start : ℕ) (errors : List ℕ) → 0 ≡ sum (take (0 - start) errors)
total-none start errors = let none : 0 - start ≡ 0 = omega arith in
    sym (ap (λ n. sum (take n errors)) none)

pub level-more : (shape : Shape) (start : ℕ) (errors : List ℕ) (level : ℕ)
    (images : List PackedImage) → images ≡ flat_map (level_told shape start errors)
    (range_with_len 0 level)
    → images ++ level_told shape start errors level ≡ flat_map (level_told shape start errors)
    (range_with_len 0 (level + 1))
level-more shape start errors level images are =
    ap (λ xs. xs ++ level_told shape start errors level) are
    ∙ sym (pieces-next (level_told shape start errors) level)

pub range-is : (shape : Shape) (start : ℕ) (errors : List ℕ) (level : ℕ) → level ≡ shape.levels
    → flat_map (level_told shape start errors) (range_with_len 0 level)
    ≡ range_told shape start errors
unfolding range_told
range-is shape start errors level all =
    ap (λ n. flat_map (level_told shape start errors) (range_with_len 0 n)) all

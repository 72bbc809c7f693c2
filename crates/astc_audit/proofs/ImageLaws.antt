-- From the blocks of an image to the findings for a texture.
use Rattle.std.proofs.Common.{◌≡◌, ℕ, zero, suc, ◌+◌, ◌-◌, ◌*◌, ◌/◌, ◌%◌, ◌^◌, ◌<◌, ◌≤◌, List, [], ◌∷◌, ◌++◌, length, take, drop, Option, refl, sym, ◌∙◌, ap, subst, arith, inl, inr, zero-add, mul-le-mul}
use Rattle.std.specs.Prelude.{slice_index_or}
use Rattle.std.proofs.lemmas.Bool.{cases_lt}
use Rattle.std.proofs.lemmas.Nat.{div-add-mod'}
use Rattle.std.proofs.lemmas.List.{get_or-take, get_or-drop, length-take-le, length-drop, length_push, get_or_append_left, get_or_push}
use Rattle.std.proofs.lemmas.List.FromFn.{get_or-map-range_with_len, length-map-range_with_len}
use Rattle.std.proofs.Math.Nat.{le_of_mul-le-mul_left, mul-le-mul_left}
use Rattle.astc_model.specs.Sums.{sum_to}
use Rattle.astc_model.specs.Places.{Texel}
use Rattle.astc_model.specs.Weights.{Weighting}
use Rattle.astc_model.specs.Limits.{most_texels}
use Rattle.astc_model.specs.FootprintNames.{sides_of}
use Rattle.astc_model.specs.Shown.{error_shown}
use Rattle.astc_model.specs.declared.flavour.Flavour.{Flavour}
use Rattle.astc_model.specs.declared.preset.Preset.{Preset}
use Rattle.astc_model.proofs.SumLaws.{sum_to-zero, sum_to-more, sum_to-same}
use Rattle.images.specs.Pictures.{Pictures, source_of}
use Rattle.images.specs.Chains.{chain_of, images_at_level, halved}
use Rattle.texture.specs.declared.shape.Shape.{Shape}
use Rattle.texture.specs.declared.places.ImagePlace.{ImagePlace}
use Rattle.texture.specs.Shapes.{image_count, rows_of, columns_of, image_blocks, level_blocks}
use Rattle.texture.specs.Places.{first_block}
use Rattle.ktx_file.specs.Files.{File}
use Rattle.astc_audit.specs.declared.findings.Findings.{Findings}
use Rattle.astc_audit.specs.declared.gathering.AuditedImage.{AuditedImage}
use Rattle.astc_audit.specs.Counts.{CountsOne, CountsOthers}
use Rattle.astc_audit.specs.Verdicts.{IsGood}
use Rattle.astc_audit.specs.Audits.{AreJudged, HasLevels, block_at, source_at, error_at, IsSettledAt, IsAudited, IsImageAudited, AreAudited}
use Rattle.astc_audit.proofs.CountLaws.{counts-more, counts-same}

-- ---- blocks in rows

module _ (w h : ℕ) (flavour : Flavour) (weights : Weighting) (preset : Preset) (images : Pictures)
    (image columns : ℕ) (blocks : List (List ℕ)) where
  abbrev source : ℕ → List (Option Texel)
  source k = source_of w h images image (k % columns) (k / columns)

  pub judged-none : AreJudged w h flavour weights preset images image columns blocks 0
      (record { blocks = 0; error = 0; bad = 0 })
  judged-none = record { count = refl; error = sym (sum_to-zero _); bad = refl }

  pub judged-more : (n error one : ℕ) (findings more : Findings)
      → AreJudged w h flavour weights preset images image columns blocks n findings
      → error ≡ error_shown w h flavour weights (slice_index_or blocks n []) (source n)
      → CountsOne (IsGood w h flavour weights preset (source n) (slice_index_or blocks n [])) one
      → more.blocks ≡ findings.blocks + 1 → more.error ≡ findings.error + error → more.bad
      ≡ findings.bad + one
      → AreJudged w h flavour weights preset images image columns blocks (n + 1) more
  judged-more n error one findings more so_far error_is bad_is blocks_more error_more bad_more =
      let f : ℕ → ℕ = λ k. error_shown w h flavour weights (slice_index_or blocks k [])
      (source k) in
      let P : ℕ → Type 0 = λ k. IsGood w h flavour weights preset (source k)
      (slice_index_or blocks k []) in
      record {
        count = blocks_more ∙ ap (λ k. k + 1) so_far.count;
        error = error_more ∙ ap (λ e. e + error) so_far.error ∙ ap (λ e. sum_to f n + e) error_is
            ∙ sym (sum_to-more f n);
        bad = subst (CountsOthers P (n + 1)) (sym bad_more)
            (counts-more P n findings.bad one so_far.bad bad_is);
      }

-- ---- the blocks of an image

pub cut-counted : (first count : ℕ) (blocks : List (List ℕ)) → first + count ≤ length blocks
    → length (take (first + count - first) (drop first blocks)) ≡ count
cut-counted first count blocks within =
    let all : first + count - first ≡ count = omega arith in
    rw all (length-take-le count (drop first blocks)
    (omega (arith, length-drop first blocks, within)))

any-place : (base image rows columns q r k : ℕ) → q * columns + r ≡ k
    → base + image * (rows * columns) + k ≡ base + (image * rows + q) * columns + r
any-place base image rows columns q r k is = omega (arith, is)

module _ (file : File) (images : Pictures) (preset : Preset) (weights : Weighting)
    (place : ImagePlace) where
  abbrev columns : ℕ
  columns = columns_of file.shape place.level

  abbrev image : ℕ
  image = place.element * file.shape.faces + place.face

  abbrev first : ℕ
  first = first_block file.shape place.level image

  abbrev count : ℕ
  count = image_blocks file.shape place.level

  abbrev own : List (List ℕ)
  own = take count (drop first file.blocks)

  block_is : (k : ℕ) → k < count → slice_index_or own k [] ≡ block_at file place k
  block_is k below =
      get_or-take count (drop first file.blocks) k [] below ∙ get_or-drop first file.blocks k []
      ∙ ap (λ p. slice_index_or file.blocks p [])
      (any-place (sum_to (level_blocks file.shape) place.level) image
      (rows_of file.shape place.level) columns (k / columns) (k % columns) k
      (div-add-mod' k columns))

  pub image-audited : (w h : ℕ) → sides_of file.shape.name ≡ (w, h) → (findings : Findings)
      → AreJudged w h file.shape.flavour weights preset images image columns own count findings
      → IsAudited file images preset weights place findings
  image-audited _ _ sides findings judged =
      let w : ℕ = (sides_of file.shape.name).0 in
      let h : ℕ = (sides_of file.shape.name).1 in
      let so : AreJudged w h file.shape.flavour weights preset images image columns own count
      findings =
      subst (λ s. AreJudged s.0 s.1 file.shape.flavour weights preset images image columns own count
      findings) (sym sides) judged in
      record {
        blocks = so.count;
        error = so.error ∙ sum_to-same _ (error_at file images weights place) count
            (λ k below. ap (λ bytes. error_shown w h file.shape.flavour weights bytes
            (source_at file images place k)) (block_is k below));
        bad = counts-same _ (IsSettledAt file images preset weights place) count findings.bad
            (λ k below settled. subst (λ bytes. IsGood w h file.shape.flavour weights preset
            (source_at file images place k) bytes) (block_is k below) settled)
            (λ k below settled. subst (λ bytes. IsGood w h file.shape.flavour weights preset
            (source_at file images place k) bytes) (sym (block_is k below)) settled)
            so.bad;
      }

-- ---- images, one after another

pub audited-none : (file : File) (levels : List Pictures) (preset : Preset) (weights : Weighting)
    → AreAudited file levels preset weights 0 []
audited-none file levels preset weights =
    record { count = refl; each = λ i d below. absurd (omega arith) }

pub audited-more : (file : File) (levels : List Pictures) (preset : Preset) (weights : Weighting)
    (n : ℕ) (images : List AuditedImage) (image : AuditedImage)
    → AreAudited file levels preset weights n images
    → IsImageAudited file levels preset weights n image → AreAudited file levels preset weights
    (n + 1) (images ++ image ∷ [])
audited-more file levels preset weights n images image so_far next = record {
  count = length_push images image ∙ ap (λ k. k + 1) so_far.count;
  each = λ i d below. elim (cases_lt i n) [
    | inl before ↦
        let there : i < length images = omega (arith, so_far.count) in
        rw (get_or_append_left images (image ∷ []) d i there) (so_far.each i d before)
    | inr last ↦
        let same : i ≡ n = omega arith in
        rw (same, get_or_push images image d n so_far.count) next
  ];
}

-- the sum of all errors is small
pub error-more : (n error e i most : ℕ) → n * error ≤ i * most → n * e ≤ most
    → n * (error + e) ≤ (i + 1) * most
error-more n error e i most so_far next = omega (arith, so_far, next)

pub error-fits : (n error e i levels most : ℕ) → 1 ≤ n → n * error ≤ i * most → n * e ≤ most
    → i < levels * n → levels ≤ 14 → most ≤ 2 ^ 57 → error + e < 2 ^ 64
error-fits n error e i levels most some so_far next below few small =
    let within : i + 1 ≤ levels * n = omega (arith, below) in
    let same : most ≤ most = omega arith in
    let most_sum : (i + 1) * most ≤ levels * n * most = mul-le-mul within same in
    let all : n * (error + e) ≤ n * (levels * most) =
    omega (arith, error-more n error e i most so_far next, most_sum) in
    let each : error + e ≤ levels * most = le_of_mul-le-mul_left all some in
    let most_of : levels * most ≤ 14 * 2 ^ 57 = mul-le-mul few small in
    omega (arith, each, most_of)

-- the errors of an image are small
pub image-small : (n blocks error : ℕ) → error ≤ blocks * 2 ^ 32 → n * blocks ≤ most_texels
    → n * error ≤ most_texels * 2 ^ 32
image-small n blocks error small few =
    let times : n * error ≤ n * (blocks * 2 ^ 32) = mul-le-mul_left n small in
    omega (arith, times, few)

-- ---- the levels of a chain

level-count : (images : Pictures) (level : ℕ) → (images_at_level images level).count ≡ images.count
unfolding halved
level-count images zero = refl
level-count images (suc level) = level-count images level

pub chain-has : (shape : Shape) (images : Pictures) (levels : List Pictures) (n : ℕ) → levels
    ≡ chain_of images n → n ≡ shape.levels → images.count ≡ image_count shape
    → HasLevels shape levels
unfolding chain_of
chain-has shape images levels n levels_are all counted = record {
  count = ap length levels_are ∙ length-map-range_with_len (images_at_level images) 0 n ∙ all;
  each = λ level d below.
      ap (λ pictures. pictures.count) (ap (λ xs. slice_index_or xs level d) levels_are
      ∙ get_or-map-range_with_len (images_at_level images) 0 n level level d
      (omega (arith, below, all)) (zero-add level))
      ∙ level-count images level ∙ counted;
}

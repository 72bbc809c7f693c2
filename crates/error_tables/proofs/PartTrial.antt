-- The result of a trial of a partition's colour integers is the error of the changed block.
use Rattle.std.proofs.Common.{◌≡◌, ◌/◌, ◌%◌, ℕ, ◌+◌, ◌*◌, ◌<◌, ◌==◌, false, List, length, get_or, refl, ap, sym, arith, None, inl, inr}
use Rattle.std.specs.Prelude.{sum_by}
use Rattle.std.proofs.lemmas.Bool.{and_cases, eqb-false}
use Rattle.astc_model.specs.Sums.{sum_to}
use Rattle.astc_model.specs.Errors.{place_error, error}
use Rattle.astc_model.specs.Partitions.{part_of}
use Rattle.astc_model.specs.CodedTexels.{part_colours, coded_texel}
use Rattle.astc_model.specs.declared.block.Coded.{Coded as CodedFields}
use Rattle.astc_model.specs.declared.block.Block.TheVariants.{Coded}
use Rattle.texel_error.specs.Counting.{is_inside}
use Rattle.texel_error.specs.Shown.{Ends}
use Rattle.texel_error.specs.Shaped.{IsShaped}
use Rattle.texel_error.specs.Decoding.{numerators_at}
use Rattle.texel_error.proofs.ListLaws.{sum_by-same}
use Rattle.texel_error.proofs.TexelLaws.{shown_of-is, part_is}
use Rattle.error_tables.specs.State.{view_of, error_in}
use Rattle.error_tables.specs.Reached.{is_part_inside, IsPartReach}
use Rattle.error_tables.specs.Trials.{error_with, coloured}
use Rattle.error_tables.specs.Kept.{error_at, IsKept}
use Rattle.error_tables.specs.declared.tables.Tables.{Tables}
use Rattle.error_tables.proofs.ReachLaws.{changed_sum}
use Rattle.error_tables.proofs.WeightTrial.{outside}

-- the block with other colour integers
abbrev pub with_colours : CodedFields → List ℕ → CodedFields
with_colours block integers = record block { colours = record { items = integers } }

module _ (w h : ℕ) (tables : Tables) (kept : IsKept w h tables) (q : ℕ) (integers : List ℕ)
    (changed : IsShaped w h (with_colours tables.block integers) tables.mode tables.level)
    (others : (x y : ℕ) → part_of w h tables.block.parts tables.block.seed x y < length
    tables.block.cems → (part_of w h tables.block.parts tables.block.seed x y ≡ q → ⊥)
    → coded_texel w h tables.decoded.flavour (with_colours tables.block integers) x y
    ≡ coded_texel w h tables.decoded.flavour tables.block x y) where
  abbrev part_at : ℕ → ℕ
  part_at p = part_of w h tables.block.parts tables.block.seed (p % w) (p / w)

  abbrev new_ends : Ends
  new_ends = part_colours (with_colours tables.block integers) tables.level q

  -- the error of a place of the part with the new ends
  coloured-part : (p : ℕ) → p < w * h → part_at p ≡ q
      → coloured tables new_ends p ≡ error_at w h tables (with_colours tables.block integers) p
  unfolding coloured error_with
  coloured-part p below own =
      ap (λ texel. place_error tables.weights texel (get_or tables.places.now p None))
      (shown_of-is w h tables.decoded.flavour (with_colours tables.block integers) tables.mode
      tables.level changed (p % w) (p / w)
      tables.decoded.plane new_ends (numerators_at tables.decoded p) kept.is_decoded.plane_is
      (ap (part_colours (with_colours tables.block integers) tables.level) (sym own))
      (λ plane within. kept.is_decoded.numerators_are p plane below within))

  -- the places of other parts
  pub other_part_stays : (p : ℕ) → p < w * h → is_part_inside w h tables.block q tables.places.now p
      ≡ false
      → error_at w h tables (with_colours tables.block integers) p
      ≡ error_at w h tables tables.block p
  other_part_stays p below off =
      elim (and_cases (is_inside tables.places.now p) (part_at p == q) off) [
        | inl out ↦ let none : get_or tables.places.now p None ≡ None =
            outside (get_or tables.places.now p None) out in rw none refl
        | inr other ↦
            let part : part_at p < tables.block.parts =
            part_is w h tables.decoded.flavour tables.block tables.mode tables.level
            kept.is_shaped (p % w) (p / w) in
            let few : part_at p < length tables.block.cems =
            omega (arith, part, kept.is_shaped.four_parts, kept.is_shaped.four_modes) in
            ap (λ texel. place_error tables.weights texel (get_or tables.places.now p None))
            (others (p % w) (p / w) few (eqb-false (part_at p) q other))
      ]

  pub part_result : (reach : List ℕ) (ends : Ends) (less more : ℕ)
      → IsPartReach w h tables.block q tables.places.now reach → ends ≡ new_ends
      → less ≡ sum_by (λ p. get_or tables.errors p 0) reach → more
      ≡ sum_by (λ p. coloured tables ends p) reach
      → error_in w h (view_of tables) (Coded (with_colours tables.block integers)) + less
      ≡ tables.total + more
  unfolding error
  part_result reach ends less more is ends_are less_is more_is =
      let old_at : ℕ → ℕ = error_at w h tables tables.block in
      let new_at : ℕ → ℕ = error_at w h tables (with_colours tables.block integers) in
      let law : sum_to new_at (w * h) + sum_by old_at reach
      ≡ sum_to old_at (w * h) + sum_by new_at reach =
      changed_sum old_at new_at (is_part_inside w h tables.block q tables.places.now)
      (w * h) reach is.are other_part_stays
      in
      let fewer : sum_by old_at reach ≡ sum_by (λ p. get_or tables.errors p 0) reach =
      sum_by-same old_at (λ p. get_or tables.errors p 0) reach
      (λ k d lt. sym (kept.errors_are _ (is.within k d lt)))
      in
      let further : sum_by new_at reach ≡ sum_by (λ p. coloured tables new_ends p) reach =
      sum_by-same new_at (λ p. coloured tables new_ends p) reach
      (λ k d lt. sym (coloured-part _ (is.within k d lt) (is.parts_are k d lt)))
      in
      let all : more ≡ sum_by (λ p. coloured tables new_ends p) reach = rw ends_are at more_is in
      let total : tables.total ≡ sum_to old_at (w * h) = kept.total_is in
      omega (arith, law, fewer, further, all, less_is, total)

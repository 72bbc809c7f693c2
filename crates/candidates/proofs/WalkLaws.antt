-- A walk with the block mode as the outermost loop meets every candidate.
use Rattle.std.proofs.Common.{ℕ, ◌≤◌, List, Option}
use Rattle.std.proofs.lemmas.List.Elements.{All-from_recursion, recursion_from_All}
use Rattle.std.specs.List.{AllByRecursion}
use Rattle.astc_model.specs.Places.{Texel}
use Rattle.astc_model.specs.Weights.{Weighting}
use Rattle.astc_model.specs.declared.flavour.Flavour.{Flavour}
use Rattle.astc_model.specs.declared.preset.Preset.{Preset}
use Rattle.astc_model.specs.Recipes.{with_mode, recipes}
use Rattle.astc_model.specs.Candidates.{candidate}
use Rattle.astc_model.specs.Errors.{error}
use Rattle.recipes.specs.Shapes.{shapes}
use Rattle.recipes.proofs.WalkLaws.{walk_meets_all, all_meets_walk, all-filter_map, filter_map-all}
use Rattle.candidates.specs.Walks.{IsOver, NoneOfWalkUnder, NoCandidateUnder}

module _ (w h : ℕ) (flavour : Flavour) (weights : Weighting) (preset : Preset)
    (places : List (Option Texel)) (limit : ℕ) where
  pub none_listed : NoneOfWalkUnder w h flavour weights preset places limit
      → NoCandidateUnder w h flavour weights preset places limit
  unfolding IsOver
  none_listed each =
      all-filter_map (λ block. limit ≤ error w h flavour weights block places)
      (λ recipe. candidate w h recipe places) (recipes preset)
      (walk_meets_all (IsOver w h flavour weights places limit) preset
      (λ mode small. recursion_from_All (λ shape. IsOver w h flavour weights places limit
      (with_mode mode shape)) (shapes preset) (each mode small)))

  pub none_walked : NoCandidateUnder w h flavour weights preset places limit
      → NoneOfWalkUnder w h flavour weights preset places limit
  unfolding IsOver
  none_walked all =
      let met : AllByRecursion (IsOver w h flavour weights places limit) (recipes preset) =
      filter_map-all (λ block. limit ≤ error w h flavour weights block places)
      (λ recipe. candidate w h recipe places) (recipes preset) all
      in
      λ mode small. All-from_recursion (λ shape. IsOver w h flavour weights places limit
      (with_mode mode shape)) (shapes preset)
      (all_meets_walk (IsOver w h flavour weights places limit) preset met mode small)

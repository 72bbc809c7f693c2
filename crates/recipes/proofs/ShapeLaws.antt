-- The fields of all shapes are in range.
use Rattle.std.proofs.Common.{◌≡◌, ℕ, ◌<◌, Bool, true, false, ◌&&◌, ◌||◌, ◌==◌, not, nat_le, nat_lt, IsTrue, refl, arith, rules}
use Rattle.std.specs.List.{All, list_all}
use Rattle.std.proofs.lemmas.Bool.{and_parts, ltb-true, leb-true, eqb-true}
use Rattle.std.proofs.lemmas.List.Sums.{AllPass-from_list_all}
use Rattle.astc_model.specs.declared.recipe.Recipe.{Recipe}
use Rattle.astc_model.specs.declared.preset.Preset.{Preset}
use Rattle.astc_model.specs.declared.preset.Preset.TheVariants.{Flat, Quick, Medium, Thorough, Pairs}
use Rattle.astc_model.specs.Endpoints.{is_ldr_mode}
use Rattle.astc_model.specs.Recipes.{groups, with_mode, recipes}
use Rattle.std.proofs.lemmas.List.Elements.{All-from_recursion, recursion_from_All}
use Rattle.recipes.proofs.WalkLaws.{walk_meets_all, all-weaker}
use Rattle.recipes.specs.Shapes.{shapes, IsShape, IsRecipe}

abbrev has_no_seed : Recipe → Bool
has_no_seed recipe = not (recipe.parts == 1) || (recipe.seed == 0)

abbrev is_shape : Recipe → Bool
is_shape recipe =
    nat_le recipe.plane 4 && (nat_le 1 recipe.parts
    && (nat_le recipe.parts 4 && (nat_lt recipe.seed 1024
    && (has_no_seed recipe && (nat_lt recipe.flip 8 && is_ldr_mode recipe.cem)))))

unless : (a b : Bool) → IsTrue (not a || b) → a ≡ true → IsTrue b
unless true b passed is = passed
unless false b passed is = absurd (cc)

eqb_same : (n m : ℕ) → n ≡ m → (n == m) ≡ true
eqb_same n m same = search (rules, arith)

shape_is : (recipe : Recipe) → IsTrue (is_shape recipe) → IsShape recipe
shape_is recipe passed =
    let t0 = and_parts (nat_le recipe.plane 4) (nat_le 1 recipe.parts
    && (nat_le recipe.parts 4
    && (nat_lt recipe.seed 1024
    && (has_no_seed recipe && (nat_lt recipe.flip 8 && is_ldr_mode recipe.cem)))))
    passed in
    let t1 = and_parts (nat_le 1 recipe.parts) (nat_le recipe.parts 4
    && (nat_lt recipe.seed 1024
    && (has_no_seed recipe && (nat_lt recipe.flip 8 && is_ldr_mode recipe.cem))))
    t0.1 in
    let t2 = and_parts (nat_le recipe.parts 4) (nat_lt recipe.seed 1024
    && (has_no_seed recipe && (nat_lt recipe.flip 8 && is_ldr_mode recipe.cem))) t1.1 in
    let t3 = and_parts (nat_lt recipe.seed 1024) (has_no_seed recipe
    && (nat_lt recipe.flip 8 && is_ldr_mode recipe.cem)) t2.1 in
    let t4 = and_parts (has_no_seed recipe) (nat_lt recipe.flip 8 && is_ldr_mode recipe.cem) t3.1 in
    let t5 = and_parts (nat_lt recipe.flip 8) (is_ldr_mode recipe.cem) t4.1 in
    record {
      component = leb-true recipe.plane 4 t0.0;
      some_part = leb-true 1 recipe.parts t1.0;
      few_parts = leb-true recipe.parts 4 t2.0;
      seed = ltb-true recipe.seed 1024 t3.0;
      alone = λ one. eqb-true recipe.seed 0 (unless (recipe.parts == 1) (recipe.seed == 0) t4.0
          (eqb_same recipe.parts 1 one));
      flip = ltb-true recipe.flip 8 t5.0;
      ldr = t5.1;
    }

all_pass : (preset : Preset) → list_all is_shape (shapes preset) ≡ true
unfolding groups
all_pass Flat = refl
all_pass Quick = refl
all_pass Medium = refl
all_pass Thorough = refl
all_pass Pairs = refl

pub all_are_shapes : (preset : Preset) → All IsShape (shapes preset)
all_are_shapes preset = λ k d within.
    shape_is _ (AllPass-from_list_all is_shape (shapes preset) (all_pass preset) k d within)

recipe_is : (mode : ℕ) (shape : Recipe) → mode < 2048 → IsShape shape
    → IsRecipe (with_mode mode shape)
recipe_is mode shape small is = record {
  mode = small;
  shape = record {
    component = is.component;
    some_part = is.some_part;
    few_parts = is.few_parts;
    seed = is.seed;
    alone = is.alone;
    flip = is.flip;
    ldr = is.ldr;
  };
}

-- the fields of all recipes of a preset are in range
pub all_are_recipes : (preset : Preset) → All IsRecipe (recipes preset)
all_are_recipes preset =
    All-from_recursion IsRecipe (recipes preset)
    (walk_meets_all IsRecipe preset
    (λ mode small. all-weaker IsShape (λ shape. IsRecipe (with_mode mode shape))
    (λ shape is. recipe_is mode shape small is) (shapes preset)
    (recursion_from_All IsShape (shapes preset) (all_are_shapes preset))))

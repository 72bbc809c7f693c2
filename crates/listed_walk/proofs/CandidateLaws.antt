-- The candidates that a walk meets.
use Rattle.std.proofs.Common.{◌≡◌, ℕ, ◌+◌, ◌*◌, ◌/◌, ◌%◌, ◌<◌, ◌≤◌, IsTrue, Bool, true, false, cond, List, [], get_or, length, map, Option, None, Some, Ok, refl, ap, subst, sym, ◌∙◌, arith}
use Rattle.std.proofs.lemmas.List.{get_or_default}
use Rattle.std.proofs.lemmas.List.FromFn.{get_or-map-range_with_len, length-map-range_with_len}
use Rattle.astc_model.specs.Places.{Texel, channel}
use Rattle.astc_model.specs.Footprints.{is_footprint}
use Rattle.astc_model.specs.Bounds.{part_map}
use Rattle.astc_model.specs.Partitions.{part_of}
use Rattle.astc_model.specs.Modes.{decoded_mode}
use Rattle.astc_model.specs.Shapes.{grid_fault, weight_count, colour_shape}
use Rattle.astc_model.specs.Blocks.{Legal, IsLegalCoded}
use Rattle.astc_model.specs.Candidates.{Ends, no_ends, colours_of, ends_of_part, ends_by_part, has_planes, level_on, recipe_level, cems_of, weights_of, coded_on, coded_of, candidate}
use Rattle.astc_model.specs.CodedTexels.{part_colours, plane_weights}
use Rattle.astc_model.specs.declared.level.Level.{Level}
use Rattle.astc_model.specs.declared.mode.Mode.{Mode}
use Rattle.astc_model.specs.declared.recipe.Recipe.{Recipe}
use Rattle.astc_model.specs.declared.block.Coded.{Coded as CodedFields}
use Rattle.astc_model.specs.declared.block.Block.TheVariants.{Coded}
use Rattle.block_mode.proofs.ShapeLaws.{grid_fault-none}
use Rattle.texel_error.specs.Shaped.{IsShaped}
use Rattle.texel_error.proofs.ShapedLaws.{shaped}
use Rattle.std.specs.Prelude.{◌==◌, slice_index_or}
use Rattle.std.proofs.lemmas.Bool.{eqb-true}
use Rattle.astc_model.specs.Recipes.{with_mode}
use Rattle.recipes.specs.Shapes.{IsShape}
use Rattle.candidates.specs.declared.colours.Palette.{Palette}
use Rattle.candidates.specs.declared.weights.Targets.{Targets}
use Rattle.candidates.specs.Pieces.{IsPalette, AreTargets, grid_places, target_map}
use Rattle.candidates.specs.PointValues.{plane_values}
use Rattle.candidates.proofs.PointLaws.{plane_values-are}
use Rattle.candidates.proofs.LegalLaws.{recipe_level-some, candidate-legal}
use Rattle.candidates.proofs.ColourLaws.{palette-of_mode, part_colours-are}
use Rattle.line_floors.specs.Lines.{HasColours}
use Rattle.texel_error.specs.Drawing.{AreNumeratorsOf, CanDraw, HaveValues, IsDrawnFrom, colours_of_place, group_at}
use Rattle.texel_error.specs.PlaceColours.{AreColoursTo, place_ends}
use Rattle.texel_error.specs.declared.drawn.Outline.{Outline}
use Rattle.texel_error.specs.Goals.{GoalView, error_to}
use Rattle.listed_walk.specs.declared.kinds.ModeEntry.{ModeEntry}
use Rattle.listed_walk.specs.Kinds.{IsEntry, IsModeOf}
use Rattle.listed_walk.specs.Looks.{IsOverAt}
use Rattle.listed_walk.specs.Origins.{AreOriginsTo}
use Rattle.listed_walk.specs.Shared.{IsMapped, planes_of, level_ends}
use Rattle.listed_walk.proofs.KindLaws.{entry_mode}
use Rattle.listed_walk.proofs.LookLaws.{over_of}
use Rattle.listed_walk.proofs.OriginLaws.{group_of_places}

-- ---- the shape of a candidate

taken : (b : Bool) (x : Option Level) (level : Level) → cond b x None ≡ Some level → x ≡ Some level
taken true x level is = is
taken false x level is = absurd (cc)

level_is : (w h : ℕ) (recipe : Recipe) (mode : Mode) (level range : Level)
    → recipe_level w h recipe mode ≡ Some level → grid_fault w h mode ≡ None
    → colour_shape mode recipe.parts 0 (cems_of recipe) ≡ Ok range → range ≡ level
unfolding recipe_level
level_is w h recipe mode level range is none shape =
    let on : level_on recipe mode (grid_fault w h mode) ≡ Some level =
    taken (has_planes recipe mode) (level_on recipe mode (grid_fault w h mode)) level is in
    let level_of : _ = rw (none, shape) at on in
    cc

-- a legal candidate is shaped as its mode and colour level say
pub shaped_candidate : (w h : ℕ) (recipe : Recipe) (mode : Mode) (level : Level)
    (places : List (Option Texel)) (coded : CodedFields) → IsTrue (is_footprint w h)
    → decoded_mode recipe.mode ≡ Some mode → recipe_level w h recipe mode ≡ Some level → coded
    ≡ coded_of w h recipe mode level places → Legal w h (Coded coded)
    → IsShaped w h coded mode level
unfolding coded_on
shaped_candidate w h recipe mode level places coded sides known level_known same legal =
    let row : Mode = legal.0 in
    let range : Level = legal.1 in
    let is : IsLegalCoded w h coded row range = legal.2 in
    let number : coded.mode ≡ recipe.mode = ap (λ c. c.mode) same in
    let parts : coded.parts ≡ recipe.parts = ap (λ c. c.parts) same in
    let selector : coded.selector ≡ 0 = ap (λ c. c.selector) same in
    let cems : coded.cems ≡ cems_of recipe = ap (λ c. c.cems) same in
    let mode_is : row ≡ mode = mode_same number is.mode_known in
    let P : Mode → Type 0 = λ m. IsLegalCoded w h coded m range in
    let own : IsLegalCoded w h coded mode range = subst P mode_is is in
    let S : ℕ → ℕ → List ℕ → Type 0 = λ n k cs. colour_shape mode n k cs ≡ Ok range in
    let shape : S recipe.parts 0 (cems_of recipe) =
    subst (λ cs. S recipe.parts 0 cs) cems (subst (λ k. S recipe.parts k coded.cems) selector
    (subst (λ n. S n coded.selector coded.cems) parts own.no_colour_fault))
    in
    let range_is : range ≡ level =
    level_is w h recipe mode level range level_known own.no_grid_fault shape in
    let Q : Level → Type 0 = λ l. IsLegalCoded w h coded mode l in
    shaped w h coded mode level sides (subst Q range_is own)
  where
    mode_same : coded.mode ≡ recipe.mode → decoded_mode coded.mode ≡ Some legal.0 → legal.0 ≡ mode
    mode_same number is = let there : decoded_mode recipe.mode ≡ Some legal.0 = rw number at is in
        cc

pub parts_same : (w h : ℕ) (recipe : Recipe) (mode : Mode) (level : Level)
    (places : List (Option Texel)) (coded : CodedFields) → coded
    ≡ coded_of w h recipe mode level places
    → (coded.parts ≡ recipe.parts) × (coded.seed ≡ recipe.seed)
unfolding coded_on
parts_same w h recipe mode level places coded same = (ap (λ c. c.parts) same, ap (λ c. c.seed) same)

-- ---- the parts

pub part_at : (w h n seed : ℕ) (parts : List ℕ) (p : ℕ) → parts ≡ part_map w h n seed → p < w * h
    → get_or parts p 0 ≡ part_of w h n seed (p % w) (p / w)
unfolding part_map
part_at w h n seed parts p is below =
    ap (λ map. get_or map p 0) is
    ∙ get_or-map-range_with_len (λ q. part_of w h n seed (q % w) (q / w)) 0 (w * h) p p 0 below
    (omega arith)

-- ---- what candidates of a level share

-- the same targets, said otherwise
pub targets_same : (component some planes : ℕ) (parts map : List ℕ) (slice ends : List Ends)
    (places texels : List (Option Texel)) (n m : ℕ) (targets : Targets)
    → some ≡ planes → parts ≡ map → slice ≡ ends → places ≡ texels → n ≡ m
    → AreTargets component some parts slice places n targets
    → AreTargets component planes map ends texels m targets
targets_same component some planes parts map slice ends places texels n m targets planes_is map_is
    ends_are places_are whole is =
    subst (λ k. AreTargets component k map ends texels m targets) planes_is
    (subst (λ k. AreTargets component some k ends texels m targets) map_is
    (subst (λ k. AreTargets component some parts k texels m targets) ends_are
    (subst (λ k. AreTargets component some parts slice k m targets) places_are
    (subst (λ k. AreTargets component some parts slice places k targets) whole is))))

module _ (w h : ℕ) (shape : Recipe) where
  -- each place has the colours of its partition
  pub part_below : (places : List (Option Texel)) (parts : List ℕ) (palette : Palette)
      (ends : List Ends) (n : ℕ) → IsMapped w h shape parts → IsPalette w h shape places palette
      → ends ≡ palette.ends.items
      → n ≡ w * h → (p : ℕ) → p < n → get_or parts p 0 < length ends
  unfolding ends_by_part
  part_below places parts palette ends n map is same whole p below =
      let count : length ends ≡ shape.parts =
      ap length (same ∙ is.ends)
      ∙ length-map-range_with_len
      (ends_of_part shape palette.level (part_map w h shape.parts shape.seed) places (w * h)) 0
      shape.parts
      in
      rw count (map.within p (omega (arith, below, whole)))

  pub count_ends : (places : List (Option Texel)) (palette : Palette)
      → IsPalette w h shape places palette → length palette.ends.items ≡ shape.parts
  unfolding ends_by_part
  count_ends places palette is =
      ap length is.ends ∙ length-map-range_with_len
      (ends_of_part shape palette.level (part_map w h shape.parts shape.seed) places (w * h)) 0
      shape.parts

  pub few_ends : (places : List (Option Texel)) (palette : Palette) (ends : List Ends)
      → IsShape shape → IsPalette w h shape places palette → ends ≡ palette.ends.items
      → length ends ≤ 4
  unfolding ends_by_part
  few_ends places palette ends own is same =
      let count : length ends ≡ shape.parts =
      ap length (same ∙ is.ends)
      ∙ length-map-range_with_len
      (ends_of_part shape palette.level (part_map w h shape.parts shape.seed) places (w * h)) 0
      shape.parts
      in
      rw count own.few_parts

-- the planes of a mode are those of the shape
planes_by : (b : Bool) (planes : ℕ) → cond b (planes == 1) (planes == 2) ≡ true → planes
    ≡ cond b 1 2
planes_by true planes is = eqb-true planes 1 is
planes_by false planes is = eqb-true planes 2 is

pub shape_with : (number : ℕ) (shape : Recipe) → IsShape shape → IsShape (with_mode number shape)
shape_with number shape s = record {
  component = s.component;
  some_part = s.some_part;
  few_parts = s.few_parts;
  seed = s.seed;
  alone = s.alone;
  flip = s.flip;
  ldr = s.ldr;
}

module _ (w h : ℕ) (goal : GoalView) (shape : Recipe) (entry : ModeEntry) (mode : Mode)
    (palette : Palette) (sides : IsTrue (is_footprint w h)) (fields : IsShape shape)
    (own : IsModeOf w h shape entry mode) (same : entry.level ≡ palette.level)
    (is : IsPalette w h shape goal.places palette) where
  pub fits_palette : recipe_level w h (with_mode entry.number shape) mode ≡ Some palette.level
  fits_palette = own.fits ∙ ap Some same

  pub planes_are : mode.planes ≡ planes_of shape
  planes_are = planes_by (shape.plane == 0) mode.planes
      (recipe_level-some w h (with_mode entry.number shape) mode palette.level fits_palette).planes

  pub no_fault : grid_fault w h mode ≡ None
  no_fault = (recipe_level-some w h (with_mode entry.number shape) mode palette.level
      fits_palette).grid

  pub few_weights : weight_count mode ≤ 64
  few_weights = (grid_fault-none w h mode no_fault).few

  pub its_candidate : candidate w h (with_mode entry.number shape) goal.places
      ≡ Some (Coded (coded_of w h (with_mode entry.number shape) mode palette.level goal.places))
  unfolding candidate
  its_candidate = let known = own.known in let fits = fits_palette in rw (known, fits) refl

  pub legal_of : Legal w h
      (Coded (coded_of w h (with_mode entry.number shape) mode palette.level goal.places))
  legal_of =
      let recipe : Recipe = with_mode entry.number shape in
      candidate-legal w h recipe goal.places
      (Coded (coded_of w h recipe mode palette.level goal.places))
      (record { mode = own.small; shape = shape_with entry.number shape fields }) its_candidate

  pub shaped_of : IsShaped w h
      (coded_of w h (with_mode entry.number shape) mode palette.level goal.places) mode
      palette.level
  shaped_of =
      let recipe : Recipe = with_mode entry.number shape in
      shaped_candidate w h recipe mode palette.level goal.places
      (coded_of w h recipe mode palette.level goal.places) sides own.known fits_palette refl
      legal_of

  -- the colours of the candidate's parts are those of its level
  own_colours : (part : ℕ) → part < shape.parts
      → get_or palette.ends.items part no_ends
      ≡ part_colours (coded_of w h (with_mode entry.number shape) mode palette.level
      goal.places) palette.level part
  own_colours part small =
      let recipe : Recipe = with_mode entry.number shape in
      let of_mode : IsPalette w h recipe goal.places palette =
      palette-of_mode w h entry.number shape goal.places palette is in
      ap (λ ends. slice_index_or ends part no_ends) of_mode.ends
      ∙ part_colours-are w h recipe mode palette.level goal.places
      (coded_of w h recipe mode palette.level goal.places) part refl fields.few_parts fields.ldr
      small

  -- its weights are those of its targets
  weights_are : (coded_of w h (with_mode entry.number shape) mode palette.level
      goal.places).weights.items
      ≡ weights_of w h shape.plane mode (part_map w h shape.parts shape.seed) palette.ends.items
      goal.places
  unfolding coded_on
  weights_are =
      let of_mode : IsPalette w h (with_mode entry.number shape) goal.places palette =
      palette-of_mode w h entry.number shape goal.places palette is in
      ap (λ ends. weights_of w h shape.plane mode (part_map w h shape.parts shape.seed) ends
      goal.places) (sym of_mode.ends)

  -- and so are the values of its points
  pub values_are : (plane : ℕ) → plane < mode.planes → (targets : List ℕ) → targets
      ≡ target_map shape.plane plane (part_map w h shape.parts shape.seed) palette.ends.items
      goal.places (w * h)
      → (grid : List (Option ℕ)) → grid ≡ grid_places w h mode.across mode.down goal.places
      → (values : List ℕ) → values ≡ plane_values mode.level grid targets
      → values ≡ plane_weights
      (coded_of w h (with_mode entry.number shape) mode palette.level goal.places) mode plane
  values_are plane below targets targets_are grid grid_is values values_is =
      let coded : CodedFields =
      coded_of w h (with_mode entry.number shape) mode palette.level goal.places in
      values_is
      ∙ ap (λ g. plane_values mode.level g targets) grid_is
      ∙ ap (plane_values mode.level (grid_places w h mode.across mode.down goal.places)) targets_are
      ∙ plane_values-are w h shape.plane mode (part_map w h shape.parts shape.seed)
      palette.ends.items goal.places coded plane shaped_of.some_plane shaped_of.two_planes below
      weights_are

  -- the colours of a place are those of its part
  place_colours : (parts : List ℕ) → IsMapped w h shape parts → (p : ℕ) → p < w * h
      → place_ends (part_map w h shape.parts shape.seed) palette.ends.items p
      ≡ colours_of_place w h (coded_of w h (with_mode entry.number shape) mode palette.level
      goal.places) palette.level p
  unfolding coded_on
  place_colours parts map p below =
      let own : ℕ = get_or (part_map w h shape.parts shape.seed) p 0 in
      let small : own < shape.parts =
      subst (λ m. get_or m p 0 < shape.parts) map.map (map.within p below) in
      get_or_default palette.ends.items own ([], []) no_ends
      (omega (arith, small, count_ends w h shape goal.places palette is))
      ∙ own_colours own small
      ∙ ap (part_colours (coded_of w h (with_mode entry.number shape) mode palette.level
      goal.places) palette.level) (part_at w h shape.parts shape.seed
      (part_map w h shape.parts shape.seed) p refl below)

  -- the block is drawn so
  pub drawn_from : (outline : Outline) (parts : List ℕ) → IsMapped w h shape parts
      → AreColoursTo (part_map w h shape.parts shape.seed) palette.ends.items (w * h)
      outline.colours.now
      → outline.plane ≡ shape.plane
      → AreNumeratorsOf w h outline outline.first
      (coded_of w h (with_mode entry.number shape) mode palette.level goal.places) mode 0
      → (1 < mode.planes → AreNumeratorsOf w h outline outline.second
      (coded_of w h (with_mode entry.number shape) mode palette.level goal.places) mode 1)
      → IsDrawnFrom w h goal.flavour outline
      (coded_of w h (with_mode entry.number shape) mode palette.level goal.places)
  unfolding coded_on
  drawn_from outline parts map colours plane_is first second = record {
    mode = mode;
    level = palette.level;
    shaped = shaped_of;
    plane = plane_is;
    colours = record {
      first = λ p c below l. colours.first p c below l
          ∙ ap (λ pair. channel c pair.0) (place_colours parts map p below);
      second = λ p c below l. colours.second p c below l
          ∙ ap (λ pair. channel c pair.1) (place_colours parts map p below);
    };
    first = first;
    second = second;
  }

  -- and can be drawn
  pub can_draw : (outline : Outline)
      → AreColoursTo (part_map w h shape.parts shape.seed) palette.ends.items (w * h)
      outline.colours.now
      → (grid : List (Option ℕ))
      → AreOriginsTo w h mode.across mode.down grid ((w * h + 3) / 4) outline.groups.now
      → HaveValues (w * h) outline.first → HaveValues (w * h) outline.second → CanDraw w h outline
  can_draw outline colours grid origins first second = record {
    sides = sides;
    colours = record { first = colours.all_first; second = colours.all_second };
    all_groups = origins.all;
    groups = λ g below. group_of_places (w * h) (group_at outline g)
        (origins.each g (omega arith)).group;
    first = first;
    second = second;
  }

  -- the candidate has the colours of its level
  pub has_colours : HasColours w h shape.plane (part_map w h shape.parts shape.seed)
      palette.ends.items (coded_of w h (with_mode entry.number shape) mode palette.level
      goal.places)
  unfolding coded_on
  has_colours =
      record {
        mode = mode;
        level = palette.level;
        shaped = shaped_of;
        plane = refl;
        map = λ p small. part_at w h shape.parts shape.seed (part_map w h shape.parts shape.seed) p
            refl small;
        colours = own_colours;
      }

-- all colours of a shape's blocks at a level
abbrev pub palette_at : (w h : ℕ) → GoalView → Recipe → Level → Palette
palette_at w h goal shape level = record {
  level = level;
  colours = record {
    items = colours_of shape level (part_map w h shape.parts shape.seed)
        goal.places (w * h);
  };
  ends = record { items = level_ends w h goal shape level };
}

pub palette_at-is : (w h : ℕ) (goal : GoalView) (shape : Recipe) (level : Level)
    → IsPalette w h shape goal.places (palette_at w h goal shape level)
palette_at-is w h goal shape level = record { colours = refl; ends = refl }

-- none of a level's candidates has an error under its floor
pub over_floor : (w h : ℕ) (goal : GoalView) (shape : Recipe) (entry : ModeEntry)
    (palette : Palette) → IsTrue (is_footprint w h) → IsShape shape → IsEntry w h shape entry
    → entry.level ≡ palette.level
    → IsPalette w h shape goal.places palette → (floor limit : ℕ)
    → ((coded : CodedFields) → HasColours w h shape.plane (part_map w h shape.parts shape.seed)
    palette.ends.items coded → floor ≤ error_to w h goal (Coded coded))
    → limit ≤ floor → IsOverAt w h goal shape entry.number limit
over_floor w h goal shape entry palette sides fields is same colours floor limit reaches under =
    let there = entry_mode w h shape entry is in
    let coded : CodedFields =
    coded_of w h (with_mode entry.number shape) there.0 palette.level goal.places in
    let has = has_colours w h goal shape entry there.0 palette sides fields there.1 same colours in
    over_of w h goal shape entry.number (Some (Coded coded)) limit
    (its_candidate w h goal shape entry there.0 palette sides fields there.1 same colours)
    (omega (arith, under, reaches coded has))

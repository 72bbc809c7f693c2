-- The weights that are computed from shared lists are those of the block.
use Rattle.std.proofs.Common.{◌≡◌, ℕ, zero, suc, ◌+◌, ◌*◌, ◌/◌, ◌%◌, ◌<◌, ◌≤◌, nat_lt, Bool, true, false, if◌then◌else◌, List, map, length, Option, None, Some, refl, sym, ap, ◌∙◌, arith}
use Rattle.std.specs.Prelude.{slice_index, slice_index_or}
use Rattle.std.specs.Option.{IfSome}
use Rattle.std.specs.List.{range_with_len, flat_map}
use Rattle.std.specs.List.{All}
use Rattle.std.proofs.lemmas.List.FromFn.{get_or-map-range_with_len, length-map-range_with_len}
use Rattle.astc_model.specs.Places.{Texel}
use Rattle.astc_model.specs.Nearest.{nearest_weight}
use Rattle.astc_model.specs.declared.level.Level.{Level}
use Rattle.astc_model.specs.declared.mode.Mode.{Mode}
use Rattle.astc_model.specs.Shapes.{weight_count}
use Rattle.astc_model.specs.Targets.{nearer_if, nearest_inside, place_of_point}
use Rattle.astc_model.specs.declared.bounds.Box8.{Box8}
use Rattle.astc_model.specs.declared.recipe.Recipe.{Recipe}
use Rattle.astc_model.specs.declared.block.Coded.{Coded as CodedFields}
use Rattle.astc_model.specs.Bounds.{bounds_of, part_map}
use Rattle.astc_model.specs.Candidates.{Ends, no_ends, weight_of, weight_at, weight, weights_of, coded_on, integers_of, integers_by_part, ends_of, ends_of_part, ends_by_part, colours_of, coded_of, recipe_level, candidate}
use Rattle.astc_model.specs.Modes.{decoded_mode}
use Rattle.astc_model.specs.declared.block.Block.TheVariants.{Coded}
use Rattle.candidates.specs.declared.colours.Palette.{Palette}
use Rattle.candidates.specs.Pieces.{assembled, IsPalette, no_bounds, bounds_by_part, integers_from, ends_of_part_from, colours_from, ends_from, grid_places, texel_target, place_target, target_map, point_target, of_plane, weight_from, weights_from}
use Rattle.candidates.proofs.LoopLaws.{point_below}

-- ---- the place of a grid point is a place of the block

either_within : (p q n : ℕ) (b : Bool) → p < n → q < n → IfSome (if b then Some p else Some q)
    (λ q. q < n)
either_within p q n true h k = h
either_within p q n false h k = k

nearer_within : (far : ℕ → ℕ) (p n : ℕ) (place : Option Texel) (best : Option ℕ) → p < n
    → IfSome best (λ q. q < n) → IfSome (nearer_if far p place best) (λ q. q < n)
nearer_within far p n None best below within = within
nearer_within far p n (Some texel) None below within = below
nearer_within far p n (Some texel) (Some q) below within =
    either_within p q n (nat_lt (far p) (far q)) below within

inside_within : (far : ℕ → ℕ) (places : List (Option Texel)) (n m : ℕ) → n ≤ m
    → IfSome (nearest_inside far places n) (λ q. q < m)
unfolding nearest_inside
inside_within far places zero m h = tt
inside_within far places (suc p) m h = nearer_within far p m (slice_index_or places p None)
    (nearest_inside far places p) (omega arith) (inside_within far places p m (omega arith))

pub place_within : (w h n m : ℕ) (places : List (Option Texel)) (k : ℕ)
    → IfSome (place_of_point w h n m places k) (λ p. p < w * h)
unfolding place_of_point
place_within w h n m places k = inside_within _ places (w * h) (w * h) (omega arith)

-- ---- one weight

by_texel : (component : ℕ) (level : Level) (plane : ℕ) (texel : Option Texel) (ends : Ends)
    → nearest_weight level (texel_target component plane texel ends)
    ≡ weight_of component level plane texel ends
unfolding weight_of
by_texel component level plane None ends = refl
by_texel component level plane (Some q) ends = refl

at_map : (component plane : ℕ) (parts : List ℕ) (ends : List Ends) (places : List (Option Texel))
    (n p : ℕ) → p < n → slice_index (target_map component plane parts ends places n) p
    ≡ place_target component plane parts ends places p
unfolding target_map
at_map component plane parts ends places n p below =
    get_or-map-range_with_len (place_target component plane parts ends places) 0 n p p 0 below
    (omega arith)

pub by_place : (component : ℕ) (level : Level) (plane : ℕ) (parts : List ℕ) (ends : List Ends)
    (places : List (Option Texel)) (n : ℕ) (place : Option ℕ) → IfSome place (λ p. p < n)
    → nearest_weight level (point_target (target_map component plane parts ends places n) place)
    ≡ weight_at component level parts ends places plane place
unfolding place_target
by_place component level plane parts ends places n None within = refl
by_place component level plane parts ends places n (Some p) within =
    ap (nearest_weight level) (at_map component plane parts ends places n p within)
    ∙ by_texel component level plane (slice_index_or places p None)
    (slice_index_or ends (slice_index parts p) no_ends)

-- the list of a plane is the first or the second of two lists
by_plane : (f : ℕ → List ℕ) (plane : ℕ) → plane < 2 → of_plane plane (f 0) (f 1) ≡ f plane
by_plane f zero small = refl
by_plane f (suc zero) small = refl
by_plane f (suc (suc plane)) small = absurd (omega arith)

pub weight_from-is : (w h component : ℕ) (mode : Mode) (parts : List ℕ) (ends : List Ends)
    (places : List (Option Texel)) (at : ℕ) → at / mode.planes < mode.across * mode.down
    → at % mode.planes < 2
    → weight_from mode.level mode.planes (grid_places w h mode.across mode.down places)
    (target_map component 0 parts ends places (w * h))
    (target_map component 1 parts ends places (w * h)) at ≡ weight w h component mode parts ends
    places at
unfolding weight_from weight grid_places
weight_from-is w h component mode parts ends places at point plane =
    let k = at / mode.planes in
    let lists = by_plane (λ plane. target_map component plane parts ends places (w * h))
    (at % mode.planes) plane in
    let place = get_or-map-range_with_len (place_of_point w h mode.across mode.down places) 0
    (mode.across * mode.down) k k None point (omega arith) in
    ap (λ targets. nearest_weight mode.level
    (point_target targets (slice_index_or
    (map (place_of_point w h mode.across mode.down places)
    (range_with_len 0 (mode.across * mode.down))) k None))) lists
    ∙ ap (λ o. nearest_weight mode.level
    (point_target (target_map component (at % mode.planes) parts ends places (w * h)) o))
    place
    ∙ by_place component mode.level (at % mode.planes) parts ends places (w * h)
    (place_of_point w h mode.across mode.down places k)
    (place_within w h mode.across mode.down places k)

-- ---- all weights

pub map_same : (f g : ℕ → ℕ) (a n : ℕ) → ((k : ℕ) → a ≤ k → k < a + n → f k ≡ g k)
    → map f (range_with_len a n) ≡ map g (range_with_len a n)
map_same f g a zero same = refl
map_same f g a (suc n) same =
    let here : f a ≡ g a = same a (omega arith) (omega arith) in
    let rest : map f (range_with_len (a + 1) n) ≡ map g (range_with_len (a + 1) n) =
    map_same f g (a + 1) n (λ k low high. same k (omega arith) (omega arith)) in
    cc

pub weights_from-is : (w h component : ℕ) (mode : Mode) (parts : List ℕ) (ends : List Ends)
    (places : List (Option Texel)) → 1 ≤ mode.planes → mode.planes ≤ 2
    → weights_from mode.level mode.planes (weight_count mode)
    (grid_places w h mode.across mode.down places)
    (target_map component 0 parts ends places (w * h))
    (target_map component 1 parts ends places (w * h))
    ≡ weights_of w h component mode parts ends places
unfolding weights_from weights_of
weights_from-is w h component mode parts ends places some few =
    map_same (weight_from mode.level mode.planes (grid_places w h mode.across mode.down places)
    (target_map component 0 parts ends places (w * h))
    (target_map component 1 parts ends places (w * h)))
    (weight w h component mode parts ends places) 0 (weight_count mode)
    (λ at low below. weight_from-is w h component mode parts ends
    places at (point_below at mode.planes (mode.across * mode.down) some (omega arith))
    (omega arith))

-- ---- with one plane, the second list is not read

weight_of_one : (level : Level) (grid : List (Option ℕ)) (first second other : List ℕ) (at : ℕ)
    → weight_from level 1 grid first second at ≡ weight_from level 1 grid first other at
unfolding weight_from
weight_of_one level grid first second other at = let whole : at % 1 ≡ 0 = omega arith in
    rw whole refl

pub weights_of_planes : (level : Level) (planes count : ℕ) (grid : List (Option ℕ))
    (first second other : List ℕ) → 1 ≤ planes → planes ≤ 2 → (planes ≡ 2 → second ≡ other)
    → weights_from level planes count grid first second
    ≡ weights_from level planes count grid first other
unfolding weights_from
weights_of_planes level zero count grid first second other some few same = absurd (omega arith)
weights_of_planes level (suc zero) count grid first second other some few same =
    map_same (weight_from level 1 grid first second) (weight_from level 1 grid first other) 0 count
    (λ at low below. weight_of_one level grid first second other at)
weights_of_planes level (suc (suc zero)) count grid first second other some few same =
    ap (λ targets. map (weight_from level 2 grid first targets) (range_with_len 0 count))
    (same refl)
weights_of_planes level (suc (suc (suc n))) count grid first second other some few same =
    absurd (omega arith)

-- ---- colours from the bounds of the partitions

pub integers_from-is : (recipe : Recipe) (level : Level) (bounds : List Box8) (part i : ℕ)
    (integers : List ℕ) → i ≡ part → integers
    ≡ integers_of recipe level (slice_index_or bounds i no_bounds) → integers
    ≡ integers_from recipe level bounds part
unfolding integers_from
integers_from-is recipe level bounds part i integers place same = same
    ∙ ap (λ k. integers_of recipe level (slice_index_or bounds k no_bounds)) place

pub ends_of_part_from-is : (recipe : Recipe) (level : Level) (bounds : List Box8) (part : ℕ)
    (slice integers : List ℕ) (ends : Ends) → slice ≡ integers → integers
    ≡ integers_from recipe level bounds part → ends ≡ ends_of recipe.cem level slice
    → ends ≡ ends_of_part_from recipe level bounds part
unfolding ends_of_part_from
ends_of_part_from-is recipe level bounds part slice integers ends a b c = c
    ∙ ap (ends_of recipe.cem level) (a ∙ b)

flat_map_same : (f g : ℕ → List ℕ) (a n : ℕ) → ((k : ℕ) → a ≤ k → k < a + n → f k ≡ g k)
    → flat_map f (range_with_len a n) ≡ flat_map g (range_with_len a n)
flat_map_same f g a zero same = refl
flat_map_same f g a (suc n) same =
    let here : f a ≡ g a = same a (omega arith) (omega arith) in
    let rest : flat_map f (range_with_len (a + 1) n) ≡ flat_map g (range_with_len (a + 1) n) =
    flat_map_same f g (a + 1) n (λ k low high. same k (omega arith) (omega arith)) in
    cc

ends_same : (f g : ℕ → Ends) (a n : ℕ) → ((k : ℕ) → a ≤ k → k < a + n → f k ≡ g k)
    → map f (range_with_len a n) ≡ map g (range_with_len a n)
ends_same f g a zero same = refl
ends_same f g a (suc n) same =
    let here : f a ≡ g a = same a (omega arith) (omega arith) in
    let rest : map f (range_with_len (a + 1) n) ≡ map g (range_with_len (a + 1) n) =
    ends_same f g (a + 1) n (λ k low high. same k (omega arith) (omega arith)) in
    cc

module _ (recipe : Recipe) (level : Level) (parts : List ℕ) (places : List (Option Texel))
    (n : ℕ) where
  integers_same : (part : ℕ) → part < recipe.parts
      → integers_from recipe level (bounds_by_part parts recipe.parts places n) part
      ≡ integers_by_part recipe level parts places n part
  unfolding integers_from integers_by_part bounds_by_part
  integers_same part below =
      ap (integers_of recipe level)
      (get_or-map-range_with_len (λ p. bounds_of parts p places n) 0 recipe.parts part part
      no_bounds below (omega arith))

  pub colours_from-is : colours_from recipe level (bounds_by_part parts recipe.parts places n)
      ≡ colours_of recipe level parts places n
  unfolding colours_from colours_of
  colours_from-is = flat_map_same
      (integers_from recipe level (bounds_by_part parts recipe.parts places n))
      (integers_by_part recipe level parts places n) 0 recipe.parts
      (λ part low below. integers_same part (omega arith))

  pub ends_from-is : ends_from recipe level (bounds_by_part parts recipe.parts places n)
      ≡ ends_by_part recipe level parts places n
  unfolding ends_from ends_by_part ends_of_part_from ends_of_part
  ends_from-is = ends_same
      (ends_of_part_from recipe level (bounds_by_part parts recipe.parts places n))
      (ends_of_part recipe level parts places n) 0 recipe.parts
      (λ part low below. ap (ends_of recipe.cem level) (integers_same part (omega arith)))

-- ---- the places of a grid

pub length-grid_places : (w h n m : ℕ) (places : List (Option Texel))
    → length (grid_places w h n m places) ≡ n * m
unfolding grid_places
length-grid_places w h n m places = length-map-range_with_len (place_of_point w h n m places) 0
    (n * m)

pub grid_within : (w h n m limit : ℕ) (places : List (Option Texel)) → limit ≡ w * h
    → All (λ place. IfSome place (λ p. p < limit)) (grid_places w h n m places)
unfolding grid_places
grid_within w h n m limit places same = λ k d within.
    let below : k < n * m =
    omega (arith, length-map-range_with_len (place_of_point w h n m places) 0 (n * m)) in
    rw (
      same,
      get_or-map-range_with_len (place_of_point w h n m places) 0 (n * m) k k d below
          (omega arith),
    ) (place_within w h n m places k)

-- all weight integers, from the places of the grid points and the targets of the planes
pub weights_are : (w h component : ℕ) (mode : Mode) (parts : List ℕ) (ends : List Ends)
    (places : List (Option Texel)) (grid : List (Option ℕ)) (first second weights : List ℕ)
    (count : ℕ)
    → 1 ≤ mode.planes → mode.planes ≤ 2 → grid ≡ grid_places w h mode.across mode.down places
    → count ≡ weight_count mode
    → first ≡ target_map component 0 parts ends places (w * h)
    → (mode.planes ≡ 2 → second ≡ target_map component 1 parts ends places (w * h))
    → weights ≡ weights_from mode.level mode.planes count grid first second → weights
    ≡ weights_of w h component mode parts ends places
weights_are w h component mode parts ends places grid first second weights count some few grid_is
    count_is first_is second_is weights_is =
    weights_is
    ∙ ap (λ n. weights_from mode.level mode.planes n grid first second) count_is
    ∙ ap (λ g. weights_from mode.level mode.planes (weight_count mode) g first second) grid_is
    ∙ ap (λ targets. weights_from mode.level mode.planes (weight_count mode)
    (grid_places w h mode.across mode.down places) targets second) first_is
    ∙ weights_of_planes mode.level mode.planes (weight_count mode)
    (grid_places w h mode.across mode.down places)
    (target_map component 0 parts ends places (w * h)) second
    (target_map component 1 parts ends places (w * h)) some few second_is
    ∙ weights_from-is w h component mode parts ends places some few

-- the block that is computed from its pieces
pub coded_on-from : (w h : ℕ) (recipe : Recipe) (mode : Mode) (level : Level) (parts : List ℕ)
    (places : List (Option Texel)) (n : ℕ) (bounds : List Box8) (colours : List ℕ)
    (ends : List Ends) (coded : CodedFields)
    → n ≡ w * h → bounds ≡ bounds_by_part parts recipe.parts places n → colours
    ≡ colours_from recipe level bounds → ends ≡ ends_from recipe level bounds
    → coded ≡ assembled recipe colours (weights_of w h recipe.plane mode parts ends places) → coded
    ≡ coded_on w h recipe mode level parts places
unfolding coded_on
coded_on-from w h recipe mode level parts places n bounds colours ends coded n_is bounds_is
    colours_is ends_is coded_is =
    let all_bounds : bounds ≡ bounds_by_part parts recipe.parts places (w * h) = bounds_is
    ∙ ap (bounds_by_part parts recipe.parts places) n_is in
    let all_colours : colours ≡ colours_of recipe level parts places (w * h) = colours_is
    ∙ ap (colours_from recipe level) all_bounds ∙ colours_from-is recipe level parts places
    (w * h) in
    let all_ends : ends ≡ ends_by_part recipe level parts places (w * h) = ends_is
    ∙ ap (ends_from recipe level) all_bounds ∙ ends_from-is recipe level parts places (w * h) in
    coded_is
    ∙ ap (λ cs. assembled recipe cs (weights_of w h recipe.plane mode parts ends places))
    all_colours
    ∙ ap (λ es. assembled recipe (colours_of recipe level parts places (w * h))
    (weights_of w h recipe.plane mode parts es places)) all_ends

-- the block with these colours and weights is the candidate of the recipe
module _ (w h : ℕ) (recipe : Recipe) (mode : Mode) (places : List (Option Texel))
    (palette : Palette) (colours weights : List ℕ) (coded : CodedFields)
    (is : IsPalette w h recipe places palette)
    (colours_are : colours ≡ palette.colours.items) (weights_are_its : weights
    ≡ weights_of w h recipe.plane mode (part_map w h recipe.parts recipe.seed)
    palette.ends.items places)
    (coded_is : coded ≡ assembled recipe colours weights) where
  pub coded_of-from : coded ≡ coded_of w h recipe mode palette.level places
  unfolding coded_on
  coded_of-from =
      let map : List ℕ = part_map w h recipe.parts recipe.seed in
      coded_is
      ∙ ap (λ cs. assembled recipe cs weights) (colours_are ∙ is.colours)
      ∙ ap (λ ws. assembled recipe (colours_of recipe palette.level map places (w * h)) ws)
      (weights_are_its ∙ ap (λ es. weights_of w h recipe.plane mode map es places) is.ends)

  pub candidate-from : decoded_mode recipe.mode ≡ Some mode → recipe_level w h recipe mode
      ≡ Some palette.level → candidate w h recipe places ≡ Some (Coded coded)
  unfolding candidate
  candidate-from known level = rw (known, level) (ap (λ c. Some (Coded c)) (sym coded_of-from))

-- Footprints by their sides.
use Rattle.std.proofs.Common.{◌≡◌, ℕ, ◌==◌, ◌&&◌, ◌||◌, List, [], ◌∷◌, Bool, true, false, cond, IsTrue, Option, Some, None, refl, sym, ◌∙◌, ap}
use Rattle.std.specs.Prelude.{find, ◌↔◌, is_some, IsSome, IfSome}
use Rattle.std.specs.List.{list_any}
use Rattle.astc_model.specs.Footprints.{is_footprint}
use Rattle.astc_model.specs.FootprintNames.{sides_of}
use Rattle.astc_model.specs.declared.footprint_name.FootprintName.{FootprintName}
use Rattle.astc_model.specs.declared.footprint_name.FootprintName.TheVariants.{F4x4, F5x4, F5x5, F6x5, F6x6, F8x5, F8x6, F8x8, F10x5, F10x6, F10x8, F10x10, F12x10, F12x12}
use Rattle.ktx_header.specs.Footprints.{footprint_names}
use Rattle.astc_file.specs.Headers.{footprint_at}

-- each footprint is found by its sides
pub footprint_at-sides : (name : FootprintName) → footprint_at (sides_of name).0 (sides_of name).1
    ≡ Some name
unfolding footprint_at
footprint_at-sides F4x4 = refl
footprint_at-sides F5x4 = refl
footprint_at-sides F5x5 = refl
footprint_at-sides F6x5 = refl
footprint_at-sides F6x6 = refl
footprint_at-sides F8x5 = refl
footprint_at-sides F8x6 = refl
footprint_at-sides F8x8 = refl
footprint_at-sides F10x5 = refl
footprint_at-sides F10x6 = refl
footprint_at-sides F10x8 = refl
footprint_at-sides F10x10 = refl
footprint_at-sides F12x10 = refl
footprint_at-sides F12x12 = refl

first_or_later : {X : Type 0} (first : Bool) (x : X) (later : Option X) (any : Bool) → is_some later
    ≡ any → is_some (cond first (Some x) later) ≡ (first || any)
first_or_later true x later any e = refl
first_or_later false x later any e = e

-- something is found exactly if something passes
is_some-find : {X : Type 0} (p : X → Bool) (xs : List X) → is_some (find p xs) ≡ list_any p xs
is_some-find p [] = refl
is_some-find p (x ∷ xs) = first_or_later (p x) x (find p xs) (list_any p xs) (is_some-find p xs)

-- a footprint is found exactly if the sides are those of one
found_where_listed : (width height : ℕ) → is_some (footprint_at width height)
    ≡ is_footprint width height
unfolding footprint_at
found_where_listed width height = is_some-find (λ name. (sides_of name).0 == width
    && (sides_of name).1 == height) footprint_names

none_where : (found : Option FootprintName) (test : Bool) → is_some found ≡ test → (IsTrue test → ⊥)
    → found ≡ None
none_where None test e none = refl
none_where (Some name) test e none = absurd (none (sym e))

-- the answer to the question which footprint has these sides
pub footprint_of : (found : Option FootprintName) (width height : ℕ)
    → (IsSome found ↔ IsTrue (is_footprint width height))
    → IfSome found (λ name. sides_of name ≡ (width, height))
    → footprint_at width height ≡ found
footprint_of None width height known same =
    none_where (footprint_at width height) (is_footprint width height)
    (found_where_listed width height) (λ listed. let some = known.1 listed in (cc))
footprint_of (Some name) width height known same =
    ap (λ (sides : ℕ × ℕ). footprint_at sides.0 sides.1) (sym same) ∙ footprint_at-sides name

-- Laws of the lists of an ask.
use Rattle.std.proofs.Common.{◌≡◌, ℕ, suc, zero, ◌<◌, ◌≤◌, Bool, List, length, map, get_or, Option, refl, ◌∙◌, ap, arith, inl, inr, sym}
use Rattle.std.specs.List.{range_with_len}
use Rattle.std.proofs.lemmas.List.{get_or_past}
use Rattle.std.proofs.lemmas.List.FromFn.{fill_by_all}
use Rattle.std.proofs.lemmas.Bool.{cases_lt}
use Rattle.std.specs.Prelude.{replicate}
use Rattle.astc_model.specs.Places.{Texel}
use Rattle.astc_model.specs.FootprintNames.{sides_of}
use Rattle.astc_model.specs.declared.footprint_name.FootprintName.{FootprintName}
use Rattle.astc_model.specs.declared.footprint_name.FootprintName.TheVariants.{F4x4, F5x4, F5x5, F6x5, F6x6, F8x5, F8x6, F8x8, F10x5, F10x6, F10x8, F10x10, F12x10, F12x12}
use Rattle.astc_model.specs.declared.flavour.Flavour.{Flavour}
use Rattle.astc_model.specs.declared.preset.Preset.{Preset}
use Rattle.adviser_pool.specs.declared.ask.Ask.{Ask}
use Rattle.adviser_pool.specs.Asks.{name_of, entries, inside_at, texel_at, ask_about}

pub replicate_at : {A : Type 0} (n k : ℕ) (d : A) → get_or (replicate n d) k d ≡ d
replicate_at zero k d = refl
replicate_at (suc n) zero d = refl
replicate_at (suc n) (suc k) d = replicate_at n k d

-- what was written at the places and is zero past them
pub filled_to : {A B : Type 0} (f : A → B) (out : A) (d : B) (places : List A) (xs : List B)
    (n p : ℕ) → length xs ≡ n → length places ≤ p → f out ≡ d
    → ((k : ℕ) → k < p → get_or xs k d ≡ f (get_or places k out))
    → ((k : ℕ) → p ≤ k → get_or xs k d ≡ d) → xs ≡ map (λ k. f (get_or places k out))
    (range_with_len 0 n)
filled_to f out d places xs n p count all zero_is done rest =
    fill_by_all (λ k. f (get_or places k out)) xs n d count (λ k below. elim (cases_lt k p) [
      | inl in_front ↦ done k in_front
      | inr behind ↦ rest k (omega arith) ∙ sym (ap f (get_or_past places k out (omega arith))
          ∙ zero_is)
    ])

-- the footprint of a name's sides
name_of-sides : (name : FootprintName) → name_of (sides_of name).0 (sides_of name).1 ≡ name
unfolding name_of
name_of-sides F4x4 = refl
name_of-sides F5x4 = refl
name_of-sides F5x5 = refl
name_of-sides F6x5 = refl
name_of-sides F6x6 = refl
name_of-sides F8x5 = refl
name_of-sides F8x6 = refl
name_of-sides F8x8 = refl
name_of-sides F10x5 = refl
name_of-sides F10x6 = refl
name_of-sides F10x8 = refl
name_of-sides F10x10 = refl
name_of-sides F12x10 = refl
name_of-sides F12x12 = refl

pub name_of-is : (name : FootprintName) (w h : ℕ) → sides_of name ≡ (w, h) → name ≡ name_of w h
name_of-is name w h is =
    sym (name_of-sides name) ∙ ap (λ sides. name_of sides.0 (sides_of name).1) is
    ∙ ap (λ sides. name_of w sides.1) is

pub ask_is : (name : FootprintName) (w h : ℕ) (preset : Preset) (flavour : Flavour)
    (weights given : List ℕ) (places : List (Option Texel)) (inside : List Bool)
    (texels : List (List ℕ)) → sides_of name ≡ (w, h) → given ≡ weights
    → inside ≡ entries (inside_at places) → texels ≡ entries (texel_at places)
    → ◌≡◌ {A = Ask} (record {
      name = name;
      preset = preset;
      flavour = flavour;
      weights = given;
      inside = inside;
      texels = texels;
    }) (ask_about w h preset flavour weights places)
unfolding ask_about
ask_is name w h preset flavour weights given places inside texels sides weights_are inside_is
    texels_is = rw (name_of-is name w h sides, weights_are, inside_is, texels_is) refl

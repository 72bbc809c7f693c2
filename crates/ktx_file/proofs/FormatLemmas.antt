-- Formats by their numbers.
use Rattle.std.proofs.Common.{◌≡◌, ℕ, ◌⊎◌, List, [], ◌∷◌, Bool, true, false, cond, Option, Some, None, refl, sym, ◌∙◌, ap, inl, inr}
use Rattle.std.specs.Prelude.{find, ◌==◌}
use Rattle.std.proofs.lemmas.Bool.{eqb-true}
use Rattle.astc_model.specs.FootprintNames.{gl_of}
use Rattle.astc_model.specs.declared.flavour.Flavour.{Flavour}
use Rattle.astc_model.specs.declared.flavour.Flavour.TheVariants.{Linear, Srgb}
use Rattle.astc_model.specs.declared.footprint_name.FootprintName.{FootprintName}
use Rattle.astc_model.specs.declared.footprint_name.FootprintName.TheVariants.{F4x4, F5x4, F5x5, F6x5, F6x6, F8x5, F8x6, F8x8, F10x5, F10x6, F10x8, F10x10, F12x10, F12x12}
use Rattle.ktx_file.specs.Headers.{format_at, formats}

-- each format is found by its number
pub format_at-gl : (name : FootprintName) (flavour : Flavour) → format_at (gl_of name flavour)
    ≡ Some (name, flavour)
unfolding format_at
format_at-gl F4x4 Linear = refl
format_at-gl F5x4 Linear = refl
format_at-gl F5x5 Linear = refl
format_at-gl F6x5 Linear = refl
format_at-gl F6x6 Linear = refl
format_at-gl F8x5 Linear = refl
format_at-gl F8x6 Linear = refl
format_at-gl F8x8 Linear = refl
format_at-gl F10x5 Linear = refl
format_at-gl F10x6 Linear = refl
format_at-gl F10x8 Linear = refl
format_at-gl F10x10 Linear = refl
format_at-gl F12x10 Linear = refl
format_at-gl F12x12 Linear = refl
format_at-gl F4x4 Srgb = refl
format_at-gl F5x4 Srgb = refl
format_at-gl F5x5 Srgb = refl
format_at-gl F6x5 Srgb = refl
format_at-gl F6x6 Srgb = refl
format_at-gl F8x5 Srgb = refl
format_at-gl F8x6 Srgb = refl
format_at-gl F8x8 Srgb = refl
format_at-gl F10x5 Srgb = refl
format_at-gl F10x6 Srgb = refl
format_at-gl F10x8 Srgb = refl
format_at-gl F10x10 Srgb = refl
format_at-gl F12x10 Srgb = refl
format_at-gl F12x12 Srgb = refl

pub format_found : (format : FootprintName × Flavour) (n : ℕ) → gl_of format.0 format.1 ≡ n
    → format_at n ≡ Some format
format_found (name, flavour) n e = ap format_at (sym e) ∙ format_at-gl name flavour

picked : {X : Type 0} (b : Bool) (y x : X) (rest : Option X) → cond b (Some y) rest ≡ Some x
    → ((b ≡ true) × (y ≡ x)) ⊎ (rest ≡ Some x)
picked true y x rest e = inl (refl, (cc))
picked false y x rest e = inr e

-- what `find` gives passes
find_passes : {X : Type 0} (p : X → Bool) (xs : List X) (x : X) → find p xs ≡ Some x → p x ≡ true
find_passes p [] x e = absurd (cc)
find_passes p (y ∷ ys) x e =
    elim (picked (p y) y x (find p ys) e) [
      | inl is ↦ rw (← is.1) is.0
      | inr later ↦ find_passes p ys x later
    ]

none_from : (o : Option (FootprintName × Flavour)) (n : ℕ) → format_at n ≡ o
    → ((name : FootprintName) (flavour : Flavour) → gl_of name flavour ≡ n → ⊥) → format_at n ≡ None
unfolding format_at
none_from None n e none = e
none_from (Some (name, flavour)) n e none =
    absurd (none name flavour
    (eqb-true (gl_of name flavour) n
    (find_passes (λ (format : FootprintName × Flavour). gl_of format.0 format.1 == n)
    formats (name, flavour) e)))

pub format_none : (n : ℕ) → ((name : FootprintName) (flavour : Flavour) → gl_of name flavour ≡ n
    → ⊥) → format_at n ≡ None
format_none n none = none_from (format_at n) n refl none

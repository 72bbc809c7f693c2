-- Formats by their numbers.
use Rattle.std.proofs.Common.{◌≡◌, ℕ, ◌==◌, List, [], ◌∷◌, Bool, true, false, cond, IsTrue, Option, Some, None, refl, sym, ◌∙◌, ap}
use Rattle.std.proofs.lemmas.Bool.{eqb-true}
use Rattle.std.specs.Prelude.{find, IfSome, IfNone}
use Rattle.astc_model.specs.FootprintNames.{gl_of}
use Rattle.astc_model.specs.declared.flavour.Flavour.{Flavour}
use Rattle.astc_model.specs.declared.flavour.Flavour.TheVariants.{Linear, Srgb}
use Rattle.astc_model.specs.declared.footprint_name.FootprintName.{FootprintName}
use Rattle.astc_model.specs.declared.footprint_name.FootprintName.TheVariants.{F4x4, F5x4, F5x5, F6x5, F6x6, F8x5, F8x6, F8x8, F10x5, F10x6, F10x8, F10x10, F12x10, F12x12}
use Rattle.astc_rows.specs.Formats.{formats, format_of}

-- each format is found by its number
format_of-gl_of : (name : FootprintName) (flavour : Flavour) → format_of (gl_of name flavour)
    ≡ Some (name, flavour)
unfolding format_of
format_of-gl_of F4x4 Linear = refl
format_of-gl_of F5x4 Linear = refl
format_of-gl_of F5x5 Linear = refl
format_of-gl_of F6x5 Linear = refl
format_of-gl_of F6x6 Linear = refl
format_of-gl_of F8x5 Linear = refl
format_of-gl_of F8x6 Linear = refl
format_of-gl_of F8x8 Linear = refl
format_of-gl_of F10x5 Linear = refl
format_of-gl_of F10x6 Linear = refl
format_of-gl_of F10x8 Linear = refl
format_of-gl_of F10x10 Linear = refl
format_of-gl_of F12x10 Linear = refl
format_of-gl_of F12x12 Linear = refl
format_of-gl_of F4x4 Srgb = refl
format_of-gl_of F5x4 Srgb = refl
format_of-gl_of F5x5 Srgb = refl
format_of-gl_of F6x5 Srgb = refl
format_of-gl_of F6x6 Srgb = refl
format_of-gl_of F8x5 Srgb = refl
format_of-gl_of F8x6 Srgb = refl
format_of-gl_of F8x8 Srgb = refl
format_of-gl_of F10x5 Srgb = refl
format_of-gl_of F10x6 Srgb = refl
format_of-gl_of F10x8 Srgb = refl
format_of-gl_of F10x10 Srgb = refl
format_of-gl_of F12x10 Srgb = refl
format_of-gl_of F12x12 Srgb = refl

first_or_later : {X : Type 0} (P : X → Type 0) (b : Bool) (x : X) (later : Option X)
    → (IsTrue b → P x) → IfSome later P → IfSome (cond b (Some x) later) P
first_or_later P true x later here rest = here refl
first_or_later P false x later here rest = rest

-- what is found passes
passes-find : {X : Type 0} (p : X → Bool) (xs : List X) → IfSome (find p xs) (λ x. IsTrue (p x))
passes-find p [] = tt
passes-find p (x ∷ xs) = first_or_later (λ y. IsTrue (p y)) (p x) x (find p xs) (λ yes. yes)
    (passes-find p xs)

none_where : (n : ℕ) (found : Option (FootprintName × Flavour))
    → IfSome found (λ format. IsTrue (gl_of format.0 format.1 == n))
    → ((name : FootprintName) (flavour : Flavour) → gl_of name flavour ≡ n → ⊥) → found ≡ None
none_where n None passes none = refl
none_where n (Some format) passes none = absurd (none format.0 format.1 (eqb-true _ _ passes))

-- the answer to the question which format has this number
pub format_is : (found : Option (FootprintName × Flavour)) (n : ℕ)
    → IfSome found (λ format. gl_of format.0 format.1 ≡ n)
    → IfNone found ((name : FootprintName) (flavour : Flavour) → gl_of name flavour ≡ n → ⊥) → found
    ≡ format_of n
unfolding format_of
format_is None n same none =
    sym (none_where n (format_of n) (passes-find (λ format. gl_of format.0 format.1 == n) formats)
    none)
format_is (Some format) n same none =
    sym (ap format_of (sym same) ∙ format_of-gl_of format.0 format.1)

-- From the result of a test to the element that is found.
use Rattle.std.proofs.Common.{◌≡◌, ◌↔◌, ℕ, Bool, true, false, IsTrue, List, [], ◌∷◌, Option, Some, None, ap, refl, ◌∙◌, sym}
use Rattle.std.specs.Prelude.{IsSome, IfSome, IfNone, if◌then◌else◌, find}
use Rattle.std.specs.List.{AllByRecursion}
use Rattle.std.specs.Str.{bytes_eq}
use Rattle.std.proofs.lemmas.Slice.Eq.{bytes_eq-Decides}
use Rattle.astc_model.specs.declared.footprint_name.FootprintName.{FootprintName}
use Rattle.astc_model.specs.declared.footprint_name.FootprintName.TheVariants.{F4x4, F5x4, F5x5, F6x5, F6x6, F8x5, F8x6, F8x8, F10x5, F10x6, F10x8, F10x10, F12x10, F12x12}
use Rattle.astc_model.specs.declared.preset.Preset.{Preset}
use Rattle.astc_model.specs.declared.preset.Preset.TheVariants.{Flat, Quick, Medium, Thorough, Pairs}
use Rattle.astc_model.specs.FootprintNames.{footprint_word}
use Rattle.astc_model.specs.Presets.{preset_word}
use Rattle.astc_words.specs.Values.{footprint_names, footprint_of, presets, preset_of}

pub found : {A : Type 0} (result : Option A) (test : Bool) (x : A) → (IsSome result ↔ IsTrue test)
    → IfSome result (λ y. y ≡ x) → result ≡ (if test then Some x else None)
found (Some y) true x is same = ap Some same
found None true x is same = let never : false ≡ true = is.1 refl in absurd (cc)
found (Some y) false x is same = let never : false ≡ true = is.0 refl in absurd (cc)
found None false x is same = refl

-- if no element passes, none is found
found-none : {A : Type 0} (p : A → Bool) (xs : List A) → AllByRecursion (λ x. p x ≡ false) xs
    → find p xs ≡ None
found-none p [] none = refl
found-none p (x ∷ xs) none = rw none.0 (found-none p xs none.1)

-- two texts that are not one
differ : (word name : List ℕ) → (word ≡ name → ⊥) → bytes_eq word name ≡ false
differ word name apart =
    elim (bytes_eq word name) as (λ b. (b ≡ true → word ≡ name) → b ≡ false) [
      | true ↦ λ same.
          absurd (apart (same refl))
      | false ↦ λ same. refl
    ] (bytes_eq-Decides word name).0

named_footprint : (name : FootprintName) → footprint_of (footprint_word name) ≡ Some name
unfolding footprint_of
named_footprint F4x4 = refl
named_footprint F5x4 = refl
named_footprint F5x5 = refl
named_footprint F6x5 = refl
named_footprint F6x6 = refl
named_footprint F8x5 = refl
named_footprint F8x6 = refl
named_footprint F8x8 = refl
named_footprint F10x5 = refl
named_footprint F10x6 = refl
named_footprint F10x8 = refl
named_footprint F10x10 = refl
named_footprint F12x10 = refl
named_footprint F12x12 = refl

pub footprint-is : (result : Option FootprintName) (word : List ℕ)
    → IfSome result (λ name. word ≡ footprint_word name)
    → IfNone result ((name : FootprintName) → word ≡ footprint_word name → ⊥) → result
    ≡ footprint_of word
unfolding footprint_of
footprint-is (Some name) word same none = sym (ap footprint_of same ∙ named_footprint name)
footprint-is None word same none =
    sym (found-none (λ name. bytes_eq word (footprint_word name)) footprint_names (
      differ word _ (none F4x4),
      (
        differ word _ (none F5x4),
        (
          differ word _ (none F5x5),
          (
            differ word _ (none F6x5),
            (
              differ word _ (none F6x6),
              (
                differ word _ (none F8x5),
                (
                  differ word _ (none F8x6),
                  (
                    differ word _ (none F8x8),
                    (
                      differ word _ (none F10x5),
                      (
                        differ word _ (none F10x6),
                        (
                          differ word _ (none F10x8),
                          (
                            differ word _ (none F10x10),
                            (differ word _ (none F12x10), (differ word _ (none F12x12), tt)),
                          ),
                        ),
                      ),
                    ),
                  ),
                ),
              ),
            ),
          ),
        ),
      ),
    ))

named_preset : (preset : Preset) → preset_of (preset_word preset) ≡ Some preset
unfolding preset_of
named_preset Flat = refl
named_preset Quick = refl
named_preset Medium = refl
named_preset Thorough = refl
named_preset Pairs = refl

pub preset-is : (result : Option Preset) (word : List ℕ)
    → IfSome result (λ preset. word ≡ preset_word preset)
    → IfNone result ((preset : Preset) → word ≡ preset_word preset → ⊥) → result ≡ preset_of word
unfolding preset_of
preset-is (Some preset) word same none = sym (ap preset_of same ∙ named_preset preset)
preset-is None word same none =
    sym (found-none (λ preset. bytes_eq word (preset_word preset)) presets (
      differ word _ (none Flat),
      (
        differ word _ (none Quick),
        (
          differ word _ (none Medium),
          (differ word _ (none Thorough), (differ word _ (none Pairs), tt)),
        ),
      ),
    ))

-- Lines that are reported one after another.
use Rattle.std.proofs.Common.{◌≡◌, ℕ, List, ◌++◌, length, take, map, Option, sym, ◌∙◌, ap, arith, inl, inr}
use Rattle.std.proofs.lemmas.Bool.{cases_lt}
use Rattle.std.proofs.lemmas.List.{take-append-le, take_all, take-map}
use Rattle.std.proofs.Math.Seq.{take-append_seam}
use Rattle.tex_shelf.specs.Files.{with_text}
use Rattle.tex_shelf.specs.declared.stop.ShelfStop.{ShelfStop}
use Rattle.tex_shelf.specs.declared.stop.ShelfStop.TheVariants.{Failed, NoMemory}
use Rattle.outcomes.specs.Causes.{IsPartlyTold, Stopped, text_of}

-- the lines of the first of several
pub told-first : {A : Type 0} (f : A → List ℕ) (xs : List A) (k : ℕ) (old now : Option (List ℕ))
    → now ≡ with_text old (text_of (map f (take k xs))) → IsPartlyTold old now (map f xs)
told-first f xs k old now told =
    (k, told ∙ ap (λ lines. with_text old (text_of lines)) (sym (take-map f k xs)))

told-longer : (old now : Option (List ℕ)) (xs ys : List (List ℕ)) → IsPartlyTold old now xs
    → IsPartlyTold old now (xs ++ ys)
told-longer old now xs ys part = elim (cases_lt (length xs) part.0) [
  | inl more ↦ (
    length xs,
    part.1 ∙ ap (λ lines. with_text old (text_of lines))
        (take_all part.0 xs (omega (arith, more)) ∙ sym (take-append_seam xs ys)),
  )
  | inr some ↦ (
    part.0,
    part.1 ∙ ap (λ lines. with_text old (text_of lines))
        (sym (take-append-le part.0 xs ys (omega (arith, some)))),
  )
]

pub stopped-longer : (old now : Option (List ℕ)) (xs ys : List (List ℕ)) (before after : ℕ)
    (stop : ShelfStop) → Stopped before after (IsPartlyTold old now xs) stop
    → Stopped before after (IsPartlyTold old now (xs ++ ys)) stop
stopped-longer old now xs ys before after Failed stopped =
    (stopped.0, told-longer old now xs ys stopped.1)
stopped-longer old now xs ys before after NoMemory stopped = told-longer old now xs ys stopped

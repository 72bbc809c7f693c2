-- Channel weights in a text: four numbers with a comma between them.
use Rattle.std.specs.Prelude.{ℕ, ◌==◌, if◌then◌else◌, List, [], ◌∷◌, Option, Some, None}
use Rattle.astc_model.specs.Weights.{Weighting, is_weighting}
use Rattle.astc_words.specs.Values.{number_within}

-- a step, and the next step with its value; None if one has none
infixl 10 ◌>>=◌
abbrev pub ◌>>=◌ : {A B : Type 0} → Option A → (A → Option B) → Option B
(Some x) >>= f = f x
None >>= f = None

-- the text up to the first comma, and what follows it
abbrev pub before_comma : List ℕ → List ℕ
before_comma [] = []
before_comma (b ∷ text) = if b == 44 then [] else b ∷ before_comma text

-- ... which is None without a comma
abbrev pub behind_comma : List ℕ → Option (List ℕ)
behind_comma [] = None
behind_comma (b ∷ text) = if b == 44 then Some text else behind_comma text

-- the number of 0 to 15 before the first comma, and the text after the comma
unfoldable pub front_number : List ℕ → Option (ℕ × List ℕ)
front_number text = do
  rest ← behind_comma text
  number ← number_within 0 15 (before_comma text)
  Some (number, rest)

-- the weights that four numbers are
unfoldable pub weighting : List ℕ → Option Weighting
weighting numbers = if is_weighting numbers then Some numbers else None

-- the weights that a text such as `3,0,1,15` writes
unfoldable pub weights_in : List ℕ → Option Weighting
weights_in text = do
  red ← front_number text
  green ← front_number red.1
  blue ← front_number green.1
  alpha ← number_within 0 15 blue.1
  weighting (red.0 ∷ green.0 ∷ blue.0 ∷ alpha ∷ [])

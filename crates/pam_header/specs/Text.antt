-- Lines and words of bytes.
use Rattle.std.specs.Prelude.{ℕ, ◌+◌, ◌-◌, ◌*◌, nat_le, nat_lt, ◌==◌, ◌&&◌, ◌||◌, Bool, if◌then◌else◌, List, [], ◌∷◌, ◌++◌, length, Option, None, Some}

-- the whole lines, of which the first has begun with this; a line ends with a line feed
abbrev pub lines_after : List ℕ → List ℕ → List (List ℕ)
lines_after line [] = []
lines_after line (b ∷ bytes) = if b == 10 then line ∷ lines_after [] bytes else lines_after
    (line ++ b ∷ []) bytes

-- the whole lines, without their line feeds
unfoldable pub lines_of : List ℕ → List (List ℕ)
lines_of bytes = lines_after [] bytes

-- horizontal and vertical tab, form feed, carriage return and space
abbrev pub is_blank : ℕ → Bool
is_blank b = b == 9 || (b == 11 || (b == 12 || (b == 13 || b == 32)))

-- without the blanks in front
abbrev pub unblanked : List ℕ → List ℕ
unblanked [] = []
unblanked (b ∷ bytes) = if is_blank b then unblanked bytes else b ∷ bytes

-- the bytes up to the first blank
abbrev pub first_word : List ℕ → List ℕ
first_word [] = []
first_word (b ∷ bytes) = if is_blank b then [] else b ∷ first_word bytes

-- the text from the first blank on
abbrev pub behind_word : List ℕ → List ℕ
behind_word [] = []
behind_word (b ∷ bytes) = if is_blank b then b ∷ bytes else behind_word bytes

-- The meaning of a line of a header (Netpbm PAM manual).
use Rattle.std.specs.Prelude.{ℕ, ◌==◌, if◌then◌else◌, List, [], ◌∷◌, length, Option, None, Some, codes}
use Rattle.std.specs.Str.{bytes_eq}
use Rattle.pam_header.specs.declared.fault.HeaderName.{HeaderName}
use Rattle.pam_header.specs.declared.fault.HeaderName.TheVariants.{Width, Height, Depth, Maxval}
use Rattle.pam_header.specs.declared.line.HeaderLine.{HeaderLine}
use Rattle.pam_header.specs.declared.line.HeaderLine.TheVariants.{Passed, End, Field, Unknown}
use Rattle.decimal_text.specs.Numbers.{number_in}
use Rattle.pam_header.specs.Text.{unblanked, first_word, behind_word}

-- the word of a name
abbrev pub word_of_name : HeaderName → List ℕ
word_of_name Width = codes "WIDTH"
word_of_name Height = codes "HEIGHT"
word_of_name Depth = codes "DEPTH"
word_of_name Maxval = codes "MAXVAL"

-- the name that a word is
abbrev pub name_of : List ℕ → Option HeaderName
name_of word =
    if bytes_eq word (word_of_name Width) then Some Width
    else (if bytes_eq word (word_of_name Height) then Some Height
    else (if bytes_eq word (word_of_name Depth) then Some Depth
    else (if bytes_eq word (word_of_name Maxval) then Some Maxval
    else None)))

-- the number that is alone after a name
unfoldable pub value_in : List ℕ → Option ℕ
value_in bytes = if length (unblanked (behind_word bytes)) == 0 then number_in
    (first_word bytes) else None

-- a field, if the word is a name
abbrev pub field : Option HeaderName → List ℕ → HeaderLine
field None rest = Unknown
field (Some name) rest = Field name (value_in rest)

-- what a line says that begins with this word
abbrev pub keyword : List ℕ → List ℕ → HeaderLine
keyword word rest =
    if bytes_eq word (codes "ENDHDR") then (if length rest == 0 then End else Unknown)
    else (if bytes_eq word (codes "TUPLTYPE") then Passed
    else field (name_of word) rest)

-- the meaning of a line by its word, if there may be no word, and a remark begins with `#`
abbrev pub by_word : List ℕ → List ℕ → HeaderLine
by_word [] rest = Passed
by_word (c ∷ word) rest = if c == 35 then Passed else keyword (c ∷ word) rest

-- the meaning of a line, whatever blanks begin and end it
unfoldable pub line_of : List ℕ → HeaderLine
line_of text = by_word (first_word (unblanked text)) (unblanked (behind_word (unblanked text)))

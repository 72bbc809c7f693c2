-- The words of a header, or its first fault up to their order (Khronos KTX file format, version 1).
use Rattle.std.specs.Prelude.{ℕ, ◌+◌, nat_lt, ◌==◌, if◌then◌else◌, List, [], ◌∷◌, length, drop, Option, None, Some, Result, Ok, Err}
pub use Rattle.ktx_header.specs.declared.fault.HeaderFault.{HeaderFault}
use Rattle.ktx_header.specs.declared.fault.HeaderFault.TheVariants.{ShortHeader, BadIdentifier, BadEndian}
use Rattle.ktx_header.specs.declared.order.WordOrder.TheVariants.{Little, Big}
pub use Rattle.ktx_header.specs.declared.words.HeaderWords.{HeaderWords}
use Rattle.ktx_header.specs.Orders.{WordOrder, number}
use Rattle.ktx_header.specs.Chaining.{◌>>=◌}

-- «KTX 11»\r\n\x1A\n
abbrev pub identifier : List ℕ
identifier = 0xAB ∷ 0x4B ∷ 0x54 ∷ 0x58 ∷ 0x20 ∷ 0x31 ∷ 0x31 ∷ 0xBB ∷ 0x0D ∷ 0x0A ∷ 0x1A ∷ 0x0A ∷ []

-- the first place, from this one on, at which bytes differ from a text
abbrev pub first_difference : ℕ → List ℕ → List ℕ → Option ℕ
first_difference at [] bytes = None
first_difference at (c ∷ text) [] = Some at
first_difference at (c ∷ text) (b ∷ bytes) = if c == b then first_difference
    (at + 1) text bytes else Some at

-- nothing is wrong so far
abbrev pub passed : Result (Unit {0}) HeaderFault
passed = Ok tt

-- the first byte that is not the identifier's, if there is one
abbrev pub identified : Option ℕ → Result (Unit {0}) HeaderFault
identified None = passed
identified (Some place) = Err (BadIdentifier place)

-- the order in which the word of the endianness reads 0x04030201
abbrev pub order_of : ℕ → Result WordOrder HeaderFault
order_of endianness =
    if endianness == 0x04030201 then Ok Little else
    (if endianness == 0x01020304 then Ok Big else Err (BadEndian endianness))

-- there are 64 bytes
abbrev pub long_enough : List ℕ → Result (Unit {0}) HeaderFault
long_enough front = if nat_lt (length front) 64 then Err (ShortHeader (length front)) else passed

-- the words that are looked at
unfoldable pub words_in : WordOrder → List ℕ → HeaderWords
words_in order front = record {
  order = order;
  kind = number order (drop 16 front);
  format = number order (drop 24 front);
  internal = number order (drop 28 front);
  width = number order (drop 36 front);
  height = number order (drop 40 front);
  depth = number order (drop 44 front);
  elements = number order (drop 48 front);
  faces = number order (drop 52 front);
  levels = number order (drop 56 front);
  key_bytes = number order (drop 60 front);
}

-- the words of a file whose first bytes, 64 at most, these are
unfoldable pub words_of : List ℕ → Result HeaderWords HeaderFault
words_of front = do
  long ← long_enough front
  same ← identified (first_difference 0 identifier front)
  order ← order_of (number Little (drop 12 front))
  Ok (words_in order front)

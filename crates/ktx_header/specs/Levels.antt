-- The contents after a header: keys, and levels, each its size and its data, to the end of the file
-- (Khronos KTX file format, version 1).
use Rattle.std.specs.Prelude.{ℕ, zero, suc, ◌+◌, nat_lt, ◌==◌, if◌then◌else◌, List, [], ◌++◌, length, take, drop, Result, Ok, Err}
pub use Rattle.ktx_header.specs.declared.fault.DataFault.{DataFault}
use Rattle.ktx_header.specs.declared.fault.DataFault.TheVariants.{BadImageSize, ShortData, TrailingBytes}
use Rattle.ktx_header.specs.Orders.{WordOrder, number}
use Rattle.ktx_header.specs.Chaining.{◌>>=◌}

-- there are as many bytes as requested, after this number of bytes of the file
abbrev pub enough : ℕ → ℕ → ℕ → Result (Unit {0}) DataFault
enough wanted count before = if nat_lt count wanted then Err (ShortData (before + count)) else Ok tt

-- the size of a level is as it must be
abbrev pub right_size : ℕ → ℕ → ℕ → Result (Unit {0}) DataFault
right_size level found wanted = if found == wanted then Ok tt
    else Err (BadImageSize level found wanted)

-- nothing follows the last level
abbrev pub ended : List ℕ → Result (Unit {0}) DataFault
ended bytes = if length bytes == 0 then Ok tt else Err TrailingBytes

-- the imageSize of a level is there, and is the expected one
unfoldable pub sized : WordOrder → ℕ → ℕ → ℕ → List ℕ → Result (Unit {0}) DataFault
sized order level wanted before bytes = do
  whole ← enough 4 (length bytes) before
  right_size level (number order (take 4 bytes)) wanted

-- The levels of a file: the imageSize of each, the bytes of its data, and their meaning.
pub record LevelSizes (A : Type 0) : Type 0 where
  pub size : ℕ → ℕ
  pub bytes : ℕ → ℕ
  pub content : ℕ → List ℕ → List A

-- a level, after its size, in a file with this number of bytes before
unfoldable pub level_of : {A : Type 0} → WordOrder → LevelSizes A → ℕ → ℕ → List ℕ
    → Result (List A) DataFault
level_of order levels level before bytes = do
  size ← sized order level (levels.size level) before bytes
  all ← enough (levels.bytes level) (length (drop 4 bytes)) (before + 4)
  Ok (levels.content level (take (levels.bytes level) (drop 4 bytes)))

-- n levels from this one on, to the end of the file
abbrev pub levels_of : {A : Type 0} → WordOrder → LevelSizes A → ℕ → ℕ → ℕ → List ℕ
    → Result (List A) DataFault
levels_of order levels level zero before bytes = ended bytes >>= λ _. Ok []
levels_of order levels level (suc n) before bytes = do
  first ← level_of order levels level before bytes
  more ← levels_of order levels (level + 1) n (before + 4 + levels.bytes level)
      (drop (levels.bytes level) (drop 4 bytes))
  Ok (first ++ more)

-- n levels after a header of 64 bytes and this number of bytes of keys, which are skipped
unfoldable pub data_of : {A : Type 0} → WordOrder → LevelSizes A → ℕ → ℕ → List ℕ
    → Result (List A) DataFault
data_of order levels n key_bytes bytes = do
  keys ← enough key_bytes (length bytes) 64
  levels_of order levels 0 n (64 + key_bytes) (drop key_bytes bytes)

-- Pieces of one size, cut from bytes.
use Rattle.std.specs.Prelude.{◌≡◌, ℕ, zero, suc, ◌+◌, ◌*◌, nat_lt, ◌==◌, if◌then◌else◌, List, [], ◌∷◌, length, take, drop, Result, Ok, Err}
use Rattle.std.specs.List.{AllByRecursion}
use Rattle.tex_shelf.specs.declared.pieces.PieceFault.{PieceFault}
use Rattle.tex_shelf.specs.declared.pieces.PieceFault.TheVariants.{ShortData, TrailingBytes}

-- the first n pieces of a size
abbrev pub pieces_at : ℕ → ℕ → List ℕ → List (List ℕ)
pieces_at size zero bytes = []
pieces_at size (suc n) bytes = take size bytes ∷ pieces_at size n (drop size bytes)

-- count pieces of a size
pub record ArePieces (size count : ℕ) (pieces : List (List ℕ)) : Type 0 where
  pub count_is : length pieces ≡ count
  pub sizes : AllByRecursion (λ piece. length piece ≡ size) pieces

-- count pieces of a size, up to the end of the bytes, which follow this number of other bytes
unfoldable pub pieces_of : ℕ → ℕ → ℕ → List ℕ → Result (List (List ℕ)) PieceFault
pieces_of size count before bytes =
    if nat_lt (length bytes) (size * count) then Err (ShortData (before + length bytes))
    else if length (drop (size * count) bytes) == 0 then Ok (pieces_at size count bytes)
    else Err TrailingBytes

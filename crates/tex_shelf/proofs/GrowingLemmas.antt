-- Bytes moved from an input to the end of others.
use Rattle.std.proofs.Common.{◌≡◌, ℕ, ◌+◌, List, ◌++◌, length, take, drop, Option, ◌∙◌, ap, arith, take-add}
use Rattle.std.proofs.Math.Seq.{take_all, take-append_seam}
use Rattle.tex_shelf.specs.Taking.{IsTaken}

-- a vector of which all places were written
pub written_back : (now before : List ℕ) (len : ℕ) → len ≡ length now
    → take len (now ++ drop (length now) before) ≡ now
written_back now before len same = ap (λ n. take n (now ++ drop (length now) before)) same
    ∙ take-append_seam now (drop (length now) before)

-- places were added after these bytes
pub places_behind : (before pad places resized : List ℕ) (at most : ℕ) → at ≡ length before → places
    ≡ resized → resized ≡ take (at + most) before ++ pad → take at places ≡ before
places_behind before pad places resized at most size same is =
    let all : take (at + most) before ≡ before = take_all (at + most) before (omega arith) in
    let whole : places ≡ before ++ pad = same ∙ is ∙ ap (λ xs. xs ++ pad) all in
    ap (λ n. take n places) size ∙ ap (take (length before)) whole ∙ take-append_seam before pad

-- the places that were filled after these bytes
pub filled_behind : (before places after : List ℕ) (at most wide n : ℕ) (old new : Option (List ℕ))
    → take at places ≡ before → wide ≡ most → IsTaken wide n (take n (drop at places)) old new
    → after ≡ take (at + n) places → (these : List ℕ) × IsTaken most n these old new
    × (after ≡ before ++ these)
filled_behind before places after at most wide n old new begins same taken is = (
  take n (drop at places),
  rw same at taken,
  is ∙ take-add at n places
      ∙ ap (λ xs. xs ++ take n (drop at places)) begins,
)

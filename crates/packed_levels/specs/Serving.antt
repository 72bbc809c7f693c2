-- The state of advisers after the blocks of a file.
use Rattle.std.specs.Prelude.{Bool, true, false, ◌⊎◌, slice_index, slice_index_or, ◌≡◌, ℕ, ◌+◌, ◌-◌, ◌≤◌, ◌<◌, ◌^◌, min, ⊤, IsTrue, List, [], ◌∷◌, ◌++◌, map, length, Option, Some}
use Rattle.std.specs.List.{filter, AllByRecursion}
use Rattle.astc_model.specs.declared.block.Block.{Block}
use Rattle.astc_model.specs.Errors.{error}
use Rattle.adviser_pool.specs.declared.ask.Ask.{Ask}
use Rattle.adviser_pool.specs.Advisers.{AdviserState, after_ask, after_settled}
use Rattle.adviser_pool.specs.Asking.{IsSubsequence, block_of, is_block, is_ready}
use Rattle.adviser_pool.specs.Asks.{ask_about}
use Rattle.packed_levels.specs.Settling.{SettlingWay, Places, Settling, AreSettled, bytes_of, errors_of}

-- the query about the places of a source
abbrev pub ask_for : SettlingWay → Places → Ask
ask_for way places = ask_about way.w way.h way.options.settings.preset way.options.settings.flavour
    way.options.settings.weights places

-- the error is at most the one that the block of these bytes has there, if they are a block
abbrev pub IsAtMost : SettlingWay → Places → ℕ → List ℕ → Type 0
IsAtMost way places e bytes = (block : Block) → block_of way.w way.h bytes ≡ Some block
    → e ≤ error way.w way.h way.options.settings.flavour way.options.settings.weights block places

-- an adviser after a place
abbrev pub served : SettlingWay → Settling → AdviserState → AdviserState
served way done adviser = after_settled done.bytes done.error
    (after_ask (ask_for way done.places) adviser)

-- an adviser after several places
abbrev pub served_all : SettlingWay → List Settling → AdviserState → AdviserState
served_all way [] adviser = adviser
served_all way (done ∷ later) adviser = served_all way later (served way done adviser)

-- as many advisers are left that echo as were ready
abbrev pub ReadyStay : SettlingWay → List AdviserState → List AdviserState → Type 0
ReadyStay way before after = length (filter (λ a. a.echoes) after)
    ≡ length (filter (is_ready way.w way.h) before)

-- The advisers were queried about a place, and the settled block was reported to them.
pub record Serves (way : SettlingWay) (before after : List AdviserState)
    (done : Settling) : Type 0 where
  pub stayed : List AdviserState
  pub part : IsSubsequence stayed before
  pub now : after ≡ map (served way done) stayed
  pub echoing : ReadyStay way before after
  pub least : AllByRecursion (λ a. IsTrue (is_ready way.w way.h a)
      → IsAtMost way done.places done.error a.last) before
  pub legal : IsTrue (is_block way.w way.h done.bytes)

-- the same at several places, one after another
abbrev pub ServesAll : SettlingWay → List AdviserState → List AdviserState → List Settling → Type 0
ServesAll way before after [] = after ≡ before
ServesAll way before after (done ∷ later) = (between : List AdviserState)
    × Serves way before between done × ServesAll way between after later

-- each error but the first is at most the one that the block before has there
abbrev pub NoWorse : SettlingWay → List Settling → Type 0
NoWorse way [] = ⊤
NoWorse way (done ∷ []) = ⊤
NoWorse way (done ∷ next ∷ later) = IsAtMost way next.places next.error done.bytes
    × NoWorse way (next ∷ later)

-- the last of them
abbrev pub last_of : Settling → List Settling → Settling
last_of done [] = done
last_of done (next ∷ later) = last_of next later

-- the last report to an adviser and its last query
pub record IsToldLast (way : SettlingWay) (places : Places) (bytes : List ℕ) (e : ℕ)
    (adviser : AdviserState) : Type 0 where
  pub last : adviser.last ≡ bytes
  pub sum : adviser.sum ≡ e
  pub heard : (o : Option Ask) → adviser.heard ≡ Some o → o ≡ Some (ask_for way places)

-- n more, in 64 bits: the number stays at its greatest value
abbrev pub raised_by : ℕ → ℕ → ℕ
raised_by n count = min (count + n) (2 ^ 64 - 1)

-- The advisers that are left were present at the start, in this order, and each was queried this
-- number of times.
pub record AreAsked (times : ℕ) (before after : List AdviserState) : Type 0 where
  pub stayed : List AdviserState
  pub part : IsSubsequence stayed before
  pub counts : map (λ a. a.asked) after ≡ map (λ a. raised_by times a.asked) stayed

-- The state of advisers after the blocks of a file: one for each source, in order, with these
-- errors.
pub record ServesFile (way : SettlingWay) (sources : List Places) (blocks : List (List ℕ))
    (errors : List ℕ) (before after : List AdviserState) : Type 0 where
  pub some : 0 < length sources
  pub blocks_count : length blocks ≡ length sources
  pub errors_count : length errors ≡ length sources
  -- each that is left got the report of the last block and its error, and a query about its place
  pub told : AllByRecursion (IsToldLast way (slice_index_or sources (length sources - 1) [])
      (slice_index_or blocks (length sources - 1) []) (slice_index errors (length sources - 1)))
      after
  -- each was queried once per block
  pub asked : AreAsked (length sources) before after
  pub echoing : ReadyStay way before after
  -- the first block is at most as far from its source as the last block reported to each ready
  -- adviser
  pub first : AllByRecursion (λ a. IsTrue (is_ready way.w way.h a)
      → IsAtMost way (slice_index_or sources 0 []) (slice_index errors 0) a.last) before
  -- with a ready adviser each later block is at most as far off as the block before it would be
  -- there
  pub no_worse : 0 < length (filter (is_ready way.w way.h) before) → (k : ℕ)
      → k + 1 < length sources
      → IsAtMost way (slice_index_or sources (k + 1) []) (slice_index errors (k + 1))
      (slice_index_or blocks k [])

-- the pool is queried about the places, or it is not, and the advisers stay unchanged
abbrev pub ServesIf : Bool → SettlingWay → List AdviserState → List AdviserState → List Settling
    → Type 0
ServesIf true way before after done = ServesAll way before after done
ServesIf false way before after done = after ≡ before

-- the pool is as before, or as many advisers are left that echo as were ready
abbrev pub Keeps : SettlingWay → List AdviserState → List AdviserState → Type 0
Keeps way before after = (after ≡ before) ⊎ ReadyStay way before after

-- These sources were settled one after another, and the pool was queried and got reports if the
-- options say so; the blocks have these bytes, and their errors were appended to the others.
pub record Settles (way : SettlingWay) (sources : List Places) (before after : List AdviserState)
    (bytes errors errors_now : List ℕ) : Type 0 where
  pub done : List Settling
  pub are : AreSettled way sources done
  pub serves : ServesIf way.options.advised way before after done
  pub bytes_are : bytes ≡ bytes_of done
  pub errors_are : errors_now ≡ errors ++ errors_of done

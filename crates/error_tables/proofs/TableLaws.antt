-- The tables of a block are those of the definition.
use Rattle.std.proofs.Common.{◌∙◌, ◌≡◌, ℕ, ◌*◌, ◌<◌, List, [], get_or, refl, ap, None, sym, subst, length, Bool, true, false, cond, arith}
use Rattle.std.proofs.lemmas.List.{get_or_default}
use Rattle.arrayvec.specs.ArrayVec.{ArrayVec}
use Rattle.astc_model.specs.Sums.{sum_to}
use Rattle.astc_model.specs.Errors.{place_error, error}
use Rattle.astc_model.specs.declared.flavour.Flavour.{Flavour}
use Rattle.astc_model.specs.declared.level.Level.{Level}
use Rattle.astc_model.specs.declared.mode.Mode.{Mode}
use Rattle.astc_model.specs.declared.block.Coded.{Coded as CodedFields}
use Rattle.astc_model.specs.declared.block.Block.TheVariants.{Coded}
use Rattle.astc_model.proofs.SumLaws.{sum_to-same}
use Rattle.texel_error.specs.Shaped.{IsShaped}
use Rattle.texel_error.specs.Decoding.{IsDecoded, Shows, error_of_place}
use Rattle.texel_error.proofs.TexelLaws.{decoded_shows}
use Rattle.texel_error.specs.declared.decoded.Decoded.{Decoded}
use Rattle.error_tables.specs.Reached.{IsPartReach}
use Rattle.error_tables.specs.State.{view_of, error_in}
use Rattle.error_tables.specs.Kept.{error_at, IsKept}
use Rattle.error_tables.specs.declared.tables.Tables.{Tables}

-- a decoded block has its own flavour
pub own_flavour : (w h : ℕ) (flavour : Flavour) (coded : CodedFields) (mode : Mode) (level : Level)
    (decoded : Decoded)
    → IsDecoded w h flavour coded mode level decoded
    → IsDecoded w h decoded.flavour coded mode level decoded
own_flavour w h flavour coded mode level decoded is = record {
  sound = is.sound;
  flavour_is = refl;
  plane_is = is.plane_is;
  parts_are = is.parts_are;
  ends_are = is.ends_are;
  pairs = is.pairs;
  numerators_are = is.numerators_are;
}

module _ (w h : ℕ) (tables : Tables)
    (is_shaped : IsShaped w h tables.block tables.mode tables.level)
    (is_decoded : IsDecoded w h tables.decoded.flavour tables.block tables.mode tables.level
    tables.decoded) where
  pub error_at-is : (p : ℕ) → p < w * h
      → error_of_place tables.decoded tables.weights tables.places.now p
      ≡ error_at w h tables tables.block p
  error_at-is p below =
      let shows : Shows w h tables.decoded.flavour (Coded tables.block) tables.decoded =
      decoded_shows w h tables.decoded.flavour tables.block tables.mode tables.level is_shaped
      tables.decoded is_decoded
      in
      ap (λ texel. place_error tables.weights texel (get_or tables.places.now p None))
      (shows.at p below)

  pub total-is : (n : ℕ) → n ≡ w * h
      → sum_to (error_of_place tables.decoded tables.weights tables.places.now) n
      ≡ error_in w h (view_of tables) (Coded tables.block)
  unfolding error
  total-is n all = rw all
      (sum_to-same (error_of_place tables.decoded tables.weights tables.places.now) _
      (w * h) error_at-is)

-- the kept sum is that of the kept errors
pub kept_sum : (w h : ℕ) (tables : Tables) → IsKept w h tables → tables.total
    ≡ sum_to (λ p. get_or tables.errors p 0) (length tables.places.now)
unfolding error
kept_sum w h tables kept =
    kept.total_is ∙ sym (rw kept.all
    (sum_to-same (λ p. get_or tables.errors p 0) (error_at w h tables tables.block)
    (w * h) kept.errors_are))

-- errors of all places give the error of the block
pub sum_is : (w h : ℕ) (tables : Tables) (errors : ℕ → ℕ) (n : ℕ) → n ≡ w * h
    → ((p : ℕ) → p < w * h → errors p ≡ error_at w h tables tables.block p)
    → sum_to errors n ≡ error_in w h (view_of tables) (Coded tables.block)
unfolding error
sum_is w h tables errors n all exact =
    rw all (sum_to-same errors (error_at w h tables tables.block) (w * h) exact)

-- the kept places of a part, from what the code finds in the table
pub kept_reach : (w h : ℕ) (tables : Tables) (part k : ℕ) (found : ArrayVec ℕ) (reach : List ℕ)
    → IsKept w h tables → part < 4
    → k ≡ part → reach ≡ (get_or tables.reaches k found).items
    → IsPartReach w h tables.block part tables.places.now reach
kept_reach w h tables part k found reach is few k_is reach_is =
    let none : ArrayVec ℕ = record { items = [] } in
    let P : List ℕ → Type 0 = λ items. IsPartReach w h tables.block part tables.places.now items in
    let same : get_or tables.reaches k found ≡ get_or tables.reaches part none =
    ap (λ i. get_or tables.reaches i found) k_is ∙ get_or_default tables.reaches part found none
    (omega (arith, few, is.reaches_are.all))
    in
    subst P (sym (reach_is ∙ ap (λ x. x.items) same)) (is.reaches_are.each part few)

-- a new value or an old one
pub pick : (b : Bool) (value new old wanted : ℕ) → value ≡ cond b new old → new ≡ wanted
    → (b ≡ false → old ≡ wanted) → value ≡ wanted
pick true value new old wanted is on off = is ∙ on
pick false value new old wanted is on off = is ∙ off refl

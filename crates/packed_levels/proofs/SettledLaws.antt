-- Blocks that are settled from a number on.
use Rattle.std.proofs.Common.{◌≡◌, ℕ, zero, suc, ◌+◌, ◌-◌, ◌*◌, ◌<◌, ◌≤◌, List, [], ◌∷◌, ◌++◌, length, map, take, drop, get_or, Result, Ok, Err, inl, inr, refl, sym, ◌∙◌, ap, subst, arith, length-append, zero-add}
use Rattle.std.specs.Prelude.{slice_index, slice_index_or, IfOk}
use Rattle.std.specs.declared.alloc.AllocError.{AllocError}
use Rattle.std.proofs.lemmas.Bool.{cases_lt}
use Rattle.std.proofs.lemmas.List.{get_or_append_left, get_or-append_right}
use Rattle.std.proofs.Math.Seq.{drop-nil}
use Rattle.astc_model.specs.declared.footprint_name.FootprintName.{FootprintName}
use Rattle.astc_model.specs.FootprintNames.{sides_of}
use Rattle.astc_model.specs.Limits.{most_block_error}
use Rattle.encoder.specs.declared.settings.Settings.{Settings}
use Rattle.encoder.specs.Shown.{shown_block}
use Rattle.encoder.proofs.ShownLaws.{error-shown}
use Rattle.images.specs.Pictures.{Pictures, source_of}
use Rattle.texture.specs.declared.shape.Shape.{Shape}
use Rattle.texture.specs.Shapes.{level_blocks, rows_of, columns_of, all_blocks}
use Rattle.texture.specs.Places.{place_of, HasBlock, IsPlaceOf}
use Rattle.texture.proofs.ShapeLaws.{place_in_all}
use Rattle.packed_levels.specs.Settling.{SettlingWay, Places, IsSettledFor, way_of}
use Rattle.encoder.proofs.EncodedLaws.{none-proposed}
use Rattle.packed_levels.proofs.SettlingLaws.{each-append}
use Rattle.packed_levels.specs.Packed.{ArePacked}
use Rattle.packed_levels.specs.Sources.{ArePackedLevels, sources, images_in}
use Rattle.packed_levels.proofs.SourceLaws.{sources-at, in-level, images-there}
use Rattle.texture.specs.declared.places.BlockPlace.{BlockPlace}
use Rattle.packed_levels.specs.declared.settling.SettledBlocks.{SettledBlocks}
use Rattle.packed_levels.specs.Settled.{proposed_at, unadvised, way_by, AreSettledFrom, AreNoWorse}

-- ---- what is proposed

pub take-one : {A : Type 0} (xs : List A) (k : ℕ) (d : A) → k < length xs → take 1 (drop k xs)
    ≡ get_or xs k d ∷ []
take-one [] k d below = absurd (omega arith)
take-one (x ∷ xs) zero d below = refl
take-one (x ∷ xs) (suc k) d below = take-one xs k d (omega arith)

pub take-past : {A : Type 0} (xs : List A) (k : ℕ) → length xs ≤ k → take 1 (drop k xs) ≡ []
take-past [] k past = ap (take 1) (drop-nil k)
take-past (x ∷ xs) zero past = absurd (omega arith)
take-past (x ∷ xs) (suc k) past = take-past xs k (omega arith)

pub proposed-one : (way : SettlingWay) (others : List (List ℕ)) (k : ℕ) (d : List ℕ)
    → k < length others → proposed_at way others k ≡ shown_block way.w way.h (get_or others k d)
    ∷ []
proposed-one way others k d below = ap (map (shown_block way.w way.h)) (take-one others k d below)

pub proposed-none : (way : SettlingWay) (others : List (List ℕ)) (k : ℕ) → length others ≤ k
    → proposed_at way others k ≡ []
proposed-none way others k past = ap (map (shown_block way.w way.h)) (take-past others k past)

-- ---- one block more

settled-same : (way : SettlingWay) (others : List (List ℕ)) (places : List Places) (i j : ℕ)
    (block again : List ℕ) (e f : ℕ) → i ≡ j → block ≡ again → e ≡ f
    → IsSettledFor way (get_or places i []) (proposed_at way others i) block e
    → IsSettledFor way (get_or places j []) (proposed_at way others j) again f
settled-same way others places i j block again e f number block_is error_is settled =
    subst (λ n. IsSettledFor way (get_or places n []) (proposed_at way others n) again f) number
    (subst (λ b. IsSettledFor way (get_or places i []) (proposed_at way others i) b f) block_is
    (subst (λ x. IsSettledFor way (get_or places i []) (proposed_at way others i) block x)
    error_is settled))

pub from-none : (way : SettlingWay) (others : List (List ℕ)) (places : List Places) (start : ℕ)
    → AreSettledFrom way others places start [] []
from-none way others places start = record {
  errors_full = refl;
  sizes = tt;
  small = tt;
  each = λ k below. absurd (omega arith);
}

-- blocks, and the blocks after them
pub from-append : (way : SettlingWay) (others : List (List ℕ)) (places : List Places) (start n : ℕ)
    (xs ys : List (List ℕ)) (es fs : List ℕ) → length xs ≡ n
    → AreSettledFrom way others places start xs es
    → AreSettledFrom way others places (start + n) ys fs → AreSettledFrom way others places start
    (xs ++ ys) (es ++ fs)
from-append way others places start n xs ys es fs count first second = record {
  errors_full = omega (
    arith,
    length-append xs ys,
    length-append es fs,
    first.errors_full,
    second.errors_full,
  );
  sizes = each-append (λ b. length b ≡ 16) xs ys first.sizes second.sizes;
  small = each-append (λ e. e ≤ most_block_error) es fs first.small second.small;
  each = λ k below.
      elim (cases_lt k (length xs)) [
        | inl less ↦
            let block_is : get_or xs k [] ≡ get_or (xs ++ ys) k [] =
            sym (get_or_append_left xs ys [] k less) in
            let error_is : get_or es k 0 ≡ get_or (es ++ fs) k 0 =
            sym (get_or_append_left es fs 0 k (omega (arith, less, first.errors_full))) in
            settled-same way others places (start + k) (start + k) (get_or xs k [])
            (get_or (xs ++ ys) k []) (get_or es k 0) (get_or (es ++ fs) k 0) refl block_is
            error_is (first.each k less)
        | inr more ↦
            let place : ℕ = k - n in
            let number : start + n + place ≡ start + k = omega (arith, more, count) in
            let block_is : get_or ys place [] ≡ get_or (xs ++ ys) k [] =
            sym (get_or-append_right xs ys n k [] count (omega (arith, more, count))) in
            let error_is : get_or fs place 0 ≡ get_or (es ++ fs) k 0 =
            sym (get_or-append_right es fs n k 0 (first.errors_full ∙ count)
            (omega (arith, more, count))) in
            settled-same way others places (start + n + place) (start + k) (get_or ys place [])
            (get_or (xs ++ ys) k []) (get_or fs place 0) (get_or (es ++ fs) k 0) number block_is
            error_is
            (second.each place (omega (arith, more, count, below, length-append xs ys)))
      ];
}

-- one block
from-one : (way : SettlingWay) (others : List (List ℕ)) (places : List Places) (start : ℕ)
    (block : List ℕ) (e : ℕ) → length block ≡ 16 → e ≤ most_block_error
    → IsSettledFor way (get_or places start []) (proposed_at way others start) block e
    → AreSettledFrom way others places start (block ∷ []) (e ∷ [])
from-one way others places start block e size most settled = record {
  errors_full = refl;
  sizes = (size, tt);
  small = (most, tt);
  each = λ k below.
      let first : 0 ≡ k = omega (arith, below) in
      let number : start ≡ start + k = omega (arith, first) in
      settled-same way others places start (start + k) block (get_or (block ∷ []) k []) e
      (get_or (e ∷ []) k 0) number (ap (λ i. get_or (block ∷ []) i []) first)
      (ap (λ i. get_or (e ∷ []) i 0) first) settled;
}

pub from-more : (way : SettlingWay) (others : List (List ℕ)) (places : List Places) (start : ℕ)
    (blocks : List (List ℕ)) (errors : List ℕ) (block : List ℕ) (e n : ℕ)
    → AreSettledFrom way others places start blocks errors → length blocks ≡ n → length block ≡ 16
    → e ≤ most_block_error
    → IsSettledFor way (get_or places (start + n) []) (proposed_at way others (start + n)) block e
    → AreSettledFrom way others places start (blocks ++ block ∷ []) (errors ++ e ∷ [])
from-more way others places start blocks errors block e n so_far count size most settled =
    from-append way others places start n blocks (block ∷ []) errors (e ∷ []) count so_far
    (from-one way others places (start + n) block e size most settled)

-- the source of a block
pub source-known : (w h : ℕ) (shape : Shape) (levels : List Pictures) (number : ℕ)
    (place : BlockPlace) (images : Pictures) (source : Places) → sides_of shape.name ≡ (w, h)
    → ArePackedLevels shape levels → IsPlaceOf shape number place
    → images ≡ get_or levels place.image.level images → source
    ≡ source_of w h images (place.image.element * shape.faces + place.image.face) place.column
    place.row
    → source ≡ get_or (sources shape levels) number []
source-known w h shape levels number place images source sides are is images_is source_is =
    let level : ℕ = place.image.level in
    let image : ℕ = place.image.element * shape.faces + place.image.face in
    let there : images ≡ images_in levels level =
    images-there level are is.there.level_in images_is in
    source_is ∙ ap (λ a. source_of w h a image place.column place.row) there
    ∙ ap (λ s. source_of s.0 s.1 (images_in levels level) image place.column place.row) (sym sides)
    ∙ sym (sources-at shape levels level place.image.element place.image.face place.row place.column
    is.there)
    ∙ ap (λ n. get_or (sources shape levels) n []) is.numbered

-- the way of an encoder of these settings
pub way-known : (w h : ℕ) (name : FootprintName) (settings encoder : Settings)
    (others : List (List ℕ)) (places : List Places) (start : ℕ) (blocks : List (List ℕ))
    (errors : List ℕ)
    → encoder ≡ settings → sides_of name ≡ (w, h)
    → AreSettledFrom (way_by w h encoder) others places start blocks errors
    → AreSettledFrom (way_of name (unadvised settings)) others places start blocks errors
way-known w h name settings encoder others places start blocks errors is sides settled =
    let by : AreSettledFrom (way_by w h settings) others places start blocks errors =
    subst (λ v. AreSettledFrom (way_by w h v) others places start blocks errors) is settled in
    subst (λ s. AreSettledFrom (way_by s.0 s.1 settings) others places start blocks errors)
    (sym sides) by

pub all-known : (w h : ℕ) (name : FootprintName) (settings encoder : Settings)
    (others : List (List ℕ)) (places : List Places) (start : ℕ)
    (r : Result SettledBlocks AllocError)
    → encoder ≡ settings → sides_of name ≡ (w, h)
    → IfOk r (λ it. AreSettledFrom (way_by w h encoder) others places start it.blocks.items
    it.errors.items)
    → IfOk r (λ it. AreSettledFrom (way_of name (unadvised settings)) others places start
    it.blocks.items it.errors.items)
all-known w h name settings encoder others places start (Ok it) is sides settled =
    way-known w h name settings encoder others places start it.blocks.items it.errors.items is sides
    settled
all-known w h name settings encoder others places start (Err stop) is sides settled = tt

-- ---- what follows

-- no proposal has a smaller error
pub no-worse : (way : SettlingWay) (others : List (List ℕ)) (places : List Places)
    (blocks : List (List ℕ)) (errors : List ℕ) → AreSettledFrom way others places 0 blocks errors
    → length others ≤ length blocks
    → AreNoWorse way others places errors
no-worse way others places blocks errors are enough k below =
    let settled = are.each k (omega (arith, below, enough)) in
    let place : List _ = get_or places k [] in
    let number : 0 + k ≡ k = zero-add k in
    let proposed : proposed_at way others (0 + k) ≡ shown_block way.w way.h (get_or others k [])
    ∷ [] = ap (proposed_at way others) number ∙ proposed-one way others k [] below in
    let at : IsSettledFor way (get_or places k [])
    (shown_block way.w way.h (get_or others k []) ∷ []) (get_or blocks k [])
    (get_or errors k 0) =
    subst (λ p. IsSettledFor way (get_or places k []) p (get_or blocks k []) (get_or errors k 0))
    proposed
    (subst (λ i. IsSettledFor way (get_or places i []) (proposed_at way others (0 + k))
    (get_or blocks k []) (get_or errors k 0)) number settled) in
    subst (λ n. get_or errors k 0 ≤ n)
    (sym (error-shown way.w way.h way.options.settings.flavour way.options.settings.weights
    (get_or others k []) (get_or places k [])))
    (none-proposed way.w way.h way.options.settings (get_or places k [])
    (shown_block way.w way.h (get_or others k []) ∷ []) (get_or blocks k [])
    (get_or errors k 0) at).0

-- a place is one of the blocks
pub place-below : (shape : Shape) (level element face row column : ℕ)
    → HasBlock shape level element face row column
    → place_of shape level element face row column < all_blocks shape
place-below shape level element face row column has =
    omega (
      arith,
      place_in_all (level_blocks shape) level shape.levels
          (((element * shape.faces + face) * rows_of shape level + row) * columns_of shape
          level + column) has.level_in (in-level shape level element face row column has),
    )

-- if all blocks of a texture are settled, the block at each place is settled for its source
pub settled-there : (shape : Shape) (way : SettlingWay) (levels : List Pictures)
    (others blocks : List (List ℕ)) (errors : List ℕ)
    → AreSettledFrom way others (sources shape levels) 0 blocks errors → length blocks
    ≡ all_blocks shape
    → (level element face row column : ℕ) → HasBlock shape level element face row column
    → IsSettledFor way (source_of (sides_of shape.name).0 (sides_of shape.name).1
    (images_in levels level) (element * shape.faces + face) column row)
    (proposed_at way others (place_of shape level element face row column))
    (slice_index_or blocks (place_of shape level element face row column) [])
    (slice_index errors (place_of shape level element face row column))
settled-there shape way levels others blocks errors are count level element face row column has =
    let p : ℕ = place_of shape level element face row column in
    let settled = are.each p
    (omega (arith, count, place-below shape level element face row column has)) in
    let number : 0 + p ≡ p = zero-add p in
    let there : IsSettledFor way (get_or (sources shape levels) p []) (proposed_at way others p)
    (get_or blocks p []) (get_or errors p 0) =
    subst (λ i. IsSettledFor way (get_or (sources shape levels) i []) (proposed_at way others i)
    (get_or blocks p []) (get_or errors p 0)) number settled in
    subst (λ places. IsSettledFor way places (proposed_at way others p) (get_or blocks p [])
    (get_or errors p 0)) (sources-at shape levels level element face row column has) there

-- all blocks of a texture, settled from the first on without others, are packed
pub packed-from : (shape : Shape) (settings : Settings) (levels : List Pictures)
    (blocks : List (List ℕ)) (errors : List ℕ)
    → AreSettledFrom (way_of shape.name (unadvised settings)) []
    (sources shape levels) 0 blocks errors
    → length blocks ≡ all_blocks shape → ArePacked shape (unadvised settings) levels blocks errors
packed-from shape settings levels blocks errors are count = record {
  blocks_full = record { count = count; sizes = are.sizes };
  errors_full = are.errors_full;
  each = λ level element face row column has.
      let p : ℕ = place_of shape level element face row column in (
        proposed_at (way_of shape.name (unadvised settings)) [] p,
        λ no.
            proposed-none (way_of shape.name (unadvised settings)) [] p
            (omega arith),
        settled-there shape (way_of shape.name (unadvised settings)) levels []
            blocks errors are count level element face row column has,
      );
}

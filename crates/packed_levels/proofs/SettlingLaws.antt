-- Blocks settled one after another.
use Rattle.std.proofs.Common.{◌≡◌, ℕ, ◌+◌, Bool, true, false, IsTrue, List, [], ◌∷◌, ◌++◌, refl, sym, ◌∙◌, ap, append_assoc, arith}
use Rattle.std.specs.List.{flat_map, AllByRecursion}
use Rattle.std.proofs.lemmas.List.{append-nil, map-append}
use Rattle.std.proofs.lemmas.Grind.{flat_map-append}
use Rattle.std.proofs.lemmas.List.FromFn.{map-range_with_len_more}
use Rattle.adviser_pool.specs.Advisers.{AdviserState}
use Rattle.images.specs.Pictures.{Pictures, source_of}
use Rattle.packed_levels.specs.RowSources.{row_sources}
use Rattle.packed_levels.specs.Settling.{SettlingWay, Places, Settling, IsSettled, AreSettled, sources_of, blocks_of, errors_of, bytes_of}
use Rattle.packed_levels.specs.Serving.{Serves, ServesIf, Settles}
use Rattle.packed_levels.proofs.ServingLaws.{serves_if-none, serves_if-more, serves_if-append}

pub each-append : {A : Type 0} (P : A → Type 0) (xs ys : List A) → AllByRecursion P xs
    → AllByRecursion P ys → AllByRecursion P (xs ++ ys)
each-append P [] ys first second = second
each-append P (x ∷ xs) ys first second = (first.0, each-append P xs ys first.1 second)

pub settled-none : (way : SettlingWay) → AreSettled way [] []
settled-none way = record { sources_are = refl; each = tt }

pub settled-append : (way : SettlingWay) (a b : List Places) (xs ys : List Settling)
    → AreSettled way a xs → AreSettled way b ys → AreSettled way (a ++ b) (xs ++ ys)
settled-append way a b xs ys first second = record {
  sources_are = map-append (λ d. d.places) xs ys ∙ ap (λ zs. zs ++ sources_of ys) first.sources_are
      ∙ ap (λ zs. a ++ zs) second.sources_are;
  each = each-append (IsSettled way) xs ys first.each second.each;
}

pub bytes-append : (xs ys : List Settling) → bytes_of (xs ++ ys) ≡ bytes_of xs ++ bytes_of ys
bytes-append xs ys = ap (flat_map (λ b. b)) (map-append (λ d. d.bytes) xs ys)
    ∙ flat_map-append (λ b. b) (blocks_of xs) (blocks_of ys)

pub blocks-append : (xs ys : List Settling) → blocks_of (xs ++ ys) ≡ blocks_of xs ++ blocks_of ys
blocks-append xs ys = map-append (λ d. d.bytes) xs ys

pub errors-append : (xs ys : List Settling) → errors_of (xs ++ ys) ≡ errors_of xs ++ errors_of ys
errors-append xs ys = map-append (λ d. d.error) xs ys

pub settles-none : (way : SettlingWay) (before : List AdviserState) (errors : List ℕ)
    → Settles way [] before before [] errors errors
settles-none way before errors = record {
  done = [];
  are = settled-none way;
  serves = serves_if-none way way.options.advised before;
  bytes_are = refl;
  errors_are = sym (append-nil errors);
}

-- one block more
serves-once : (way : SettlingWay) (advised : Bool) (before after : List AdviserState) (d : Settling)
    → (IsTrue advised → Serves way before after d) → (advised ≡ false → after ≡ before)
    → ServesIf advised way before after (d ∷ [])
serves-once way advised before after d step same =
    serves_if-more way advised before before after [] d (serves_if-none way advised before) step
    same

pub settles-more : (way : SettlingWay) (a : List Places) (before between after : List AdviserState)
    (bytes errors so_far : List ℕ) (d : Settling)
    → Settles way a before between bytes errors so_far → IsSettled way d
    → (IsTrue way.options.advised → Serves way between after d)
    → (way.options.advised ≡ false → after ≡ between)
    → Settles way (a ++ d.places ∷ []) before after (bytes ++ d.bytes) errors
    (so_far ++ d.error ∷ [])
settles-more way a before between after bytes errors so_far d first settled step same = record {
  done = first.done ++ d ∷ [];
  are = settled-append way a (d.places ∷ []) first.done (d ∷ []) first.are
      (record { sources_are = refl; each = (settled, tt) });
  serves = serves_if-append way way.options.advised before between after first.done
      (d ∷ []) first.serves (serves-once way way.options.advised between after d step same);
  bytes_are = ap (λ xs. xs ++ d.bytes) first.bytes_are ∙ ap (λ xs. bytes_of first.done ++ xs)
      (sym (append-nil d.bytes)) ∙ sym (bytes-append first.done (d ∷ []));
  errors_are = ap (λ xs. xs ++ d.error ∷ []) first.errors_are
      ∙ append_assoc errors (errors_of first.done) (d.error ∷ [])
      ∙ ap (λ xs. errors ++ xs) (sym (errors-append first.done (d ∷ [])));
}

-- the sources of a row, one after another
pub row-none : (w h : ℕ) (images : Pictures) (image row : ℕ) → row_sources w h images 0 image row
    ≡ []
unfolding row_sources
row-none w h images image row = refl

pub row-more : (w h : ℕ) (images : Pictures) (n image row : ℕ)
    → row_sources w h images (n + 1) image row ≡ row_sources w h images n image row
    ++ source_of w h images image n row ∷ []
unfolding row_sources
row-more w h images n image row =
    map-range_with_len_more (λ column. source_of w h images image column row) 0 n n (omega arith)

-- Levels of pictures.
use Rattle.std.proofs.Common.{◌≡◌, ℕ, ◌+◌, ◌<◌, List, [], ◌∷◌, ◌++◌, length, get_or, sym, ◌∙◌, ap, arith, inl, inr, length-append}
use Rattle.std.proofs.lemmas.Bool.{cases_lt}
use Rattle.std.proofs.lemmas.List.{get_or_append_left, get_or_push}
use Rattle.images.specs.Pictures.{Pictures}
use Rattle.texture.specs.declared.extent.Extent.{Extent}
use Rattle.ktx_source.specs.Sources.{IsLevelOf, AreLevels}

-- the first levels of an extent
pub record AreFirst (extent : Extent) (n : ℕ) (levels : List Pictures) : Type 0 where
  pub count : length levels ≡ n
  pub each : (level : ℕ) (default : Pictures) → level < n
      → IsLevelOf extent level (get_or levels level default)

pub first_none : (extent : Extent) (levels : List Pictures) → levels ≡ [] → AreFirst extent 0 levels
first_none extent levels none = record {
  count = ap length none;
  each = λ level default below.
      absurd (omega arith);
}

pub first_more : (extent : Extent) (n : ℕ) (before after : List Pictures) (images : Pictures)
    → AreFirst extent n before → IsLevelOf extent n images → after ≡ before ++ images ∷ []
    → AreFirst extent (n + 1) after
first_more extent n before after images first is grown = record {
  count = ap length grown ∙ length-append before (images ∷ []) ∙ ap (λ k. k + 1) first.count;
  each = λ level default below.
      elim (cases_lt level n) [
        | inl less ↦
            let inside : level < length before = omega (arith, first.count) in
            rw (grown, get_or_append_left before (images ∷ []) default level inside)
            (first.each level default less)
        | inr last ↦
            let same : level ≡ n = omega arith in
            let end : length before ≡ level = first.count ∙ sym same in
            rw (grown, get_or_push before images default level end) (rw (← same) at is)
      ];
}

pub first_all : (extent : Extent) (n : ℕ) (levels : List Pictures) → AreFirst extent n levels → n
    ≡ extent.levels → AreLevels extent levels
first_all extent n levels first all =
    record {
      count = first.count ∙ all;
      each = λ level default below.
          first.each level default (omega arith);
    }

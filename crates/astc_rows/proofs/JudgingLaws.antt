-- Verdicts one after another.
use Rattle.std.proofs.Common.{◌≡◌, ℕ, ◌+◌, ◌<◌, ◌++◌, List, [], ◌∷◌, length, refl, sym, ◌∙◌, ap, arith, inl, inr}
use Rattle.std.specs.Prelude.{slice_index_or, sum_by}
use Rattle.std.proofs.lemmas.Bool.{cases_lt}
use Rattle.std.proofs.lemmas.List.{length_push, get_or_append_left, get_or_push}
use Rattle.std.proofs.lemmas.List.Sums.{sum_by-append}
use Rattle.astc_model.specs.Sums.{sum_to}
use Rattle.astc_model.specs.Places.{Texel}
use Rattle.astc_model.proofs.SumLaws.{sum_to-zero, sum_to-more}
use Rattle.encoder.specs.declared.verdict.Verdict.{Verdict}
use Rattle.encoder.specs.Verdicts.{IsVerdict}
use Rattle.astc_rows.specs.declared.bands.CheckedRows.{CheckedRows}
use Rattle.astc_rows.specs.declared.bands.CheckedOptions.{CheckedOptions}
use Rattle.astc_rows.specs.declared.judging.RowFindings.{RowFindings}
use Rattle.astc_rows.specs.Bands.{source_at, error_at}
use Rattle.astc_rows.specs.Judging.{AreRowsJudged, bad_in}

module _ (w h : ℕ) (band : CheckedRows) (way : CheckedOptions) (texels : List Texel)
    (blocks : List (List ℕ)) where
  pub judged-none : AreRowsJudged w h band way texels 0 blocks (record { error = 0; bad = 0 })
  judged-none = record {
    verdicts = [];
    count = refl;
    each = λ k d below. absurd (omega arith);
    error = sym (sum_to-zero _);
    bad = refl;
  }

  -- one block more
  pub judged-more : (n : ℕ) (before after : RowFindings) (verdict : Verdict)
      → AreRowsJudged w h band way texels n blocks before
      → IsVerdict w h band.flavour way.weights way.preset (source_at w h band texels n)
      (slice_index_or blocks n []) verdict
      → after.error ≡ before.error + verdict.error → after.bad ≡ before.bad + bad_in verdict
      → AreRowsJudged w h band way texels (n + 1) blocks after
  judged-more n before after verdict so_far is error_is bad_is =
      let f : ℕ → ℕ = λ k. error_at w h band way.weights texels (slice_index_or blocks k []) k in
      let one : sum_by bad_in (verdict ∷ []) ≡ bad_in verdict = omega arith in
      record {
        verdicts = so_far.verdicts ++ verdict ∷ [];
        count = length_push so_far.verdicts verdict ∙ ap (λ k. k + 1) so_far.count;
        each = λ k d below. elim (cases_lt k n) [
          | inl less ↦
              let there : k < length so_far.verdicts = omega (arith, so_far.count, less) in
              rw (get_or_append_left so_far.verdicts (verdict ∷ []) d k there)
              (so_far.each k d less)
          | inr more ↦
              let same : k ≡ n = omega arith in
              rw (same, get_or_push so_far.verdicts verdict d n so_far.count) is
        ];
        error = error_is ∙ ap (λ e. e + verdict.error) so_far.error
            ∙ ap (λ e. sum_to f n + e) is.error ∙ sym (sum_to-more f n);
        bad = omega (
          arith,
          bad_is,
          so_far.bad,
          sum_by-append bad_in so_far.verdicts
              (verdict ∷ []),
          one,
        );
      }

use Rattle.std.proofs.Common.{◌≡◌, ℕ, ◌+◌, ◌<◌, ◌∙◌, List, length, length-set, refl, sym, arith, subst, inl, inr}
use Rattle.std.specs.Prelude.{slice_index_or, slice_set, []}
use Rattle.std.proofs.lemmas.Bool.{cases_lt}
use Rattle.std.proofs.lemmas.List.{get_or-set_same, get_or-set_other}
use Rattle.encoder.specs.Verdicts.{IsVerdict}
use Rattle.encoder.specs.declared.verdict.Verdict.{Verdict}
use Rattle.astc_rows.specs.Bands.{block_count, source_at}
use Rattle.astc_rows.specs.Alone.{AreEachJudged}
use Rattle.astc_rows.proofs.no_alloc.judge_each_no_alloc.Goals as goal

pub loop-k-init : goal.loop-k-init
loop-k-init g c = record {
  count = refl;
  judged = record { each = λ k d below. absurd (omega arith) };
}

pub loop-k-preserved : goal.loop-k-preserved
loop-k-preserved g c =
    let w = g.row.W in
    let h = g.row.H in
    let band = c.args.band in
    let way = c.args.way.now in
    let k = c.loop-k.k in
    let new = c.verdict_at.result in
    let within : k < length c.loop-k.judged =
    omega (arith, c.loop-k-test.true, c.loop-k.invariant.count, c.requires.places) in
    let Right : ℕ → Verdict → Type 0 = λ j v. IsVerdict w h band.flavour way.weights way.preset
    (source_at w h band c.args.texels.now j) (slice_index_or c.args.blocks.now j []) v in
    record {
      count = length-set c.loop-k.judged k new ∙ c.loop-k.invariant.count;
      judged = record {
        each = λ j d below. elim (cases_lt j k) [
          | inl less ↦ subst (Right j)
              (sym (get_or-set_other c.loop-k.judged k j new d (λ same. omega (arith, same, less))))
              (c.loop-k.invariant.judged.each j d less)
          | inr more ↦
              let same : j ≡ k = omega arith in
              rw same (subst (Right k) (sym (get_or-set_same c.loop-k.judged k new d within))
              c.verdict_at.ensures.verdict)
        ];
      };
    }

pub returns-clause-judged : goal.returns-clause-judged
returns-clause-judged g c =
    let all : c.loop-k.k ≡ block_count g.row.W c.args.band =
    omega (arith, c.loop-k.auto.k-end, c.loop-k-test.false, c.requires.blocks) in
    subst (λ n. AreEachJudged g.row.W g.row.H c.args.band c.args.way.now c.args.texels.now n
    c.args.blocks.now c.loop-k.judged) all c.loop-k.invariant.judged

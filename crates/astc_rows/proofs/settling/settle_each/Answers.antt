use Rattle.std.proofs.Common.{◌≡◌, ◌+◌, ◌∙◌, [], length-set, refl, sym, arith, subst}
use Rattle.std.specs.Prelude.{slice_set}
use Rattle.std.proofs.lemmas.List.{get_or-set_other}
use Rattle.encoder.specs.Encoders.{IsEncoded}
use Rattle.astc_rows.specs.Bands.{block_count, settings_in, source_at}
use Rattle.astc_rows.specs.Settling.{AreRowsSettled, proposals_at, proposals_of}
use Rattle.astc_rows.proofs.SettlingLaws.{settled-none, settled-more}
use Rattle.astc_rows.proofs.settling.settle_each.Goals as goal

pub loop-k-init : goal.loop-k-init
loop-k-init g c = record {
  count = refl;
  settled = settled-none g.row.W g.row.H c.args.band c.args.way.now c.args.texels.now
      (proposals_at g.row.W g.row.H c.args.keeps c.args.blocks.now) c.args.blocks.now;
  later = λ j from. refl;
  small = omega arith;
}

pub loop-k-preserved : goal.loop-k-preserved
loop-k-preserved g c =
    let w = g.row.W in
    let h = g.row.H in
    let band = c.args.band in
    let way = c.args.way.now in
    let texels = c.args.texels.now in
    let k = c.loop-k.k in
    let bytes = c.settle_at-error.result.0 in
    let proposals = proposals_at w h c.args.keeps c.args.blocks.now in
    let packed : IsEncoded w h (settings_in band way) (source_at w h band texels k)
    (proposals k) bytes c.settle_at-error.result.1 =
    subst (λ b. IsEncoded w h (settings_in band way) (source_at w h band texels k)
    (proposals_of w h c.args.keeps b) bytes c.settle_at-error.result.1)
    (c.loop-k.invariant.later k (omega arith))
    (rw (c.new-encoder.ensures, c.settings_in.ensures) at c.settle_at-error.ensures.settled) in
    record {
      count = length-set c.loop-k.blocks k bytes ∙ c.loop-k.invariant.count;
      settled = subst (λ e. AreRowsSettled w h band way texels proposals (k + 1)
          (slice_set c.loop-k.blocks k bytes) (c.loop-k.total + e)) (sym c.from-total.ensures)
          (settled-more w h band way texels proposals k c.loop-k.blocks c.loop-k.total bytes
          c.settle_at-error.result.1 c.loop-k.invariant.settled
          (omega (arith, c.loop-k-test.true, c.loop-k.invariant.count)) packed);
      later = λ j from. get_or-set_other c.loop-k.blocks k j bytes []
          (λ same. omega (arith, same, from)) ∙ c.loop-k.invariant.later j (omega (arith, from));
      small = omega (
        arith,
        c.loop-k.invariant.small,
        c.from-total.ensures,
        c.settle_at-error.ensures.small,
      );
    }

pub returns-clause-settled : goal.returns-clause-settled
returns-clause-settled g c =
    let all : c.loop-k.k ≡ block_count g.row.W c.args.band =
    omega (arith, c.loop-k.auto.k-end, c.loop-k-test.false, c.requires.blocks) in
    subst (λ n. AreRowsSettled g.row.W g.row.H c.args.band c.args.way.now c.args.texels.now
    (proposals_at g.row.W g.row.H c.args.keeps c.args.blocks.now) n c.loop-k.blocks
    c.loop-k.total)
    all c.loop-k.invariant.settled

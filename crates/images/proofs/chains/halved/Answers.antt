use Rattle.std.proofs.Common.{◌≡◌, ◌∙◌, ◌+◌, ◌*◌, ◌/◌, ◌%◌, ℕ, ap, sym, refl, arith, length}
use Rattle.std.proofs.Math.Nat.{mul-suc}
use Rattle.std.proofs.Math.Numerals.{add-one}
use Rattle.astc_model.specs.Chains.{side_at_level}
use Rattle.images.proofs.ChainLaws.{rows_none, rows_more, halved_is, area_of_rows}
use Rattle.images.proofs.chains.halved.Goals as goal

pub loop-row-init : goal.loop-row-init
loop-row-init c = record {
  rows = c.in_ok-texels.ensures.items ∙ sym (rows_none c.args.images.now);
  size = omega (arith, ap length c.in_ok-texels.ensures.items);
}

pub loop-row-preserved : goal.loop-row-preserved
loop-row-preserved c =
    let w : ℕ = c.half_side-width.result in
    let more : w * (c.loop-row.row + 1) ≡ w * c.loop-row.row + w =
    rw add-one (mul-suc w c.loop-row.row) in
    let high : side_at_level c.args.images.now.height 1 ≡ c.half_side-height.result =
    ap (λ n. side_at_level n 1) (sym c.height.ensures.same)
    ∙ sym c.half_side-height.ensures.same in
    let wide : w ≡ side_at_level c.args.images.now.width 1 = c.half_side-width.ensures.same
    ∙ ap (λ n. side_at_level n 1) c.width.ensures.same in
    record {
      rows = rows_more c.args.images.now c.loop-row.row (c.loop-row.row / c.from-in-loop-row.result)
          (c.loop-row.row % c.from-in-loop-row-2.result) c.loop-row.texels.items _
          c.loop-row.invariant.rows
          (rw (high, c.from-in-loop-row.ensures) refl)
          (rw (high, c.from-in-loop-row-2.ensures) refl) c.in_ok-push_row.ensures.row;
      size = omega (arith, more, wide, c.in_ok-push_row.ensures.size, c.loop-row.invariant.size);
    }

pub returns-clause-same : goal.returns-clause-same
returns-clause-same c =
    let wide : c.half_side-width.result ≡ side_at_level c.args.images.now.width 1 =
    c.half_side-width.ensures.same ∙ ap (λ n. side_at_level n 1) c.width.ensures.same in
    let high : c.half_side-height.result ≡ side_at_level c.args.images.now.height 1 =
    c.half_side-height.ensures.same ∙ ap (λ n. side_at_level n 1) c.height.ensures.same in
    let end : c.loop-row.row ≡ c.half_side-height.result * c.count-count.result =
    area_of_rows c.loop-row.row c.from.result c.from-2.result _ _
    (omega arith) c.from.ensures c.from-2.ensures in
    halved_is c.args.images.now c.half_side-width.result c.half_side-height.result
    c.count-count.result c.loop-row.texels.items c.from_raster.result wide high
    c.count-count.ensures.same
    (rw end at c.loop-row.invariant.rows) c.from_raster.ensures.images

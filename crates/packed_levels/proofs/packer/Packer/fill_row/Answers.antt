use Rattle.std.proofs.Common.{◌∙◌, refl}
use Rattle.packed_levels.specs.Settling.{SettlingWay, Settling}
use Rattle.packed_levels.proofs.SettlingLaws.{settles-none, settles-more, row-none, row-more}
use Rattle.packed_levels.proofs.ServingLaws.{serves_if-ready, serves_if-more}
use Rattle.packed_levels.proofs.packer.Packer.fill_row.Goals as goal

pub loop-column-init : goal.loop-column-init
loop-column-init g c = record {
  settles = rw (
    row-none g.row.W g.row.H c.args.images.now c.args.row.now.image c.args.row.now.row,
    c.clear.ensures.items,
  ) (settles-none
      (record { w = g.row.W; h = g.row.H; options = c.args.self.now }) _ _);
  untouched = λ no. refl;
}

pub loop-column-preserved : goal.loop-column-preserved
loop-column-preserved g c =
    let way : SettlingWay = record { w = g.row.W; h = g.row.H; options = c.args.self.now } in
    let one = c.settle_place-error.ensures in
    let settling : Settling =
    record {
      places = c.source_at-source.result;
      bytes = c.settle_place-error.result.0;
      error = c.settle_place-error.result.1;
    } in
    record {
      settles = rw (
        c.in_ok-extend_from_slice.ensures.items,
        c.in_ok-push.ensures.items,
        row-more
            g.row.W g.row.H c.args.images.now c.loop-column.column c.args.row.now.image
            c.args.row.now.row,
        ← c.source_at-source.ensures,
      )
          (settles-more way _ _ _ _ _ _ _ settling c.loop-column.invariant.settles one.settled
          one.served one.same);
      untouched = λ no. one.untouched no ∙ c.loop-column.invariant.untouched no;
    }

pub returns-in_err-extend_from_slice-clause-kept : goal.returns-in_err-extend_from_slice-clause-kept
returns-in_err-extend_from_slice-clause-kept g c =
    let way : SettlingWay = record { w = g.row.W; h = g.row.H; options = c.args.self.now } in
    let one = c.settle_place-error.ensures in
    serves_if-ready way c.args.self.now.advised _ _ _
    (serves_if-more way c.args.self.now.advised _ _ _ c.loop-column.invariant.settles.done
    (record {
      places = c.source_at-source.result;
      bytes = c.settle_place-error.result.0;
      error = c.settle_place-error.result.1;
    }) c.loop-column.invariant.settles.serves
    one.served one.same)

pub returns-in_err-push-clause-kept : goal.returns-in_err-push-clause-kept
returns-in_err-push-clause-kept g c =
    let way : SettlingWay = record { w = g.row.W; h = g.row.H; options = c.args.self.now } in
    let one = c.settle_place-error.ensures in
    serves_if-ready way c.args.self.now.advised _ _ _
    (serves_if-more way c.args.self.now.advised _ _ _ c.loop-column.invariant.settles.done
    (record {
      places = c.source_at-source.result;
      bytes = c.settle_place-error.result.0;
      error = c.settle_place-error.result.1;
    }) c.loop-column.invariant.settles.serves
    one.served one.same)

pub returns-clause-kept : goal.returns-clause-kept
returns-clause-kept g c =
    serves_if-ready (record { w = g.row.W; h = g.row.H; options = c.args.self.now })
    c.args.self.now.advised _ _ c.loop-column.invariant.settles.done
    c.loop-column.invariant.settles.serves

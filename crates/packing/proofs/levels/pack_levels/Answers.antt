use Rattle.std.proofs.Common.{length, refl, ap, arith}
use Rattle.texture.specs.Shapes.{all_blocks}
use Rattle.packing.proofs.EndingLaws.{errors-count, ends-done, ends-told, ends-stored}
use Rattle.packing.proofs.levels.pack_levels.Goals as goal

pub report_range-requires : goal.report_range-requires
report_range-requires g c =
    let stores = rw (c.options_of-options.ensures, c.fits.ensures, c.new-layout.ensures)
    at c.in-Ok.ensures.stores in
    omega (
      arith,
      errors-count c.args.shape.now _ c.args.levels.now _ _ stores.0
          c.in-Ok.errors.items c.requires.shape stores.1,
      ap length c.deref.ensures.value,
      ap
          all_blocks c.new-layout.ensures,
    )

pub returns-in-Ok-report_range-clause-ends : goal.returns-in-Ok-report_range-clause-ends
returns-in-Ok-report_range-clause-ends g c =
    let stores = rw (c.options_of-options.ensures, c.fits.ensures, c.new-layout.ensures)
    at c.in-Ok.ensures.stores in
    ends-done c.args.shape.now _ c.args.levels.now _ _ stores.0 c.in-Ok.errors.items
    c.args.output.now _ _ c.requires.shape stores.1 stores.2
    c.in-Ok.ensures.target
    (rw (c.deref.ensures.value, c.new-layout.ensures) at c.in-Ok-report_range.ensures.tells)

pub returns-in-Ok-clause-ends : goal.returns-in-Ok-clause-ends
returns-in-Ok-clause-ends g c =
    let stores = rw (c.options_of-options.ensures, c.fits.ensures, c.new-layout.ensures)
    at c.in-Ok.ensures.stores in
    rw c.after_report.ensures
    (ends-told c.args.shape.now _ c.args.levels.now _ _ stores.0 c.in-Ok.errors.items
    c.args.output.now _ _ c.requires.shape stores.1 stores.2
    c.in-Ok.ensures.target
    c.in-Err-report_range.stop
    (rw (c.deref.ensures.value, c.new-layout.ensures) at c.in-Err-report_range.ensures.tells))

pub returns-clause-ends : goal.returns-clause-ends
returns-clause-ends g c =
    rw c.after_write.ensures
    (ends-stored c.args.shape.now _ c.args.levels.now _ _ c.args.output.now _ _ c.in-Err.stop
    c.requires.shape refl
    (rw (c.options_of-options.ensures, c.fits.ensures, c.new-layout.ensures)
    at c.in-Err.ensures.stores))

use Rattle.std.proofs.Common.{◌*◌, ◌≡◌, ◌∙◌, ◌++◌, ap, arith, length, rules}
use Rattle.std.proofs.Common.{Vec, Global, ℕ}
use Rattle.pam_image.specs.Reading.{widened, raster_size}
use Rattle.pam_image.proofs.WideningLaws.{grown_by}
use Rattle.pam_image.proofs.SayLaws.{exit_to}
use Rattle.pam_image.proofs.ImageLaws.{texels_passed, texels_are, raster_is_texels}
use Rattle.pam_image.proofs.series.read_texels.Goals as goal

pub returns-then-begun-eq4-clause-reads : goal.returns-then-begun-eq4-clause-reads
returns-then-begun-eq4-clause-reads g c = λ bytes e.
    raster_is_texels (λ (v : Vec ℕ Global). v.items) c.args.image c.args.begun.now.header bytes _ _
    _ c.read_raster.result (search rules)
    (c.read_raster.ensures.reads bytes (rw c.deref.ensures.value e))

pub returns-in_err-ahead-clause-reads : goal.returns-in_err-ahead-clause-reads
returns-in_err-ahead-clause-reads g c = λ bytes e.
    exit_to _ _ _ c.from_residual.result c.in_err-ahead.field-0.0 c.from_residual.ensures.1
    (texels_passed c.args.image c.args.begun.now.header bytes c.in_err-ahead.field-0.0
    (c.in_err-ahead.ensures.reads bytes (rw c.deref-2.ensures.value e)))

pub returns-clause-reads : goal.returns-clause-reads
returns-clause-reads g c = λ bytes e.
    let m = c.in_ok-ahead.ensures.reads bytes (rw c.deref-2.ensures.value e) in
    let raster : c.read_raster-2.new.bytes.items ≡ m.2.0 = m.2.1.appended
    ∙ ap (λ xs. xs ++ m.2.0) c.new-raster.ensures.items in (
      m.0,
      m.1,
      (
        widened c.args.begun.now.header.depth m.2.0,
        texels_are c.args.image c.args.begun.now.header bytes _ _ m.2.1.read,
        rw (c.deref-3.ensures.value, raster) at c.in_ok-push_texels.ensures,
      ),
    )

pub returns-clause-grown : goal.returns-clause-grown
returns-clause-grown g c =
    let size : length c.read_raster-2.new.bytes.items ≡ raster_size c.args.begun.now.header =
    omega (arith, ap length c.new-raster.ensures.items, c.in_ok-ahead.ensures.size) in
    grown_by c.args.begun.now.header.depth
    (c.args.begun.now.header.width * c.args.begun.now.header.height)
    c.read_raster-2.new.bytes.items _ _
    c.requires.header.depth_some c.requires.header.depth_most size
    (rw c.deref-3.ensures.value at c.in_ok-push_texels.ensures)

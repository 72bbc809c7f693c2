use Rattle.std.proofs.Common.{◌≡◌, ◌∙◌, ◌++◌, ◌*◌, ℕ, length, arith, ap, sym, refl, Some, Ok}
use Rattle.std.proofs.lemmas.Result.{err_from_is_err_and}
use Rattle.pam_image.proofs.WideningLaws.{grown_all}
use Rattle.pam_image.proofs.SayLaws.{exit_to}
use Rattle.pam_image.proofs.LoopLaws.{images_first, images_second, images_third, images_are, first_behind, wanted_are}
use Rattle.pam_image.proofs.series.read_series.Goals as goal

pub returns-in_err-begun-clause-reads : goal.returns-in_err-begun-clause-reads
returns-in_err-begun-clause-reads g c = λ bytes e.
    exit_to _ _ _ c.from_residual.result c.in_err-begun.field-0.0 c.from_residual.ensures.1
    (images_first c.args.want.now bytes c.in_err-begun.field-0.0
    (c.in_err-begun.ensures.reads bytes e))

pub returns-in_err-ahead-clause-reads : goal.returns-in_err-ahead-clause-reads
returns-in_err-ahead-clause-reads g c = λ bytes e.
    let m = c.in_ok-begun.ensures.reads bytes e in
    exit_to _ _ _ c.from_residual-in_err-ahead.result c.in_err-ahead.field-0.0
    c.from_residual-in_err-ahead.ensures.1
    (images_second c.args.want.now bytes c.in_ok-begun.begun.header c.in_err-ahead.field-0.0 m.2.0
    (c.in_err-ahead.ensures.reads bytes (rw m.1 (ap Some m.2.1))))

pub returns-in_err-read_all_later-clause-reads : goal.returns-in_err-read_all_later-clause-reads
returns-in_err-read_all_later-clause-reads g c = λ bytes e.
    let m = c.in_ok-begun.ensures.reads bytes e in
    let n = c.in_ok-ahead.ensures.reads bytes (rw m.1 (ap Some m.2.1)) in
    exit_to _ _ _ c.from_residual-in_err-read_all_later.result c.in_err-read_all_later.field-0.0
    c.from_residual-in_err-read_all_later.ensures.1
    (images_third c.args.want.now bytes c.in_ok-begun.begun.header _
    c.in_err-read_all_later.field-0.0 m.2.0 n.2.1
    (c.in_err-read_all_later.ensures.reads (c.in_ok-ahead.ahead.items ++ n.0) (rw n.1 refl)))

pub returns-in_err-read_all_later-clause-early : goal.returns-in_err-read_all_later-clause-early
returns-in_err-read_all_later-clause-early g c = λ bytes rest e f.
    let m = c.in_ok-begun.ensures.reads bytes e in
    let n = c.in_ok-ahead.ensures.reads bytes (rw m.1 (ap Some m.2.1)) in
    let p = err_from_is_err_and c.from_residual-in_err-read_all_later.result
    c.from_residual-in_err-read_all_later.ensures.1 in
    rw (p.1, p.2) (c.in_err-read_all_later.ensures.early (c.in_ok-ahead.ahead.items ++ n.0) bytes
    (rw n.1 refl)
    (first_behind c.args.want.now bytes c.in_ok-begun.begun.header _ m.2.0 n.2.1) rest f)

-- the texels of all images
pub returns-clause-reads : goal.returns-clause-reads
returns-clause-reads g c = λ bytes e.
    let m = c.in_ok-begun.ensures.reads bytes e in
    let n = c.in_ok-ahead.ensures.reads bytes (rw m.1 (ap Some m.2.1)) in
    let o = c.in_ok-read_all_later.ensures.reads (c.in_ok-ahead.ahead.items ++ n.0) (rw n.1 refl) in
    let first : c.read_texels.new.texels.items ≡ n.2.0 = rw c.new-texels.ensures.items at n.2.2 in
    let all : c.read_all_later.new.texels.items ≡ n.2.0 ++ o.2.0 = o.2.2
    ∙ ap (λ xs. xs ++ o.2.0) first in
    let read : _ = images_are c.args.want.now bytes c.in_ok-begun.begun.header _ o.2.0 _ m.2.0 n.2.1
    o.2.1 all in
    (o.0, o.1, (read ∙ ap Ok (sym c.from_raster.ensures.images), o.2.3))

pub from_raster-requires-clause-full : goal.from_raster-requires-clause-full
from_raster-requires-clause-full g c =
    let area : ℕ = c.in_ok-begun.begun.header.width * c.in_ok-begun.begun.header.height in
    let first : length c.read_texels.new.texels.items ≡ 4 * area =
    omega (arith, c.in_ok-ahead.ensures.grown, ap length c.new-texels.ensures.items) in
    grown_all area c.args.want.now.count _ _ c.requires first c.in_ok-read_all_later.ensures.grown

pub returns-clause-wanted : goal.returns-clause-wanted
returns-clause-wanted g c =
    wanted_are c.args.want.now c.from_raster.result _ _ _ c.in_ok-begun.ensures.suits
    c.from_raster.ensures.images

use Rattle.std.proofs.Common.{arith}
use Rattle.pam_image.proofs.RasterLaws.{inside_is, taken_is, short_is}
use Rattle.pam_image.proofs.raster.read_raster.Goals as goal

pub returns-then-size-start-clause-reads : goal.returns-then-size-start-clause-reads
returns-then-size-start-clause-reads g c = λ input e.
    inside_is c.args.image c.args.header.now c.args.front.now c.split_at.result.1.now _ _ _ input _
    c.split_at.ensures.back c.requires.inside (omega arith)
    c.in_ok-raster_in.ensures.raster c.in_ok-raster_in.ensures.rest e

pub returns-then-start-taken-clause-reads : goal.returns-then-start-taken-clause-reads
returns-then-start-taken-clause-reads g c = λ input e.
    let m = c.in_ok-taken.ensures.taken in
    short_is c.args.image c.args.header.now c.args.front.now c.split_at.result.1.now m.0 input _ _ _
    c.in_ok-taken.taken c.split_at.ensures.back c.requires.inside
    m.1 (omega arith) (m.1.ended (omega arith)) e

pub returns-clause-reads : goal.returns-clause-reads
returns-clause-reads g c = λ input e.
    let m = c.in_ok-taken.ensures.taken in
    taken_is c.args.image c.args.header.now c.args.front.now c.split_at.result.1.now
    c.args.bytes.now.items _ _ c.new.result.items m.0 input _ _ _ c.in_ok-taken.taken
    c.split_at.ensures.back c.requires.inside
    c.in_ok-extend_from_slice.ensures.items m.1 m.2 (omega (arith, m.1.most)) c.new.ensures.items e

use Rattle.std.proofs.Common.{◌≡◌}
use Rattle.block_mode.proofs.ShapeLaws.{grid_fault-none}
use Rattle.texel_error.proofs.ShapedLaws.{shaped}
use Rattle.texel_error.proofs.shape.shape_of.Goals as goal

pub colour_shape-requires-clause-weights : goal.colour_shape-requires-clause-weights
colour_shape-requires-clause-weights g c =
    let known : _ = c.requires.legal.2.mode_known in
    let same : c.unwrap-mode.result ≡ c.requires.legal.0 =
    cc (known, c.mode_of.ensures.row, c.unwrap-mode.ensures) in
    rw same (grid_fault-none g.row.W g.row.H c.requires.legal.0
    c.requires.legal.2.no_grid_fault).few

pub returns : goal.returns
returns g c =
    let known : _ = c.requires.legal.2.mode_known in
    let known_level : _ = c.requires.legal.2.no_colour_fault in
    let same : c.unwrap-mode.result ≡ c.requires.legal.0 =
    cc (known, c.mode_of.ensures.row, c.unwrap-mode.ensures) in
    let of_mode : _ = rw same at c.colour_shape.ensures.shape in
    let level : c.unwrap-level.result ≡ c.requires.legal.1 =
    cc (known_level, of_mode, c.unwrap-level.ensures) in
    rw (same, level) (shaped g.row.W g.row.H c.args.coded.now c.requires.legal.0 c.requires.legal.1
    c.requires.footprint c.requires.legal.2)

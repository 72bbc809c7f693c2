use Rattle.ktx_header.proofs.LevelLemmas.{data_first, data_is}
use Rattle.tex_shelf.proofs.StopLemmas.{exit_to}
use Rattle.ktx_source.specs.Sources.{levels_in}
use Rattle.ktx_source.proofs.levels.read_data.Goals as goal

pub returns-in_err-skip_keys-clause-reads : goal.returns-in_err-skip_keys-clause-reads
returns-in_err-skip_keys-clause-reads g c = λ input e.
    exit_to _ _ _ _ c.from_residual.result c.in_err-skip_keys.field-0.0 c.from_residual.ensures.1
    (data_first c.args.header.now.order
    (levels_in c.args.header.now.format c.args.header.now.extent)
    c.args.header.now.extent.levels c.args.header.now.key_bytes input
    c.in_err-skip_keys.field-0.0
    (c.in_err-skip_keys.ensures.reads input e))

pub returns-clause-reads : goal.returns-clause-reads
returns-clause-reads g c = λ input e.
    let m = c.in_ok-skip_keys.ensures.reads input e in
    rw (data_is c.args.header.now.order
    (levels_in c.args.header.now.format c.args.header.now.extent)
    c.args.header.now.extent.levels c.args.header.now.key_bytes input m.1)
    (rw c.from-first.ensures at (c.read_levels.ensures.reads _ m.0))

use Rattle.std.proofs.Common.{◌∙◌, Ok, Err, ap, sym}
use Rattle.tex_shelf.proofs.StopLemmas.{exit_to, late_carried, late_early}
use Rattle.astc_file.specs.Files.{Image, block_fault}
use Rattle.astc_file.specs.Reading.{is_early}
use Rattle.astc_file.proofs.FileLemmas.{file_first, file_second, file_is, blocks_late}
use Rattle.astc_file.proofs.reading.read_steps.Goals as goal

pub returns-in_err-header-clause-reads : goal.returns-in_err-header-clause-reads
returns-in_err-header-clause-reads g c = λ input e.
    exit_to _ _ _ _ c.from_residual.result c.in_err-header.field-0.0 c.from_residual.ensures.1
    (file_first input c.in_err-header.field-0.0 (c.in_err-header.ensures.reads input e))

pub returns-in-Err-clause-reads : goal.returns-in-Err-clause-reads
returns-in-Err-clause-reads g c = λ input e.
    let m = c.in_ok-header.ensures.reads input e in
    file_second input c.in_ok-header.header c.block_count-count.result c.in-Err.stop
    c.map_fault.result m.1 c.block_count-count.ensures.exact c.map_fault.ensures
    (c.in-Err.ensures.reads _ m.0)

pub returns-in-Err-clause-early : goal.returns-in-Err-clause-early
returns-in-Err-clause-early g c = λ input rest e f.
    late_early {X = Image} is_early 16 (λ _. input) rest (Err c.map_fault.result)
    (late_carried Image block_fault is_early c.in-Err.stop c.map_fault.result
    c.map_fault.ensures blocks_late)

pub returns-in-Ok-clause-reads : goal.returns-in-Ok-clause-reads
returns-in-Ok-clause-reads g c = λ input e.
    let m = c.in_ok-header.ensures.reads input e in
    let n = c.in-Ok.ensures.reads _ m.0 in (
      n.0,
      file_is input c.in_ok-header.header c.block_count-count.result _ m.1
          c.block_count-count.ensures.exact n.1 ∙ ap Ok (sym c.new.ensures),
    )

use Rattle.std.proofs.Common.{◌∙◌, Ok, Err, ap, sym}
use Rattle.tex_shelf.proofs.StopLemmas.{exit_to, late_carried, late_early}
use Rattle.ktx_file.specs.Files.{File}
use Rattle.ktx_file.specs.Faults.{data_fault}
use Rattle.ktx_file.specs.Reading.{is_early}
use Rattle.ktx_file.proofs.ReadingLemmas.{data_late}
use Rattle.ktx_file.proofs.LevelLemmas.{file_first, file_second, file_is}
use Rattle.ktx_file.proofs.reading.read_steps.Goals as goal

pub returns-in_err-header-clause-reads : goal.returns-in_err-header-clause-reads
returns-in_err-header-clause-reads g c = λ input e.
    exit_to _ _ _ _ c.from_residual.result c.in_err-header.field-0.0 c.from_residual.ensures.1
    (file_first input c.in_err-header.field-0.0 (c.in_err-header.ensures.reads input e))

pub returns-in-Err-clause-reads : goal.returns-in-Err-clause-reads
returns-in-Err-clause-reads g c = λ input e.
    let m = c.in_ok-header.ensures.reads input e in
    file_second input c.in_ok-header.header c.in-Err.stop c.map_fault.result m.1 c.map_fault.ensures
    (c.in-Err.ensures.reads _ m.0)

pub returns-in-Err-clause-early : goal.returns-in-Err-clause-early
returns-in-Err-clause-early g c = λ input rest e f. late_early {X = File} is_early 64
    (λ _. input) rest (Err c.map_fault.result)
    (late_carried File data_fault is_early c.in-Err.stop c.map_fault.result c.map_fault.ensures
    data_late)

pub returns-in-Ok-clause-reads : goal.returns-in-Ok-clause-reads
returns-in-Ok-clause-reads g c = λ input e.
    let m = c.in_ok-header.ensures.reads input e in
    let n = c.in-Ok.ensures.reads _ m.0 in
    (n.0, file_is input c.in_ok-header.header _ m.1 n.1 ∙ ap Ok (sym c.new.ensures))

use Rattle.std.proofs.Common.{refl}
use Rattle.astc_file.specs.Files.{astc_of}
use Rattle.outcomes.specs.Outcomes.{astc_fault_of}
use Rattle.outcomes.proofs.EndLaws.{complete, after-reading, reads-ends}
use Rattle.exchange.specs.Imports.{Imports, BeginsImport}
use Rattle.exchange.proofs.import.import_file.Goals as goal

pub returns-in-Ok-clause-ends : goal.returns-in-Ok-clause-ends
returns-in-Ok-clause-ends g c =
    complete astc_of (Imports c.args.flavour) (BeginsImport c.args.flavour) c.args.input.now
    c.args.output.now _ _ astc_fault_of c.write_texture.result
    (reads-ends astc_of astc_fault_of refl refl refl refl (Imports c.args.flavour)
    (BeginsImport c.args.flavour) c.in-Ok.image c.args.input.now c.args.output.now _ _
    c.write_texture.result c.in-Ok.ensures.loads
    (after-reading (Imports c.args.flavour) (BeginsImport c.args.flavour) c.in-Ok.image
    c.args.output.now _ _ _ c.write_texture.result
    (rw (c.load.ensures.rest.files, c.load.ensures.rest.target, c.load.ensures.rest.write_faults)
    at c.write_texture.ensures.ends)))

use Rattle.outcomes.proofs.ManyEndLaws.{complete-over}
use Rattle.polishing.specs.Polished.{inputs_in, fault_of, Polishes, BeginsPolish}
use Rattle.polishing.proofs.EndLaws.{ends-both, no-texture-ends}
use Rattle.polishing.proofs.polish.polish_file.Goals as goal

pub returns-in-Ok-clause-ends : goal.returns-in-Ok-clause-ends
returns-in-Ok-clause-ends g c =
    let job = c.args.job.now in
    let rest = c.load_ktx.ensures.rest in
    let images = c.args.images.now in
    let texture = c.args.texture.now in
    complete-over (inputs_in images texture) (Polishes job) (BeginsPolish job) c.args.output.now _ _
    (fault_of c.polish_texture.result) c.polish_texture.result
    (ends-both job images texture c.args.output.now c.in-Ok.ktx _ _ _ rest.read_faults
    c.in-Ok.ensures.loads (fault_of c.polish_texture.result) c.polish_texture.result
    (rw (rest.files, rest.target, rest.write_faults) at c.polish_texture.ensures.ends))

pub returns-in-Err-clause-ends : goal.returns-in-Err-clause-ends
returns-in-Err-clause-ends g c =
    let job = c.args.job.now in
    let rest = c.load_ktx.ensures.rest in
    let images = c.args.images.now in
    let texture = c.args.texture.now in
    rw (c.from.ensures, rest.files, rest.target, rest.write_faults)
    (complete-over (inputs_in images texture) (Polishes job) (BeginsPolish job) c.args.output.now _
    _ _ _
    (no-texture-ends job images c.args.output.now _ _ texture c.in-Err.stop
    c.in-Err.ensures.loads))

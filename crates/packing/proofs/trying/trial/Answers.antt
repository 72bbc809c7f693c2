use Rattle.std.proofs.Common.{Some, IsSome, ◌∙◌, ap, sym, subst, arith}
use Rattle.std.specs.Prelude.{codes}
use Rattle.tex_shelf.specs.Files.{file_at}
use Rattle.tex_shelf.proofs.FilesLemmas.{file_at-insert_same, has_file-insert}
use Rattle.packing.proofs.TrialLaws.{takes_nothing-more}
use Rattle.packing.proofs.trying.trial.Goals as goal

pub try_picture-requires-clause-there : goal.try_picture-requires-clause-there
try_picture-requires-clause-there g c =
    ap (λ shelf. file_at shelf.files (codes "in")) c.in-Ok-add_file.ensures.ok
    ∙ file_at-insert_same c.args.shelf.now.files (codes "in") c.deref.result.now
    ∙ ap Some (c.deref.ensures.value ∙ c.in-Ok.ensures.bytes)

pub returns-in-Ok-add_file-clause-shelf : goal.returns-in-Ok-add_file-clause-shelf
returns-in-Ok-add_file-clause-shelf g c =
    takes_nothing-more _ c.args.shelf.now c.add_file.new.self c.try_picture.new.shelf
    (record {
      read_faults = omega arith;
      write_faults = omega arith;
      can_open = λ name may. subst (λ s. IsSome (file_at s.files name))
          (sym c.in-Ok-add_file.ensures.ok)
          (has_file-insert c.args.shelf.now.files (codes "in") c.deref.result.now name may);
      can_create = λ name may. tt;
      can_put = λ some. subst (λ s. IsSome s.target) (sym c.in-Ok-add_file.ensures.ok) some;
    })
    c.try_picture.ensures.shelf

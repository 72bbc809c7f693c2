use Rattle.std.proofs.Common.{Some, refl, sym, ◌∙◌, ap}
use Rattle.tex_shelf.specs.Files.{file_at}
use Rattle.tex_shelf.specs.States.{FolderState}
use Rattle.tex_shelf.specs.Log.{kept}
use Rattle.tex_shelf.proofs.LogLemmas.{refuted, file_at-target, file_at-log}
use Rattle.tex_shelf.proofs.folder.Folder.file.Goals as goal
use Rattle.tex_shelf.proofs.folder.Folder.file.Goals.{in_default-via-in-Some+else-is_named, in_default-via-in_default}

pub returns-in-Some : goal.returns-in-Some
returns-in-Some c =
    ap Some c.as_slice.ensures.value
    ∙ sym (file_at-target c.self.inside.target c.self.inside.log.items c.in-Some.entry
    c.args.name.now c.in-Some.is (c.if-is_named.ensures.0 refl))
    ∙ ap (λ (folder : FolderState). file_at folder.files c.args.name.now) c.self.view_is

pub returns-in_default : goal.returns-in_default
returns-in_default c =
    c.find.ensures
    ∙ sym (elim c.in_default.branch [
      | in_default-via-in-Some+else-is_named w ↦
          file_at-log c.self.inside.target c.self.inside.log.items w.in-Some.entry c.args.name.now
          w.in-Some.is (refuted w.if-is_named.ensures)
      | in_default-via-in_default w ↦
          ap (λ t. file_at (kept t c.self.inside.log.items) c.args.name.now) w.in_default.is
    ])
    ∙ ap (λ (folder : FolderState). file_at folder.files c.args.name.now) c.self.view_is

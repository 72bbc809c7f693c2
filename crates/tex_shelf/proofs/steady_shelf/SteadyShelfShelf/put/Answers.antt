use Rattle.std.proofs.Common.{◌≡◌, IsSome, sym, ap, subst}
use Rattle.tex_shelf.specs.Files.{Files, file_at}
use Rattle.tex_shelf.specs.States.{FolderState, SteadyState}
use Rattle.tex_shelf.proofs.FilesLemmas.{has_file-appended}
use Rattle.tex_shelf.proofs.steady_shelf.SteadyShelfShelf.put.Goals as goal

pub returns-clause-can_open : goal.returns-clause-can_open
returns-clause-can_open c = λ n there.
    let same : c.args.self.now.files ≡ c.self.inside.folder.files =
    ap (λ (s : SteadyState). s.files) (sym c.self.view_is) in
    subst (λ (folder : FolderState). IsSome (file_at folder.files n))
    (sym c.in_ok-append.ensures.ok)
    (has_file-appended c.self.inside.folder.files c.self.inside.folder.target c.args.piece.now n
    (subst (λ (files : Files). IsSome (file_at files n)) same there))

use Rattle.std.proofs.Common.{None, refl, sym, ◌∙◌, ap, string_bytes}
use Rattle.std.specs.FinMap.{insert}
use Rattle.tex_shelf.specs.Log.{kept}
use Rattle.tex_shelf.proofs.LogLemmas.{refuted, set_as_target, set_in_log}
use Rattle.tex_shelf.proofs.folder.place.Goals as goal
use Rattle.tex_shelf.proofs.folder.place.Goals.{in_default-via-in-Some+else-is_named, in_default-via-in_default}

pub returns-in-Some-clause-ok : goal.returns-in-Some-clause-ok
returns-in-Some-clause-ok c =
    set_as_target c.args.target.now c.args.log.now.items c.in-Some.current c.args.entry c.in-Some.is
    (sym c.as_str.ensures.value ∙ c.if-is_named.ensures.0 refl)

pub returns-in_ok-push_front-in_default-clause-ok :
    goal.returns-in_ok-push_front-in_default-clause-ok
returns-in_ok-push_front-in_default-clause-ok c =
    let log = c.args.log.now.items in
    let entry = c.args.entry in
    elim c.in_default.branch [
      | in_default-via-in-Some+else-is_named w ↦
          ap (λ t. kept t c.push_front.new.self.items) (w.target-is ∙ sym w.in-Some.is)
          ∙ ap (kept c.args.target.now) c.in_ok-push_front-in_default.ensures.items
          ∙ set_in_log c.args.target.now log w.in-Some.current entry w.in-Some.is
          (λ same. refuted w.if-is_named.ensures (w.as_str.ensures.value ∙ same))
      | in_default-via-in_default w ↦
          ap (λ t. kept t c.push_front.new.self.items) (w.target-is ∙ w.in_default.is)
          ∙ ap (kept None) c.in_ok-push_front-in_default.ensures.items
          ∙ ap (λ t. insert (kept t log) (string_bytes entry.name) entry.bytes.items)
          (sym w.in_default.is)
    ]

use Rattle.std.proofs.Common.{ℕ, ◌+◌, List, [], take, drop, refl, sym, ◌∙◌, ap, subst, rules}
use Rattle.std.specs.Prelude.{slice_index_or}
use Rattle.std.specs.Borrow.{Bor}
use Rattle.tex_shelf.specs.Files.{with_more}
use Rattle.outcomes.specs.Causes.{Stopped, IsPartlyPut, joined}
use Rattle.outcomes.proofs.PieceLaws.{put-none, put-more, puts-error, stopped-put, stopped-more, joined-more, joined-around}
use Rattle.outcomes.proofs.storing.put_each.Goals as goal

pub loop-k-init : goal.loop-k-init
loop-k-init g c = record {
  files = put-none (g.S.Shelf.files c.args.shelf.now) (g.S.Shelf.target c.args.shelf.now);
  target = refl;
  rest = search rules;
}

-- the part of a slice past its end
abbrev nothing : Bor (List ℕ)
nothing = record { ref_ptr = (0, 0); now = [] }

pub returns-in_err-put_all-clause-puts : goal.returns-in_err-put_all-clause-puts
returns-in_err-put_all-clause-puts g c =
    let pieces = c.args.pieces.now in
    let piece : List ℕ = (slice_index_or pieces c.loop-k.k nothing).now in
    let stop = c.in_err-put_all.field-0.0 in
    puts-error c.from_residual.result _ _ _ _ _ _ stop c.from_residual.ensures.1
    (subst (λ bytes. Stopped (g.S.Shelf.write_faults c.args.shelf.now)
    (g.S.Shelf.write_faults c.put_all.new.shelf)
    (IsPartlyPut (g.S.Shelf.files c.args.shelf.now)
    (g.S.Shelf.target c.args.shelf.now) bytes (g.S.Shelf.files c.put_all.new.shelf))
    stop)
    (sym (joined-around pieces c.loop-k.k nothing c.loop-k-test.true))
    (stopped-more _ _ _ _ _ (joined (take c.loop-k.k pieces)) piece
    (joined (drop (c.loop-k.k + 1) pieces)) _ _ _ stop c.loop-k.invariant.files
    c.loop-k.invariant.target c.loop-k.invariant.rest.write_faults
    (stopped-put (IsPartlyPut (g.S.Shelf.files c.loop-k.shelf)
    (g.S.Shelf.target c.loop-k.shelf) piece (g.S.Shelf.files c.put_all.new.shelf)) _ _
    stop c.in_err-put_all.ensures.partly c.in_err-put_all.ensures.failed)))

pub loop-k-preserved : goal.loop-k-preserved
loop-k-preserved g c =
    let pieces = c.args.pieces.now in
    record {
      files = put-more _ _ _ _ _ (joined (take c.loop-k.k pieces))
          (slice_index_or pieces c.loop-k.k nothing).now c.loop-k.invariant.files
          c.loop-k.invariant.target c.in_ok-put_all.ensures.bytes
          ∙ ap (λ bytes. with_more (g.S.Shelf.files c.args.shelf.now)
          (g.S.Shelf.target c.args.shelf.now) bytes)
          (sym (joined-more pieces c.loop-k.k nothing c.loop-k-test.true));
      target = c.put_all.ensures.target ∙ c.loop-k.invariant.target;
      rest = search rules;
    }

use Rattle.std.proofs.Common.{ℕ, List, refl, ◌∙◌, ap}
use Rattle.std.specs.List.{flat_map}
use Rattle.outcomes.proofs.EndLaws.{end-done, end-told, end-stored}
use Rattle.parting.specs.Framing.{FramesPart, BeginsFrame}
use Rattle.parting.proofs.FrameLaws.{frames-of}
use Rattle.parting.proofs.part.write_part.Goals as goal

pub returns-in-Ok-report_range-clause-ends : goal.returns-in-Ok-report_range-clause-ends
returns-in-Ok-report_range-clause-ends g c =
    let front = c.args.front.now in
    let settled = c.args.settled.now in
    let made = frames-of front settled.blocks.items settled.errors.items
    c.part_header-header.ensures c.part_range-start.ensures.start
    c.as_slice.ensures.value c.as_slice-errors.ensures.value c.in-Ok.ensures
    (c.as_flattened.ensures.value
    ∙ ap (flat_map (λ (piece : List ℕ). piece)) c.deref.ensures.value) in
    end-done (FramesPart front) (BeginsFrame front) settled c.args.output.now _ _ _ _ made
    (λ k. (_, made)) c.in-Ok-store.ensures.stores c.in-Ok-store.ensures.target
    c.in-Ok-report_range.ensures.tells

pub returns-in-Ok-store-clause-ends : goal.returns-in-Ok-store-clause-ends
returns-in-Ok-store-clause-ends g c =
    let front = c.args.front.now in
    let settled = c.args.settled.now in
    let made = frames-of front settled.blocks.items settled.errors.items
    c.part_header-header.ensures c.part_range-start.ensures.start
    c.as_slice.ensures.value c.as_slice-errors.ensures.value c.in-Ok.ensures
    (c.as_flattened.ensures.value
    ∙ ap (flat_map (λ (piece : List ℕ). piece)) c.deref.ensures.value) in
    rw c.after_report.ensures
    (end-told (FramesPart front) (BeginsFrame front) settled c.args.output.now _ _ _ _ made
    (λ k. (_, made)) c.in-Err-report_range.stop c.in-Ok-store.ensures.stores
    c.in-Ok-store.ensures.target c.in-Err-report_range.ensures.tells)

pub returns-clause-ends : goal.returns-clause-ends
returns-clause-ends g c =
    let front = c.args.front.now in
    let settled = c.args.settled.now in
    let made = frames-of front settled.blocks.items settled.errors.items
    c.part_header-header.ensures c.part_range-start.ensures.start
    c.as_slice.ensures.value c.as_slice-errors.ensures.value c.in-Ok.ensures
    (c.as_flattened.ensures.value
    ∙ ap (flat_map (λ (piece : List ℕ). piece)) c.deref.ensures.value) in
    rw c.after_write.ensures
    (end-stored (FramesPart front) (BeginsFrame front) settled c.args.output.now _ _ _ _ made
    (λ k. (_, made)) c.in-Err.stop refl c.in-Err.ensures.stores)

use Rattle.std.proofs.Common.{◌++◌, ◌∷◌, [], take, sym, ◌∙◌, ap}
use Rattle.parting.specs.Parts.{pieces_of}
use Rattle.parting.proofs.BlockLaws.{pieces-more}
use Rattle.parting.proofs.pieces.pieces_of.Goals as goal

pub loop-k-preserved : goal.loop-k-preserved
loop-k-preserved c =
    c.in_ok-push.ensures.items ∙ ap (λ xs. xs ++ c.piece_of.result ∷ []) c.loop-k.invariant
    ∙ ap (λ x. pieces_of (take c.loop-k.k c.args.blocks.now) (take c.loop-k.k c.args.errors.now)
    ++ x ∷ []) c.piece_of.ensures
    ∙ sym (pieces-more c.args.blocks.now c.args.errors.now c.loop-k.k c.loop-k-test.true c.requires)

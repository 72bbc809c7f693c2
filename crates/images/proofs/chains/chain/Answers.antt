use Rattle.std.proofs.Common.{◌≡◌, ◌∙◌, ◌-◌, ◌++◌, ◌∷◌, [], ℕ, ap, arith, length, length-append}
use Rattle.images.specs.Chains.{halved, images_at_level}
use Rattle.images.proofs.ChainLaws.{first_level, levels_more, level_is}
use Rattle.images.proofs.chains.chain.Goals as goal

pub loop-level-init : goal.loop-level-init
loop-level-init c =
    let one : c.push.new.self.items ≡ c.args.images ∷ [] = c.in_ok-push.ensures.items
    ∙ ap (λ xs. xs ++ c.args.images ∷ []) c.in_ok-chain.ensures.items in
    record { levels = first_level c.args.images c.push.new.self.items one; size = ap length one }

pub loop-level-preserved : goal.loop-level-preserved
loop-level-preserved c =
    let level : ℕ = c.loop-level.level in
    let before : c.index.result.now ≡ images_at_level c.args.images (level - 1) =
    c.index.ensures ∙ level_is c.args.images level (level - 1) c.loop-level.chain.items
    c.index.result.now c.loop-level.invariant.levels (omega arith)
    in
    let next : c.in_ok-next.next ≡ halved (images_at_level c.args.images (level - 1)) =
    c.in_ok-next.ensures.same ∙ ap halved before in
    record {
      levels = levels_more c.args.images level c.loop-level.chain.items
          c.push-in-loop-level.new.self.items c.in_ok-next.next c.loop-level.invariant.levels next
          (omega arith) c.in_ok-push-2.ensures.items;
      size = omega (
        arith,
        ap length c.in_ok-push-2.ensures.items,
        length-append
            c.loop-level.chain.items (c.in_ok-next.next ∷ []),
      );
    }

use Rattle.std.proofs.Common.{◌≡◌, ◌-◌, ◌∙◌, ℕ, List, length, take, drop, ◌++◌, ap, arith}
use Rattle.tex_shelf.proofs.GrowingLemmas.{written_back, places_behind, filled_behind}
use Rattle.tex_shelf.proofs.growing.take_step.Goals as goal

pub returns-clause-taken : goal.returns-clause-taken
returns-clause-taken g c =
    let before : List ℕ = c.args.bytes.now.items in
    let places : List ℕ = c.take_behind.new.bytes in
    let at : c.len-at.result ≡ length before =
    omega (arith, c.args.bytes.now.ok, c.len-at.ensures) in
    let begins : take c.len-at.result places ≡ before =
    c.in_ok-taken.ensures.front
    ∙ places_behind before _ c.deref_mut.result.now _ c.len-at.result
    c.args.most at c.deref_mut.ensures.value c.in_ok-resize.ensures.items
    in
    let back : take c.resize.new.self.len (places ++ drop (length places) c.resize.new.self.items)
    ≡ places =
    written_back places c.resize.new.self.items c.resize.new.self.len
    (omega (arith, c.resize.new.self.ok, c.in_ok-resize.ensures.len))
    in
    let wide : length c.deref_mut.result.now - c.len-at.result ≡ c.args.most =
    omega (
      arith,
      c.resize.new.self.ok,
      c.in_ok-resize.ensures.len,
      ap length
          c.deref_mut.ensures.value,
    ) in
    filled_behind before places c.truncate.new.self.items c.len-at.result c.args.most _
    c.in_ok-taken.taken _ _ begins wide c.in_ok-taken.ensures.taken
    (rw back at c.truncate.ensures.items)

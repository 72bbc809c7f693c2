use Rattle.std.proofs.Common.{◌≡◌, ◌+◌, ◌-◌, [], ◌∷◌, ◌++◌, ap, sym, ◌∙◌, arith}
use Rattle.std.proofs.lemmas.List.{append-nil}
use Rattle.astc_model.specs.Bits.{field_of}
use Rattle.astc_model.specs.declared.level.Digit.TheVariants.{Bits}
use Rattle.astc_model.specs.Sequences.{values_in}
use Rattle.ise_codec.proofs.ReadingLemmas.{group_step, nothing_left}
use Rattle.ise_codec.proofs.reading.read_bits.Goals as goal

pub loop-i-preserved : goal.loop-i-preserved
loop-i-preserved c =
    let v = c.small_field.result in
    let read : v ≡ field_of c.low_half.result 0 c.args.low = c.small_field.ensures.field in
    let step = group_step Bits c.args.low (c.args.count - c.loop-i._i)
    (c.args.count - (c.loop-i._i + 1)) c.loop-i.rest (v ∷ []) c.loop-i.values.items
    (values_in Bits c.args.low c.args.count c.args.bits)
    c.loop-i.invariant.0 (omega arith) (omega arith)
    (ap (λ x. x ∷ []) (read ∙ ap (λ z. field_of z 0 c.args.low) c.low_half.ensures))
    in
    (rw c.push.ensures.items step, omega (arith, c.push.ensures.len, c.loop-i.invariant.1))

pub returns : goal.returns
returns c =
    let none : c.args.count - c.loop-i._i ≡ 0 = omega arith in
    let nothing : values_in Bits c.args.low (c.args.count - c.loop-i._i) c.loop-i.rest ≡ [] =
    ap (λ n. values_in Bits c.args.low n c.loop-i.rest) none ∙ nothing_left c.args.low c.loop-i.rest
    in
    sym (append-nil c.loop-i.values.items) ∙ ap (λ xs. c.loop-i.values.items ++ xs) (sym nothing)
    ∙ c.loop-i.invariant.0

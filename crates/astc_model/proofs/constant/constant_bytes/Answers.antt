use Rattle.std.proofs.Common.{◌≡◌, ◌^◌, ◌<◌, get_or, length, rules}
use Rattle.astc_model.proofs.ConstantLaws.{read-constant_block_bytes, four_entries}
use Rattle.astc_model.proofs.constant.constant_bytes.Goals as goal

pub returns-clause-reads_back : goal.returns-clause-reads_back
returns-clause-reads_back c = λ w h.
    let four : length c.args.rgba ≡ 4 = search rules in
    let red : get_or c.args.rgba 0 0 < 2 ^ 16 = search rules in
    let green : get_or c.args.rgba 1 0 < 2 ^ 16 = search rules in
    let blue : get_or c.args.rgba 2 0 < 2 ^ 16 = search rules in
    let alpha : get_or c.args.rgba 3 0 < 2 ^ 16 = search rules in
    rw (
      c.to_le_bytes-red.ensures,
      c.to_le_bytes-green.ensures,
      c.to_le_bytes-blue.ensures,
      c.to_le_bytes-alpha.ensures,
      four_entries c.args.rgba four,
    )
    (read-constant_block_bytes (get_or c.args.rgba 0 0) (get_or c.args.rgba 1 0)
    (get_or c.args.rgba 2 0) (get_or c.args.rgba 3 0) red green blue alpha w h)

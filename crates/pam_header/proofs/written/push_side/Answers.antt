use Rattle.std.proofs.Common.{◌≤◌, length, arith, lit<, length-append, ap}
use Rattle.std.specs.Fmt.{decimal}
use Rattle.std.proofs.lemmas.Fmt.{length-decimal-le}
use Rattle.pam_header.proofs.written.push_side.Goals as goal

pub push_number-requires : goal.push_number-requires
push_number-requires c =
    let few : length (decimal c.args.side) ≤ 4 = length-decimal-le 4 c.args.side (lit< tt)
    (omega arith) (omega arith) in
    omega arith

pub returns-clause-size : goal.returns-clause-size
returns-clause-size c =
    let few : length (decimal c.args.side) ≤ 4 = length-decimal-le 4 c.args.side (lit< tt)
    (omega arith) (omega arith) in
    omega (
      arith,
      ap length c.push_number.ensures,
      length-append c.args.header.now.items
          (decimal c.args.side),
    )

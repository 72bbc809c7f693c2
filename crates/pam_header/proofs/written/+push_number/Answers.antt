use Rattle.std.proofs.Common.{◌≡◌, ◌∙◌, ◌++◌, ◌∷◌, [], ◌/◌, ◌%◌, ◌+◌, length, ap, sym, arith, append_assoc, length-append}
use Rattle.std.specs.Fmt.{decimal}
use Rattle.std.proofs.lemmas.Fmt.{decimal_digit, decimal_step}
use Rattle.pam_header.proofs.written.+push_number.Goals as goal

pub push-requires : goal.push-requires
push-requires t c = omega (arith, ap length (decimal_digit c.args.n (omega arith)))

pub returns-then-n-lt10 : goal.returns-then-n-lt10
returns-then-n-lt10 t c = c.push.ensures.items ∙ ap (λ xs. c.args.header.now.items ++ xs)
    (sym (decimal_digit c.args.n (omega arith)))

pub push_number-requires : goal.push_number-requires
push_number-requires t c =
    let digits : decimal c.args.n ≡ decimal (c.args.n / 10) ++ (48 + c.args.n % 10) ∷ [] =
    decimal_step c.args.n (omega arith) (omega arith) in (
      omega arith,
      omega (
        arith,
        ap length digits,
        length-append (decimal (c.args.n / 10))
            ((48 + c.args.n % 10) ∷ []),
      ),
    )

pub push-requires-else-n-lt10 : goal.push-requires-else-n-lt10
push-requires-else-n-lt10 t c =
    let digits : decimal c.args.n ≡ decimal (c.args.n / 10) ++ (48 + c.args.n % 10) ∷ [] =
    decimal_step c.args.n (omega arith) (omega arith) in
    omega (
      arith,
      ap length digits,
      ap length c.push_number.ensures,
      length-append (decimal (c.args.n / 10)) ((48 + c.args.n % 10) ∷ []),
      length-append c.args.header.now.items (decimal (c.args.n / 10)),
    )

pub returns-else-n-lt10 : goal.returns-else-n-lt10
returns-else-n-lt10 t c =
    let last : _ = (48 + c.args.n % 10) ∷ [] in
    let digits : decimal c.args.n ≡ decimal (c.args.n / 10) ++ last =
    decimal_step c.args.n (omega arith) (omega arith) in
    c.push-else-n-lt10.ensures.items
    ∙ ap (λ xs. xs ++ last) c.push_number.ensures
    ∙ append_assoc c.args.header.now.items (decimal (c.args.n / 10)) last
    ∙ ap (λ xs. c.args.header.now.items ++ xs) (sym digits)

use Rattle.std.proofs.Common.{arith, rules}
use Rattle.std.proofs.lemmas.Bool.{leb-true, le-leb}
use Rattle.astc_model.specs.Blocks.{no_extent}
use Rattle.descent.proofs.ConstantLaws.{least_constant, no_change_of_least}
use Rattle.descent.proofs.least.is_least_constant.Goals as goal

pub returns : goal.returns
returns g c = (
  λ test. no_change_of_least g.row.W g.row.H c.args.flavour c.args.weights c.args.source.now
      c.args.constant.now
      (λ other. omega (
        arith,
        leb-true c.error_of-error.result c.constant_error.result test,
        c.error_of-error.ensures.exact,
        c.constant_error.ensures.exact c.args.flavour,
        c.mean_constant.ensures.least c.args.flavour c.args.weights other,
      )),
  λ none. le-leb c.error_of-error.result c.constant_error.result (omega (
    arith,
    c.error_of-error.ensures.exact,
    c.constant_error.ensures.exact c.args.flavour,
    least_constant g.row.W g.row.H c.args.flavour c.args.weights c.args.source.now
        c.args.constant.now (record { rgba = c.mean_constant.result; extent = no_extent })
        (search rules) c.requires.four_values (search rules) (search rules) (search rules)
        (search rules) (search rules) none,
  )),
)

use Rattle.std.proofs.Common.{◌<◌, ◌≤◌, [], ◌∷◌, refl, arith}
use Rattle.std.specs.List.{All}
use Rattle.std.proofs.lemmas.List.Elements.{All-replicate}
use Rattle.astc_model.proofs.FootprintLaws.{sides_few}
use Rattle.texel_error.proofs.TexelLaws.{constant_shows}
use Rattle.texel_error.proofs.decoded.decode_constant.Goals as goal

pub returns-clause-sound : goal.returns-clause-sound
returns-clause-sound g c = record {
  part_numbers = All-replicate (λ part. part < 4) 144 0 (omega arith);
  small_numerators = All-replicate (λ pair. All (λ n. n ≤ 1024) pair) 144 (0 ∷ 0 ∷ [])
      (All-replicate (λ n. n ≤ 1024) 2 0 (omega arith));
  all_parts = refl;
  all_numerators = refl;
}

pub returns-clause-shows : goal.returns-clause-shows
returns-clause-shows g c =
    constant_shows g.row.W g.row.H c.args.flavour c.args.constant.now _
    (sides_few g.row.W g.row.H c.requires.footprint) c.requires.legal
    refl refl refl (rw c.top_bytes-colour.ensures refl) refl

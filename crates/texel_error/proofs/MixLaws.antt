-- Interpolation of endpoints from their bytes.
use Rattle.std.proofs.Common.{◌≡◌, ℕ, ◌+◌, ◌-◌, ◌*◌, ◌/◌, ◌≤◌, ◌==◌, Bool, true, false, cond, arith}
use Rattle.astc_model.specs.declared.flavour.Flavour.{Flavour}
use Rattle.astc_model.specs.declared.flavour.Flavour.TheVariants.{Linear, Srgb}
use Rattle.astc_model.specs.CodedTexels.{widened, mixed}
use Rattle.texel_error.specs.Shown.{top_of}

repeated : (a b w mix : ℕ) → mix ≡ a * (64 - w) + b * w → (257 * mix + 32) / 64 / 256
    ≡ mixed (257 * a) (257 * b) w / 256
repeated a b w mix is = omega (arith, is)

centred : (a b w mix : ℕ) → w ≤ 64 → mix ≡ a * (64 - w) + b * w → (256 * mix + 8192 + 32) / 64 / 256
    ≡ mixed (256 * a + 128) (256 * b + 128) w / 256
centred a b w mix small is = omega (arith, is, small)

-- the interpolation of the bytes gives the same decoded byte as that of the widened channels
pub top_of_mix : (flavour : Flavour) (c a b w mix : ℕ) → w ≤ 64 → mix ≡ a * (64 - w) + b * w
    → top_of flavour c mix ≡ mixed (widened flavour c a) (widened flavour c b) w / 256
top_of_mix Linear c a b w mix small is = repeated a b w mix is
top_of_mix Srgb c a b w mix small is = by (c == 3)
  where
    by : (t : Bool) → cond t ((257 * mix + 32) / 64 / 256) ((256 * mix + 8192 + 32) / 64 / 256)
        ≡ mixed (cond t (257 * a) (256 * a + 128)) (cond t (257 * b) (256 * b + 128)) w / 256
    by true = repeated a b w mix is
    by false = centred a b w mix small is

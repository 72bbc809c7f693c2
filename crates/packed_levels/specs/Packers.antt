-- The value that settles the blocks of a texture.
use Rattle.std.specs.Prelude.{◌≡◌, ℕ, IsTrue}
use Rattle.astc_model.specs.Footprints.{is_footprint}
use Rattle.encoder.specs.declared.settings.Settings.{Settings}
use Rattle.packed_levels.specs.declared.options.PackOptions.{PackOptions}

-- an encoder of blocks of a footprint by these options
pub record IsPacker (w h : ℕ) (options : PackOptions) (encoder : Settings) : Type 0 where
  pub listed : IsTrue (is_footprint w h)
  pub settings : encoder ≡ options.settings

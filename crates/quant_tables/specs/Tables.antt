-- Tables of values and of closest integers, by an index from 0 on.
use Rattle.std.specs.Prelude.{ℕ, List, map}
use Rattle.std.specs.List.{range_with_len}
use Rattle.astc_model.specs.ColourValues.{colour_value}
use Rattle.astc_model.specs.Levels.{count_of}
use Rattle.astc_model.specs.Nearest.{nearest_colour, nearest_weight}
use Rattle.astc_model.specs.WeightValues.{weight_value}
use Rattle.astc_model.specs.declared.level.Level.{Level}

-- the unquantized colour values of all integers of a level
abbrev pub colour_values_of : Level → List ℕ
colour_values_of level = map (colour_value level) (range_with_len 0 (count_of level))

-- the unquantized weights of all integers of a level
abbrev pub weight_values_of : Level → List ℕ
weight_values_of level = map (weight_value level) (range_with_len 0 (count_of level))

-- for each byte the integer whose colour value is closest
abbrev pub nearest_colours_of : Level → List ℕ
nearest_colours_of level = map (nearest_colour level) (range_with_len 0 256)

-- for each weight of 0 to 64 the integer whose value is closest
abbrev pub nearest_weights_of : Level → List ℕ
nearest_weights_of level = map (nearest_weight level) (range_with_len 0 65)

-- a byte after quantization and unquantization at a level
abbrev pub nearest_colour_value : Level → ℕ → ℕ
nearest_colour_value level value = colour_value level (nearest_colour level value)

-- each byte after quantization and unquantization at a level
abbrev pub nearest_colour_values_of : Level → List ℕ
nearest_colour_values_of level = map (nearest_colour_value level) (range_with_len 0 256)

-- a weight after quantization and unquantization at a level
abbrev pub nearest_weight_value : Level → ℕ → ℕ
nearest_weight_value level target = weight_value level (nearest_weight level target)

-- each weight of 0 to 64 after quantization and unquantization at a level
abbrev pub nearest_weight_values_of : Level → List ℕ
nearest_weight_values_of level = map (nearest_weight_value level) (range_with_len 0 65)

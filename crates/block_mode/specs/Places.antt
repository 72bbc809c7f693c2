-- The indices of levels in tables.
use Rattle.std.specs.Prelude.{ℕ}
use Rattle.astc_model.specs.declared.level.Level.{Level}
use Rattle.astc_model.specs.declared.level.Level.TheVariants.{Two, Three, Four, Five, Six, Eight, Ten, Twelve, Sixteen, Twenty, TwentyFour, ThirtyTwo, Forty, FortyEight, SixtyFour, Eighty, NinetySix, OneTwentyEight, OneSixty, OneNinetyTwo, TwoFiftySix}

-- the index of a level, in ascending order
unfoldable pub level_place : Level → ℕ
level_place Two = 0
level_place Three = 1
level_place Four = 2
level_place Five = 3
level_place Six = 4
level_place Eight = 5
level_place Ten = 6
level_place Twelve = 7
level_place Sixteen = 8
level_place Twenty = 9
level_place TwentyFour = 10
level_place ThirtyTwo = 11
level_place Forty = 12
level_place FortyEight = 13
level_place SixtyFour = 14
level_place Eighty = 15
level_place NinetySix = 16
level_place OneTwentyEight = 17
level_place OneSixty = 18
level_place OneNinetyTwo = 19
level_place TwoFiftySix = 20

mod ColourTables
mod NearestColourTables
mod NearestColourValueTables
pub mod NearestLaws
mod NearestWeightTables
mod NearestWeightValueTables
pub mod ValueLaws
mod WeightTables

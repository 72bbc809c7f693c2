pub mod SumSteps
pub mod GatherSteps
pub mod WholeLaws
pub mod LineLaws
pub mod PartLaws
pub mod FloorLaws
pub mod ErrorLaws

pub mod PartitionLaws
mod Shifts

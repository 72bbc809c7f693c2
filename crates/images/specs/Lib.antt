pub mod Chains
pub mod Digests
pub mod Pictures
pub mod TrialPictures

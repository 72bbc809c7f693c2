pub mod ChainLaws
pub mod DigestLaws
pub mod LevelLaws
pub mod TexelLaws

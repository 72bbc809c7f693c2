pub mod BlockLaws
pub mod DigestLemmas
pub mod FrameLaws
pub mod GatherLaws
pub mod JoinLaws
pub mod SameLaws
pub mod TogetherLaws

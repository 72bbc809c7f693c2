pub mod CodeLemmas
pub mod ConstantLemmas
pub mod LayoutLemmas
pub mod LegalLemmas
pub mod PackingLemmas
pub mod RoundTripLemmas
pub mod WeightLemmas

pub mod JsonLemmas
pub mod MomentLemmas
pub mod TextLemmas

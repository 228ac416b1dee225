pub mod OptionLemmas
pub mod NumberLemmas
pub mod DurationLemmas
pub mod TimeoutLemmas
pub mod CommandLemmas
pub mod PolicyLemmas
pub mod ServerLemmas
pub mod MomentLemmas

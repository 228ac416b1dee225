pub mod ChangeLemmas
pub mod NumberLemmas
pub mod QueueLemmas
pub mod KeptLemmas
pub mod MemberLemmas
pub mod BackLemmas
pub mod WayLemmas

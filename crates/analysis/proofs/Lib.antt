pub mod KeptLemmas
pub mod OtherLemmas
pub mod SaidLemmas

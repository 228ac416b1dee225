pub mod CountingLemmas
pub mod SearchLemmas
pub mod EstablishLemmas
pub mod NameLemmas

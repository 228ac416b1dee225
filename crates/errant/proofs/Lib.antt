pub mod WinnerLemmas

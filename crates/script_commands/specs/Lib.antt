pub mod Words
pub mod Numbers
pub mod Moments
pub mod Options
pub mod Commands
pub mod Grammar

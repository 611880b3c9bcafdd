pub mod CountsLemmas
pub mod Putting
pub mod TakenLemmas

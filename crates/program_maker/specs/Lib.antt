pub mod Draws
pub mod MadeText

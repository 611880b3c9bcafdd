pub mod Definite
pub mod InMail

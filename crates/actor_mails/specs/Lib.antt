pub mod Firsts
pub mod Mails

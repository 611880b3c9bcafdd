pub mod FirstMessages
pub mod Mails
pub mod MessageQueues

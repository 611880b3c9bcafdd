pub mod Going
pub mod Leads
pub mod Sending

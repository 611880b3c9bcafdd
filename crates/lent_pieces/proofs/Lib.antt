pub mod Doomed
pub mod Given
pub mod Leads
pub mod Lending
pub mod Returning
pub mod Stale

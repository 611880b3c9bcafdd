pub mod AfterOrder
pub mod Counted
pub mod FirstOf
pub mod Inserted
pub mod Rising

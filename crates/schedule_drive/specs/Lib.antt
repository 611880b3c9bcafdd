pub mod Drive
pub mod Entries
pub mod Laws
pub mod UnderWay

pub mod layer
pub mod shared
pub mod shared_vector

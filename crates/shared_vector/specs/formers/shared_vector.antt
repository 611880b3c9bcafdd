pub mod SharedVector

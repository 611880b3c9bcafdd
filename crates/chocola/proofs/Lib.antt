pub mod StressSize
pub mod WithoutMemory

pub mod CopiedMaps
pub mod EffectMarks
pub mod SendCounts

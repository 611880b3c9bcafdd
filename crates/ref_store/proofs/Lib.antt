pub mod CommitLaws
pub mod PlaceLaws
pub mod PruneLaws
pub mod PruningLaws
pub mod StoreLaws
pub mod VersionLaws
pub mod WriteLaws

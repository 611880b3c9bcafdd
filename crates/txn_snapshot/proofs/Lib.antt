pub mod Layers
pub mod ReadLaws
pub mod ReadsAgree
pub mod Replies
pub mod TreeAnswers

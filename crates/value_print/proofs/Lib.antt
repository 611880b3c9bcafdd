pub mod MapTexts

pub mod EarlyForms

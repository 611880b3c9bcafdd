pub mod SlotSet
pub mod Words

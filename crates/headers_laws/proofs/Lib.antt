pub mod LawsOfFields
pub mod LawsOfPeople
pub mod LawsOfText

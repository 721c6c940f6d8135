pub mod GivenLemmas
mod CoreLemmas
mod ShownLemmas
mod KeysLemmas
mod TurnLemmas
pub mod TellingLemmas
mod SettlingLemmas
pub mod StepsLemmas
mod WorksLemmas
mod WritingLemmas
mod PressLemmas
mod BehindLemmas
mod BeginningLemmas
mod CallsLemmas
mod CheckedLemmas
mod CheckingLemmas
mod LookingLemmas
mod FittingLemmas
mod OpeningLemmas
mod LearningLemmas
mod ReadingLemmas
mod ActingLemmas
mod PagingLemmas
mod ShowingLemmas

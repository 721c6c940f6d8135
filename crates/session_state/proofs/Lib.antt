mod DateLemmas
mod ReadingLemmas
mod ExprLemmas
mod FramesLemmas

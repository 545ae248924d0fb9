-- What the calls answer.
pub mod Numbers
pub mod Answers
pub mod Works

pub mod Question

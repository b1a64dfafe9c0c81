pub mod HistoryAnswers
pub mod OneResult

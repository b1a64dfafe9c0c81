pub mod TableAnswers
pub mod OneResult

pub mod HistoryAnswers
pub mod KeptHistories
pub mod FileCodes

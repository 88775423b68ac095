pub mod HistoryChanges

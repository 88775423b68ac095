pub mod TarLemmas
pub mod UntarLemmas
pub mod EntryLemmas
pub mod RoomLemmas
pub mod WriteLemmas
pub mod ArchiveLemmas

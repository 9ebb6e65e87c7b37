pub mod SeenRecords
pub mod SeenEntries

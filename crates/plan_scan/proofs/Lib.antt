-- Laws of the scan of a plan's records.
pub mod RefusalNumbers
pub mod KindTables
pub mod RecordTable
pub mod RunLaws
pub mod Scanning

pub mod CsvRecords
pub mod Utf8Texts
pub mod Fronts
pub mod Readings

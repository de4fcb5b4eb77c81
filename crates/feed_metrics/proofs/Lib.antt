pub mod FamilyLines
pub mod SeriesFound
pub mod SamplesWritten
pub mod RowsWritten
pub mod LinesRead
pub mod Numbers
pub mod LabelsRead

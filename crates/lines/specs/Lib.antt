pub mod Parts
pub mod SummaryLines
pub mod TraceLines

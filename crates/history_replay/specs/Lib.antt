pub mod Results
pub mod Law

pub mod Heap
pub mod Lending
pub mod Status
pub mod Writing

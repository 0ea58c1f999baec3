mod BorrowedData
pub mod Texts

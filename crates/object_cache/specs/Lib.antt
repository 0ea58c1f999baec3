pub mod ObjectTable

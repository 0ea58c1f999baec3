pub mod KeptObjects

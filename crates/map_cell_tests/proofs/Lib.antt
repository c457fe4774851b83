pub mod Published

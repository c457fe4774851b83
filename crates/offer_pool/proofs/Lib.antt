pub mod Queues
pub mod Firsts
pub mod Refiled
pub mod Tables
pub mod Worst
pub mod Views

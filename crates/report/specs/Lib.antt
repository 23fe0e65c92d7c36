pub mod Report
pub mod Lines
pub mod Letters

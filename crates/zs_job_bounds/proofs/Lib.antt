pub mod Histories
pub mod Within
pub mod Numbers
pub mod Accepted
pub mod Plans
pub mod Rows

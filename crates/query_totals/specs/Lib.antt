pub mod Tallies
pub mod Totals

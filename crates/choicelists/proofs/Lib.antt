pub mod Totals
pub mod Leads

pub mod MoietyRow
pub mod Wording

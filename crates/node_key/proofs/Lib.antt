mod KeyKids
pub mod Kids
pub mod Leading
pub mod Numbering
pub mod Placing
pub mod StakeLaws

pub mod Twins
pub mod Fronts
pub mod SameTrees
pub mod TrackTrees
pub mod LeadsByKeys
pub mod Reached

pub mod EventLaws
pub mod FirstOf
pub mod LinesSoFar
pub mod OneMoreLine
pub mod PlacedMore
pub mod RefusedMore
pub mod TakenLines
pub mod WithoutPlaces

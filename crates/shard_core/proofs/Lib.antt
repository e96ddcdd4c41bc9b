pub mod Answering
pub mod Listed
pub mod Places
pub mod RoomExamples
pub mod RoomLaws
pub mod RoomMaps
pub mod Soundness

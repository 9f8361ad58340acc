pub mod RoomBy
pub mod RoomLaws

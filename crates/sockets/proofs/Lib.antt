pub mod PeerLemmas
pub mod RoomLemmas

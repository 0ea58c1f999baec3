pub mod Absent
pub mod Desk
pub mod Origins
pub mod Parked
pub mod Post

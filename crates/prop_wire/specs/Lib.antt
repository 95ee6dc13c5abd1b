pub mod Desk
pub mod Limit
pub mod Refusals
pub mod Replies
pub mod Reply
pub mod Serving
pub mod impl_laws
pub mod internal

pub mod Reading
pub mod Maildir
pub mod Mh
pub mod Laws

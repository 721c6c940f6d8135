pub mod MaildirName
pub mod BaseOrder
pub mod Laws

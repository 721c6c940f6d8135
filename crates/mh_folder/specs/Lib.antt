pub mod NumberedName
pub mod KnownFile
pub mod Visit
pub mod Folder
pub mod Walk
pub mod Scan

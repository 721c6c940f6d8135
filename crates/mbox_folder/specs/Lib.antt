pub mod FileSeen
pub mod ListedFile

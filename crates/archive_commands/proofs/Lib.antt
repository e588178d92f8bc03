pub mod Digesting
pub mod Expanding
pub mod FileReading
pub mod Listing
pub mod ManyFiles
pub mod Printing
pub mod Walks

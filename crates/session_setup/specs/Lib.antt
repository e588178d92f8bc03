pub mod Disk
pub mod Faults
pub mod Logins
pub mod Paths
pub mod Plans
pub mod Ports
pub mod Reading
pub mod Starting

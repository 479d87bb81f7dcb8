pub mod IpcpLaw
pub mod IpcpTable
pub mod Ipv6Law
pub mod Ipv6Table

pub mod BundleTable
pub mod Bundles
pub mod JoinKey
pub mod Joining

pub mod BacpLaw
pub mod BacpTable

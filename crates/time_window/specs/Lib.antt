pub mod Acl

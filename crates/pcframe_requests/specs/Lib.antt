pub mod Requests
pub mod Laws

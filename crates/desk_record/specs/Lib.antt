pub mod Desks
pub mod Refusal
pub mod Laws
pub mod RefusalLaws
pub mod Calls
pub mod CallsLaws

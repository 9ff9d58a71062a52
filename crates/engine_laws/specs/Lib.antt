pub mod Epochs
pub mod Laws
pub mod ReplyLaws
pub mod Unended
pub mod WrongRules

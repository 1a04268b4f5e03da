pub mod AskedTexts
pub mod Named

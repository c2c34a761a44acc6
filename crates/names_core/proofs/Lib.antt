pub mod IdTexts
pub mod Order
pub mod UpdateTexts
pub mod Weighing

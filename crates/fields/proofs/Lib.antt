-- Laws of tagged fields.
pub mod Numbers
pub mod Tags
pub mod Known

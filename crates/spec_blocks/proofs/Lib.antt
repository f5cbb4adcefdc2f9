pub mod BlockFields

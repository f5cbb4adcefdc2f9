pub mod Defining
pub mod PartsView
pub mod Numbers
pub mod Taking
pub mod Standing
pub mod AdmissionView

pub mod ContentView
pub mod ContentReading
pub mod ContentWriting

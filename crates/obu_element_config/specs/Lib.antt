pub mod LayerView
pub mod AmbisonicsView
pub mod ConfigView

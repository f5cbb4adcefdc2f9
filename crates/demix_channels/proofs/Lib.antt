pub mod Standing
pub mod SeenLayers

pub mod Within
pub mod Quotients
pub mod SceneView
pub mod SceneLaws

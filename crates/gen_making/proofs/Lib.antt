pub mod Bundling
pub mod RunsOf

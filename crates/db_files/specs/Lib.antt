pub mod Files
pub mod Schema
pub mod Contents
pub mod Stands

pub mod SeenParts

pub mod SeenBytes

pub mod Scanned

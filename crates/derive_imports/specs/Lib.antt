pub mod Referents

pub mod Stressing

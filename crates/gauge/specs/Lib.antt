pub mod Reprinting

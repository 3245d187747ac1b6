pub mod Unlisted

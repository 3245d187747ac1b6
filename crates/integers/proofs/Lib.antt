pub mod DividingOut

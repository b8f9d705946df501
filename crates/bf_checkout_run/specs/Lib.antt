pub mod CheckingOut

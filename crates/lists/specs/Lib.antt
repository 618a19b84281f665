-- What is said of lists where the kit's library has no word for it.
pub mod Lists

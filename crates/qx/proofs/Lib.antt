-- `Translations` has a request translated by its tests, `Replies` what a list of answers says, answer by answer.
pub mod Translations
pub mod Replies

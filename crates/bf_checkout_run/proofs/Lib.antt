mod Words
mod Furnishing
mod Searched

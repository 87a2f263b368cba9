mod Owning
mod Written

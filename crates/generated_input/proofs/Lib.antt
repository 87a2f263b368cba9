mod Written
mod Gathering
mod Fitting
mod Accepted

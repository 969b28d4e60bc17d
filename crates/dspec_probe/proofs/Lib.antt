mod Filling
mod Floats
mod Firing
mod Parts
mod Words
mod Shown

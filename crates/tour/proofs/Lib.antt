mod Calling
mod Touring

pub mod AllHome
mod AsBox
pub mod Calls
pub mod ConsumerHomes
pub mod Counted
pub mod Each
mod EndingPlaces
mod Ending
pub mod Finishing
pub mod Handing
pub mod Homes
pub mod LentPaths
mod Looking
pub mod Putting
mod Options
pub mod Taken
mod Tends
mod Values
pub mod Widths

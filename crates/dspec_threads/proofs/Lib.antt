mod Homes
mod MoreVerdicts
mod MoreWaits
mod Pairs
mod Runs
mod Whereabouts

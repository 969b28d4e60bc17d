pub mod StoreProbes
pub mod WatchProbes
pub mod WatchRequests
pub mod WatchServing

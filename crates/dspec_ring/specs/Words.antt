-- Serves proofs. The words of this crate for its proofs and for the crates above, in one place. Declares nothing.
pub use Rattle.dspec_ring.specs.EndFields.{popped_from, pushed_into}
pub use Rattle.dspec_ring.specs.Known.{consumer_moved, ConsumerKnows, cpu_moved, CpuKnows, IsUnusedConsumer, IsUnusedCpu, Pair, Ring}

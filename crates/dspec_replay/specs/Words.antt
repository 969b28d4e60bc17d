-- Serves proofs. The words of this crate for its proofs and for the crates above, in one place. Declares nothing.
pub mod Outside
unfoldable pub use Outside.*
pub use Rattle.dspec_replay.specs.Buffers.{all_buffers, buffer_lines, bytes_digits, cpu_buffers}
pub use Rattle.dspec_replay.specs.PlayedTexts.{accepted_of, fault_of, IsPlayedText, IsPlayOf, IsTextFault, shapes_of, table_of}
pub use Rattle.dspec_replay.specs.Replayed.{accepted_in, call_that_ended, first_of, first_refusal, IsDue, schedule_refusal, setup_refusal, turn_refusal, whole_call_of}

-- Proofs of the laws that the impls of `Model` and `Schema` give. They stand here and not in `proofs`, since a
-- ghost member may cite `specs` alone.
pub mod Padding
pub mod Records
pub mod Layouts
pub mod Texts
pub mod Tables
pub mod Enablings

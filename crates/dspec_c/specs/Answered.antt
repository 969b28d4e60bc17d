-- Cited by calls. What a call's status tells of the answer that it stands for, and what an out parameter does.
use Rattle.std.specs.Prelude.{ℕ, ◌≡◌}

-- the call was answered so: its status is the answer's number, and it did what that answer tells
pub record Answered {A : Type 0} (number : A → ℕ) (did : A → Type 0) (status : ℕ) : Type 0 where
  pub answer : A
  pub numbered : status ≡ number answer
  pub done : did answer

-- likewise, where the answer has a value for the out parameter, or leaves that as it was
pub record AnsweredWith {A : Type 0} (number : A → ℕ) (told : A → ℕ → ℕ) (did : A → Type 0) (status was out : ℕ) : Type 0 where
  pub answer : A
  pub numbered : status ≡ number answer
  pub tells : out ≡ told answer was
  pub done : did answer

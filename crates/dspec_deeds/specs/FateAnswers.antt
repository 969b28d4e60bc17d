-- Cited by calls. What a fate is answered as, and which identifier an answer gives.
use Rattle.dspec_deeds.specs.Words.Outside.{Speculation, no_speculation}
use Rattle.dspec_deeds.specs.declared.calls.{Answer.Answer, Decided.Decided, Opening.Opening}
use Rattle.dspec_deeds.specs.declared.deed.DecideFate.{DecideFate, TheVariants.Copied, TheVariants.Lost, TheVariants.Thrown, TheVariants.Void, TheVariants.Stopped}
use Rattle.dspec_deeds.specs.declared.calls.Answer.TheVariants as any_answer
use Rattle.dspec_deeds.specs.declared.calls.Decided.TheVariants as answer
use Rattle.dspec_deeds.specs.declared.calls.Opening.TheVariants as opening

abbrev pub answer_of_fate : DecideFate → Decided
answer_of_fate (Copied n) = answer.Copied n
answer_of_fate (Lost n) = answer.Lost n
answer_of_fate (Thrown n) = answer.Thrown n
answer_of_fate Void = answer.Void
answer_of_fate Stopped = answer.Stopped

-- the same as the answer of any call
abbrev pub answer_of : DecideFate → Answer
answer_of (Copied n) = any_answer.Decided (answer.Copied n)
answer_of (Lost n) = any_answer.Decided (answer.Lost n)
answer_of (Thrown n) = any_answer.Decided (answer.Thrown n)
answer_of Void = any_answer.Decided answer.Void
answer_of Stopped = any_answer.Decided answer.Stopped

abbrev pub id_given : Opening → Speculation
id_given (opening.Id id) = id
id_given opening.Unavailable = no_speculation
id_given opening.Busy = no_speculation
id_given opening.Stopped = no_speculation
id_given opening.Worn = no_speculation

use Rattle.std.proofs.Common.{ℕ, Result, sym, subst}
use Rattle.dspec_c.specs.{Words.EndsSo, Words.LooksHome, declared.ended.EndedSession.EndedSession, declared.held.HandleValue.HandleValue}
use Rattle.dspec_c.proofs.Finishing.{ended_in, goes_on_in, refused_in}
use Rattle.dspec_c.proofs.session_calls.dspec_finish.Goals as goal

pub returns-in-Err-clause-answers : goal.returns-in-Err-clause-answers
returns-in-Err-clause-answers c = λ _.
    refused_in c.args.session.now c.put.new.self c.args.closed.now c.in-Some.held (sym c.in-Some.ensures.held) (Unit {0})
    c.is_home.new.held c.in-Err.why (subst (λ (r : Result (Unit {0}) ℕ). LooksHome c.in-Some.held r c.is_home.new.held) c.in-Err.is c.is_home.ensures)
    (sym c.in-Some.ensures.was) c.put.ensures.full c.put.ensures.holds

pub returns-in-Ok-clause-answers : goal.returns-in-Ok-clause-answers
returns-in-Ok-clause-answers c = λ _.
    ended_in c.args.session.now c.take.new.self c.args.closed.now c.in-Some.held (sym c.in-Some.ensures.held)
    c.put-in-Ok.new.self c.is_home.new.held c.in-Ok.ended c.in_default-is_home.field-0
    (subst (λ (r : Result (Unit {0}) ℕ). LooksHome c.in-Some.held r c.is_home.new.held) c.in_default-is_home.is c.is_home.ensures)
    (subst (λ (r : Result EndedSession HandleValue). EndsSo c.is_home.new.held r) c.in-Ok.is c.end.ensures)
    c.take.ensures.empty c.put-in-Ok.ensures.full c.put-in-Ok.ensures.holds

pub returns-in-Err-end-clause-answers : goal.returns-in-Err-end-clause-answers
returns-in-Err-end-clause-answers c = λ _.
    goes_on_in c.args.session.now c.put-in-Err-end.new.self c.args.closed.now c.in-Some.held (sym c.in-Some.ensures.held)
    c.is_home.new.held c.in-Err-end.back c.in_default-is_home.field-0
    (subst (λ (r : Result (Unit {0}) ℕ). LooksHome c.in-Some.held r c.is_home.new.held) c.in_default-is_home.is c.is_home.ensures)
    (subst (λ (r : Result EndedSession HandleValue). EndsSo c.is_home.new.held r) c.in-Err-end.is c.end.ensures)
    c.put-in-Err-end.ensures.full c.put-in-Err-end.ensures.holds

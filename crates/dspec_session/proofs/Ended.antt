-- What is left of the session of the demonstration.
use Rattle.std.proofs.Common.{◌≡◌, ℕ, zero, suc, ◌<◌, ◌==◌, Bool, true, false, List, [], length, Some, None, Option, refl, sym, ap, ◌∙◌, subst, arith}
use Rattle.std.proofs.lemmas.Option.{slice_get_within}
use Rattle.std.specs.Prelude.{slice_get}
use Rattle.dspec_session.specs.Words.{Record, EnabledRows, SlotState, settle_at, is_granted, ack, word_at, offers, records_of_report, own_closed, own_closed_slot, IsClosedBy, IsLeftBy, Consuming}
use Rattle.dspec_session.specs.Words.{IsConsumerOf, IsSameConsumer, Has, HasAt, words_of, AllTold, HaveOffered, IsDemonstrated, Shape, Config, Deed, Batch, Cpu, Session, Left}
use Rattle.dspec_session.specs.declared.demonstration.lines.DemoLine.{DemoLine}
use Rattle.dspec_deeds.proofs.{OwnReads.reads, TestLemmas.number_is_itself}
use Rattle.dspec_session_core.proofs.PromisedBy.{there_is}

-- the settlements of the close offer nothing
slot_offers : (shape : ℕ → Option Shape) (k : Config) (words : ℕ → SlotState) (c s : ℕ) (p : List Deed) (b : Bool) → is_granted (settle_at (words s) (ack c s p)) ≡ b
    → offers c (own_closed_slot shape k words c s p) ≡ offers c p
slot_offers shape k words c s p false e = rw e refl
slot_offers shape k words c s p true e = rw e (omega arith)

close_offers : (shape : ℕ → Option Shape) (k : Config) (words : ℕ → SlotState) (c n : ℕ) (p : List Deed) → offers c (own_closed shape k words c n p) ≡ offers c p
close_offers shape k words c zero p = refl
close_offers shape k words c (suc n) p = slot_offers shape k words c (suc n) (own_closed shape k words c n p) _ refl ∙ close_offers shape k words c n p

-- a CPU whose list has so many offers is told of as many
left_told : (shape : ℕ → Option Shape) (accepted : Record → Bool) (text : Record → List ℕ) (k : Config) (g : List Deed) (c worn n : ℕ) (taken : List Batch) (p : List Deed) (l : Left)
    → IsLeftBy shape accepted text k g c worn taken p l → offers c p ≡ n → (l.report.offered ≡ n) × (records_of_report l.report ≡ n)
left_told shape accepted text k g c worn n taken p l is count =
    let all : offers c g ≡ n = sym (reads k c g).apart.offering ∙ (ap (offers c) is.own ∙ (close_offers shape k (λ s. word_at s g) c k.nspec p ∙ count)) in
    (ap (λ r. r.offered) is.reported ∙ all, ap records_of_report is.reported ∙ (sym is.headline.fates.sum ∙ all))

abbrev Offered : ℕ → ℕ → Cpu EnabledRows → Type 0
Offered n c cpu = (p : List Deed) × Has cpu p × (offers c p ≡ n)

-- one list of each CPU
abbrev list_at : (n c : ℕ) (o : Option (Cpu EnabledRows)) → ((cpu : Cpu EnabledRows) → o ≡ Some cpu → Offered n c cpu) → List Deed
list_at n c None f = []
list_at n c (Some cpu) f = (f cpu refl).0

list_had : (n c : ℕ) (o : Option (Cpu EnabledRows)) (f : (cpu : Cpu EnabledRows) → o ≡ Some cpu → Offered n c cpu) (cpu : Cpu EnabledRows) → o ≡ Some cpu
    → Has cpu (list_at n c o f) × (offers c (list_at n c o f) ≡ n)
list_had n c None f cpu e = absurd (cc (e))
list_had n c (Some x) f cpu e = let is : x ≡ cpu = cc (e) in (subst (λ y. Has y (f x refl).0) is (f x refl).1, (f x refl).2)

pub all_told : (shape : ℕ → Option Shape) (accepted : Record → Bool) (text : Record → List ℕ) (k : Config) (cpus : List (Cpu EnabledRows)) (worn : ℕ → ℕ) (taken : ℕ
    → List Batch) (consumer : List Deed) (ls : List Left) (n : ℕ)
    → IsClosedBy shape accepted text k (HasAt Has cpus) worn taken consumer ls → HaveOffered n cpus → length cpus ≡ length ls → AllTold n ls
all_told shape accepted text k cpus worn taken consumer ls n closed offered all c l at =
    let f : (c : ℕ) (cpu : Cpu EnabledRows) → slice_get cpus c ≡ Some cpu → Offered n c cpu = offered in
    let p : ℕ → List Deed = λ c. list_at n c (slice_get cpus c) (f c) in
    let (g, closes) = closed p (λ c lt cpu e. (list_had n c (slice_get cpus c) (f c) cpu e).0) in
    let lt = slice_get_within ls c l at in
    let there = there_is cpus c (omega arith) in
    left_told shape accepted text k g c (worn c) n (taken c) (p c) l (closes.each c l at) (list_had n c (slice_get cpus c) (f c) there.0 there.1).1

-- a stop leaves the session
pub still_session : (session : Session EnabledRows) (consumer : Consuming) → IsDemonstrated session → IsConsumerOf (words_of session.shared) consumer → IsSameConsumer session.consumer consumer
    → IsDemonstrated (record { shared = session.shared; cpus = session.cpus; consumer = consumer })
still_session session consumer is at same = record {
  checked = is.checked;
  consumer = at;
  all = is.all;
  each = λ c cpu there. let e = is.each c cpu there in record { belongs = e.belongs; number = e.number; one = e.one; pair = ap (λ l. slice_get l c) same.pairs ∙ e.pair };
}

pub line_told : (ls : List Left) (n c : ℕ) (line : DemoLine) → c < length ls → AllTold n ls → line.cpu ≡ c → ((l : Left) → slice_get ls c ≡ Some l → line.offered ≡ l.report.offered)
    → ((l : Left) → slice_get ls c ≡ Some l → line.balanced ≡ (records_of_report l.report == l.report.offered)) → (line.cpu ≡ c) × (line.offered ≡ n) × (line.balanced ≡ true)
line_told ls n c line lt told cpu offered balanced =
    let (l, at) = there_is ls c lt in
    let (count, sum) = told c l at in
    (cpu, offered l at ∙ count, balanced l at ∙ (ap (λ m. m == l.report.offered) sum ∙ (ap (λ m. n == m) count ∙ number_is_itself n)))

-- A run of the demonstration in which every worker finished.
use Rattle.std.proofs.Common.{◌≡◌, Bool, true, false, not, length, refl, sym, ap, ◌∙◌, subst}
use Rattle.std.specs.Prelude.{slice_get}
use Rattle.dspec_session.specs.Words.{EnabledRows, demonstrated, AreFresh, HaveMade, HaveOffered, IsDemonstrated, IsDone, Stopped, ConsumerRounds, none_taken, Session}
use Rattle.dspec_session.specs.declared.demonstration.showing.Demonstration.{Demonstration}

pub is_so : (b : Bool) → not b ≡ false → b ≡ true
is_so true e = refl
is_so false e = absurd (cc (e))

pub is_done : (d : Demonstration) (opened raced : Session EnabledRows) → IsDemonstrated d.session → d.session.cpus ≡ raced.cpus → length raced.cpus.items ≡ 4 → HaveOffered 200 raced.cpus.items
    → HaveMade opened.cpus.items raced.cpus.items → AreFresh opened.cpus.items → d.schema ≡ demonstrated → ConsumerRounds d.schema opened.consumer none_taken 1000 raced.consumer d.orders
    → Stopped raced.consumer d.session.consumer → IsDone d
is_done d opened raced is cpus four offered made fresh schema rounds stopped =
    let items = ap (λ xs. xs.items) cpus in
    record {
      session = is;
      four = ap length items ∙ four;
      offered = subst (λ xs. HaveOffered 200 xs) (sym items) offered;
      rounds = λ c cpu at. let (old, was, made_so) = made c cpu (ap (λ xs. slice_get xs c) (sym items) ∙ at) in (old, fresh c old was, made_so);
      consumer = record {
        first = opened.consumer;
        last = raced.consumer;
        rounds = subst (λ s. ConsumerRounds s opened.consumer none_taken 1000 raced.consumer d.orders)
            schema rounds;
        stopped = stopped;
      };
      schema = schema;
    }

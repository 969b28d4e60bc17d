-- Cited by calls. What a meeting of a CPU and the consumer leaves.
use Rattle.std.specs.Prelude.{◌≡◌, List, []}
use Rattle.dspec_table.specs.{Holders.part_of, Holders.of_nobody, Layout.activity_place, Notes.greater, Since.Since, Steps.with_asks, Steps.acted, Words.Outside.Deed, Words.Outside.owed}
use Rattle.dspec_table.specs.{Words.Outside.IsSound, declared.rule.View.View}

-- Both have seen one list, which begins with what each had seen; the consumer, which looks last, may have seen more of it.
-- Neither has done a deed, so each one's part of what it has seen is its list, as before. The CPU knows the consumer's asks.
pub record Met (cpu consumer cpu_after consumer_after : View) : Type 0 where
  pub both : List Deed
  pub later : List Deed
  pub sound : IsSound cpu.config both
  pub rests : owed both ≡ 0
  pub later_sound : IsSound consumer.config later
  pub later_rests : owed later ≡ 0
  pub cpu_own : part_of cpu.who both ≡ cpu.own
  pub consumer_own : part_of consumer.who later ≡ consumer.own
  pub cpu_since : Since cpu.who cpu.seen both
  pub consumer_before : Since of_nobody consumer.seen both
  pub consumer_since : Since consumer.who consumer.seen later
  pub both_before : Since of_nobody both later
  pub cpu_is : cpu_after ≡ with_asks activity_place cpu both [] (greater cpu.asks consumer.asks)
  pub consumer_is : consumer_after ≡ acted activity_place consumer later []

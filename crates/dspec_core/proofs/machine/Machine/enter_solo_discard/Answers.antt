-- A discard by the one caller throws its block away, and releases the slot.
use Rattle.std.proofs.Common.{◌≡◌, ◌+◌, ◌-◌, [], ◌∷◌, ◌++◌, reverse, set, refl, sym, ap, ◌∙◌, subst, arith, rules}
use Rattle.std.proofs.lemmas.List.{length-set}
use Rattle.dspec_core.specs.Words.{Discard, Release, Inactive, history, issue, ShowsWords}
use Rattle.dspec_deeds.proofs.{PresentIds.open_present, Results.of_ok, WordChanges.discard_open, WordChanges.released_word}
use Rattle.dspec_interleaving.proofs.Counts.{issue_below, issues_fit}
use Rattle.dspec_core.specs.declared.machine.decision.Decision.TheVariants as decision
use Rattle.dspec_core.proofs.{KeptCpus.own_deed, MachineReads.cpu_got, OneMore.cpus_released, OneMore.cpus_set, OneMore.latest_first, OneMore.map_set, OneMore.shown_as, OwnBlocks.block_buffer}
use Rattle.dspec_core.proofs.{OwnBlocks.block_caller, OwnBlocks.block_low, OwnBlocks.block_mark, OwnBlocks.decided_block, OwnBlocks.word_place, OwnBlocks.word_read, OwnDeeds.deed_room}
use Rattle.dspec_core.proofs.{OwnDeeds.same_worn, Rooms.decided_counts, SoloDiscards.adds_all, SoloDiscards.may_first, SoloDiscards.solo_words}
use Rattle.dspec_core.proofs.machine.Machine.enter_solo_discard.Goals as goal

pub overflow_sub-place : goal.overflow_sub-place
overflow_sub-place g c =
    block_low (decided_block decision.Discard c.args.id c.args.fate (may_first c.requires.may) c.index_mut-own.ensures.value c.requires.discard) c.slot-2.ensures.value

pub index-requires : goal.index-requires
index-requires g c =
    word_place (decided_block decision.Discard c.args.id c.args.fate (may_first c.requires.may) c.index_mut-own.ensures.value c.requires.discard) c.slot-2.ensures.value

pub is_mine-mine-requires : goal.is_mine-mine-requires
is_mine-mine-requires g c = record {
  slot = block_mark (decided_block decision.Discard c.args.id c.args.fate (may_first c.requires.may) c.index_mut-own.ensures.value c.requires.discard);
}

pub decide-requires : goal.decide-requires
decide-requires g c =
    let may = may_first c.requires.may in
    let m = c.args.self.now in
    let f = c.args.fate in
    let block = decided_block decision.Discard c.args.id f may c.index_mut-own.ensures.value c.requires.discard in
    let room = deed_room may c.index_mut-own.ensures.value c.in_ok-push.ensures.ok c.in_ok-push.ensures.countable in
    record {
      slot = block_buffer block;
      calls = room.call;
      drops = room.drop;
      room = room.decide f (λ w. decided_counts (g.S.Schema.shape_of m.schema) m.config c.args.cpu decision.Discard c.args.id f w (history m) c.requires.discard);
    }

pub of-requires : goal.of-requires
of-requires g c =
    let may = may_first c.requires.may in
    let m = c.args.self.now in
    let id = c.args.id in
    let block = decided_block decision.Discard id c.args.fate may c.index_mut-own.ensures.value c.requires.discard in
    let issued : c.issue-issue.result ≡ issue id.slot (history m) = c.issue-issue.ensures.value ∙ ap (λ w. w.issue) (word_read block c.slot-2.ensures.value c.index.ensures) in
    let opens = discard_open m.config c.args.cpu id c.args.fate (history m) may.legal.0 c.requires.discard in
    let below = issue_below m.config (history m) id block.sound (open_present m.config (history m) id block.sound opens).given in
    let fit = issues_fit m.config may.ranges in
    let now = block.now in
    omega arith

pub index_mut-requires : goal.index_mut-requires
index_mut-requires g c =
    word_place (decided_block decision.Discard c.args.id c.args.fate (may_first c.requires.may) c.index_mut-own.ensures.value c.requires.discard) c.slot-2.ensures.value

pub returns : goal.returns
returns g c =
    let m = c.args.self.now in
    let k = m.config in
    let a = c.args.cpu in
    let h = history m in
    let id = c.args.id in
    let d = Discard a id c.args.fate in
    let was = c.requires.may.shown in
    let own = c.index_mut-own.result.now in
    let legal = c.requires.may.legal in
    let block = decided_block decision.Discard id c.args.fate (may_first c.requires.may) c.index_mut-own.ensures.value c.requires.discard in
    let deeds : reverse c.push-2.new.self ≡ Release id.slot ∷ d ∷ h = latest_first c.push.new.self c.push-2.new.self (Release id.slot)
    (of_ok c.push-2.result (sym c.if-is_err.ensures.value) c.push-2.ensures.ok ∙ ap (λ n. c.push.new.self ++ Release n ∷ []) c.slot.ensures.value)
    ∙ ap (λ ds. Release id.slot ∷ ds) (latest_first m.deeds c.push.new.self d c.in_ok-push.ensures.ok) in
    record {
      shown =
          let side = c.decide.ensures.discards m.schema k a h block.shows.side (block_caller block c.is_mine-mine.ensures.tells) c.requires.discard legal.1.0.1 in
          let kept = own_deed _ _ m.schema k a h own block.shows d c.decide.new.self own.accepted refl side (same_worn c.decide.ensures.rest) block.shows.accepted in
          let issued : c.issue-issue.result ≡ issue id.slot h = c.issue-issue.ensures.value ∙ ap (λ w. w.issue) (word_read block c.slot-2.ensures.value c.index.ensures) in
          let left = c.of.ensures ∙ (ap (λ n. record { issue = n + 1; code = Inactive }) issued ∙ sym (released_word k id.slot (d ∷ h) legal.0.0)) in
          let count = was.cpu_count in
          shown_as g.B.TraceBuffer.has g.B.TraceBuffer.capacity _ (Release id.slot ∷ d ∷ h) deeds record {
            words = subst (λ n. ShowsWords k (Release id.slot ∷ d ∷ h) (set m.words.items (n - 1) c.of.result)) (sym c.slot-2.ensures.value)
                (solo_words k a id c.args.fate h m.words.items c.of.result block.slot left was.words);
            active = was.active;
            cpu_count = length-set m.cpus.items a _ ∙ was.cpu_count;
            cpus = cpus_released _ _ m.schema k (d ∷ h) _ (cpus_set _ _ m.schema k h m.cpus.items was.cpus d a _ refl (let lt = c.requires.may.cpu in omega arith) kept) id.slot;
          };
      entered = adds_all m _ (Release id.slot ∷ d ∷ []) refl refl refl deeds
          (map_set (λ own. own.progress) m.cpus.items a own _ (cpu_got _ _ m was a own c.requires.may.cpu c.index_mut-own.ensures.value) refl);
      refused = search rules;
    }

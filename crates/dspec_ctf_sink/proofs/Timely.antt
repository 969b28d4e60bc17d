-- By time nothing is lost uncounted.
use Rattle.std.proofs.Common.{◌≡◌, ◌⊎◌, ◌<◌, ◌+◌, ◌^◌, ◌∙◌, ℕ, List, arith, inl, inr, length, refl}
use Rattle.std.proofs.lemmas.Option.{get_or_from_slice_get}
use Rattle.std.specs.Prelude.{Some, slice_index}
use Rattle.dspec_ctf_sink.specs.{Words.Record, Words.EnabledRows, Words.IsText, Words.HasSoManyRecords, Words.capped, Words.missed_more, Words.AddsBatch, Words.CpuFiles, Words.GetsRuns}
use Rattle.dspec_ctf_sink.specs.{Words.IsBatchLoss, Words.LosesBatch, Words.LosesRuns, Words.TimedTracing, Words.TimedAccounts, Words.Batch, declared.losing.Loss.Loss}
use Rattle.dspec_ctf_sink.proofs.Accounting.{capped_below, changed, counted, other}

module _ (e : EnabledRows) (old new : TimedTracing) (b : Batch) (there : b.cpu < length old.missed) where
  of_added : AddsBatch e old b new → TimedAccounts e old b new
  of_added adds =
      let now : slice_index new.missed b.cpu ≡ adds.before + b.drops = changed old.missed new.missed b.cpu there (adds.before + b.drops) adds.missed in
      let was : slice_index old.missed b.cpu ≡ adds.before = get_or_from_slice_get old.missed b.cpu adds.before 0 adds.has.missed in
      record {
        read = adds.added.read;
        is_text = adds.added.is_text;
        packed = length adds.added.read;
        packed_is = inl (adds, refl);
        sum = omega (arith, now, was);
        others = other old.missed new.missed b.cpu there (adds.before + b.drops) adds.missed;
      }

  module _ (is_one : (rs : List Record) × IsText e b.buffer.text rs)
      (fits : (rs : List Record) → IsText e b.buffer.text rs → slice_index old.missed b.cpu + b.drops + length rs < 2 ^ 64) (loss : Loss) (last : new.last ≡ Some loss)
      (missed : new.missed ≡ missed_more old.missed b.cpu (b.drops + loss.records)) where
    of_part : (rs : List Record) (packed : ℕ) → IsText e b.buffer.text rs → packed + loss.records ≡ length rs → TimedAccounts e old b new
    of_part rs packed text rest =
        let below : slice_index old.missed b.cpu + b.drops + length rs < 2 ^ 64 = fits rs text in
        let now : slice_index new.missed b.cpu ≡ slice_index old.missed b.cpu + (b.drops + loss.records) =
        counted old.missed new.missed b.cpu there (b.drops + loss.records) (omega (arith, below, rest)) missed in
        record {
          read = rs;
          is_text = text;
          packed = packed;
          packed_is = inr (loss, (last, rest));
          sum = omega (arith, now, rest);
          others = other old.missed new.missed b.cpu there (capped (slice_index old.missed b.cpu + (b.drops + loss.records))) missed;
        }

    of_all : HasSoManyRecords e b loss.records → TimedAccounts e old b new
    of_all (inl (rs, (text, is))) =
        let below : slice_index old.missed b.cpu + b.drops + length rs < 2 ^ 64 = fits rs text in
        let all : loss.records ≡ length rs = is ∙ capped_below (length rs) (omega (arith, below)) in
        of_part rs 0 text (omega (arith, all))
    of_all (inr (unread, is)) = elim (unread is_one.0 is_one.1) [ ]

    of_files : (before : ℕ) (files after : CpuFiles) → LosesRuns old.uuid e before b files after loss → TimedAccounts e old b new
    of_files before files after (inl none) = of_all none.has
    of_files before files after (inr (inl all)) = of_all all.has
    of_files before files after (inr (inr rest)) = of_part rest.read rest.stops.to rest.is_text (omega (arith, rest.stops.stops.rest))

    of_loss : IsBatchLoss e old b new loss → TimedAccounts e old b new
    of_loss (inl none) = of_all none.has
    of_loss (inr some) = of_files some.before some.files some.after some.loses

  module _ (is_one : (rs : List Record) × IsText e b.buffer.text rs)
      (fits : (rs : List Record) → IsText e b.buffer.text rs → slice_index old.missed b.cpu + b.drops + length rs < 2 ^ 64) where
    came : AddsBatch e old b new ⊎ LosesBatch e old b new → TimedAccounts e old b new
    came (inl adds) = of_added adds
    came (inr loses) = of_loss is_one fits loses.loss loses.last loses.missed loses.why

    pub timed-accounts : GetsRuns e old b new → TimedAccounts e old b new
    timed-accounts gets = came gets.came

-- The coordinator's Sums go on with newer records.
use Rattle.std.proofs.Common.{◌≡◌, List, [], ◌∷◌, refl, ap}
use Rattle.presumptions.specs.declared.Participant.{Participant}
use Rattle.fed_rules.specs.declared.records.CoordRecord.{CoordRecord}
use Rattle.fed_rules.specs.declared.records.CoordRecord.TheVariants.{Initiation, Commit, Abort, End, Checkpoint}
use Rattle.fed_rules.specs.declared.sums.CoordSum.{CoordSum}
use Rattle.fed_rules.specs.CoordSums.{coord_sum, coord_sum_with, coord_journal_sum}
use Rattle.coord_laws.specs.Sums.{AreCoordSums}

module _ (protocols : List Participant) where
  one_more : (newest : CoordRecord) (a b : CoordSum) → a ≡ b → coord_sum_with protocols a (newest ∷ []) ≡ coord_sum_with protocols b (newest ∷ [])
  one_more newest a b e = ap (λ (sum : CoordSum). coord_sum_with protocols sum (let l : List CoordRecord = newest ∷ [] in l)) e

  pub journal_says : (records : List CoordRecord) → AreCoordSums protocols records → coord_journal_sum protocols records ≡ coord_sum protocols records
  journal_says [] s = refl
  journal_says (Checkpoint sum ∷ records) s = s.0
  journal_says (Initiation tid participants ∷ records) s =
      one_more (Initiation tid participants) (coord_journal_sum protocols records) (coord_sum protocols records) (journal_says records s)
  journal_says (Commit tid tickets ∷ records) s =
      one_more (Commit tid tickets) (coord_journal_sum protocols records) (coord_sum protocols records) (journal_says records s)
  journal_says (Abort tid participants ∷ records) s =
      one_more (Abort tid participants) (coord_journal_sum protocols records) (coord_sum protocols records) (journal_says records s)
  journal_says (End tid ∷ records) s =
      one_more (End tid) (coord_journal_sum protocols records) (coord_sum protocols records) (journal_says records s)

-- What was read of the coordinator's records, with one more.
use Rattle.std.specs.Prelude.{ℕ, suc, Bool, cond, List, [], ◌∷◌}
use Rattle.mdb_base.specs.declared.names.Tid.{Tid}
use Rattle.presumptions.specs.declared.Participant.{Participant}
use Rattle.fed_rules.specs.declared.records.CoordRecord.{CoordRecord}
use Rattle.fed_rules.specs.declared.records.CoordRecord.TheVariants.{Checkpoint}
use Rattle.fed_rules.specs.declared.sums.CoordSum.{CoordSum}
use Rattle.fed_rules.specs.CoordSums.{also_open, coord_sum_with}

-- how many items from the front on pass the test
abbrev pub front_count : {A : Type 0} → (A → Bool) → List A → ℕ
front_count test [] = 0
front_count test (x ∷ xs) = cond (test x) (suc (front_count test xs)) 0

-- the attempt is open with these participants, unless it is open already
abbrev pub opened : Tid → List Participant → CoordSum → CoordSum
opened tid participants sum = record { open_attempts = also_open tid participants sum.open_attempts; committed = sum.committed }

-- what the records say with the next one: a Checkpoint stands for all before it
abbrev pub read_with : List Participant → CoordSum → CoordRecord → CoordSum
read_with protocols sum (Checkpoint kept) = kept
read_with protocols sum newest = coord_sum_with protocols sum (newest ∷ [])

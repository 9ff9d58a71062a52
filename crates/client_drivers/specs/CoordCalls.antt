-- The calls of the coordinator's door as commands.
use Rattle.std.specs.Prelude.{ℕ, ◌+◌, ◌<◌, List, slice_index, slice_set}
use Rattle.mdb_base.specs.declared.names.Tx.{Tx}
use Rattle.fed_rules.specs.declared.commands.Command.{Command}
use Rattle.fed_rules.specs.declared.commands.Command.TheVariants as Call
use Rattle.client_drivers.specs.declared.global.CoordCall.{CoordCall}
use Rattle.client_drivers.specs.declared.global.CoordCall.TheVariants as To

-- an attempt is one of this transaction
abbrev pub command_of : Tx → CoordCall → Command
command_of tx To.Go = Call.Go tx
command_of tx To.Fate = Call.Fate tx
command_of tx (To.Again attempt) = Call.Again (record { tx = tx; attempt = attempt })
command_of tx (To.Late attempt) = Call.Late (record { tx = tx; attempt = attempt })

-- the counts of agains by attempt, with this call
abbrev pub counted : CoordCall → List ℕ → List ℕ
counted (To.Again attempt) agains = slice_set agains attempt (slice_index agains attempt + 1)
counted call agains = agains

-- the number of the attempt that is asked again is a byte
abbrev pub IsByte : CoordCall → Type 0
IsByte (To.Again attempt) = attempt < 256
IsByte call = Unit {0}

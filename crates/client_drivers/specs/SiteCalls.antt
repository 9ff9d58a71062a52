-- The calls of a site's door as commands.
use Rattle.std.specs.Prelude.{Bool, true, false}
use Rattle.mdb_base.specs.declared.names.Tx.{Tx}
use Rattle.fed_rules.specs.declared.commands.Command.{Command}
use Rattle.fed_rules.specs.declared.commands.Command.TheVariants as Call
use Rattle.client_drivers.specs.declared.local.SiteCall.{SiteCall}
use Rattle.client_drivers.specs.declared.local.SiteCall.TheVariants as To

abbrev pub command_of : Tx → SiteCall → Command
command_of tx To.Begin = Call.Begin tx
command_of tx To.Step = Call.Step tx
command_of tx To.Commit = Call.Commit tx
command_of tx To.Abort = Call.Abort tx
command_of tx To.Fate = Call.Fate tx

abbrev pub is_step : SiteCall → Bool
is_step To.Step = true
is_step call = false

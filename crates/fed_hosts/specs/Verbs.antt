-- What a client asks of a local transaction, as a command, as what a local database system is asked, and as what the rules call it.
use Rattle.mdb_base.specs.declared.names.Tx.{Tx}
use Rattle.fed_rules.specs.declared.commands.Command.{Command}
use Rattle.fed_rules.specs.declared.commands.Command.TheVariants as Cmd
use Rattle.fed_rules.specs.SiteCommands as Rule
use Rattle.local_dbms.specs.declared.asks.SiteAsk.{SiteAsk}
use Rattle.local_dbms.specs.declared.asks.SiteAsk.TheVariants as At
use Rattle.fed_hosts.specs.declared.verbs.Verb.{Verb}
use Rattle.fed_hosts.specs.declared.verbs.Verb.TheVariants as Asks

abbrev pub command_of : Verb → Tx → Command
command_of Asks.Begin tx = Cmd.Begin tx
command_of Asks.Step tx = Cmd.Step tx
command_of Asks.Commit tx = Cmd.Commit tx
command_of Asks.Abort tx = Cmd.Abort tx
command_of Asks.Fate tx = Cmd.Fate tx

abbrev pub ask_of : Verb → Tx → SiteAsk
ask_of Asks.Begin tx = At.Begin tx
ask_of Asks.Step tx = At.Step tx
ask_of Asks.Commit tx = At.Commit tx
ask_of Asks.Abort tx = At.Abort tx
ask_of Asks.Fate tx = At.Fate tx

abbrev pub rule_of : Verb → Rule.Verb
rule_of Asks.Begin = Rule.Begin
rule_of Asks.Step = Rule.Step_on
rule_of Asks.Commit = Rule.Commit
rule_of Asks.Abort = Rule.Abort
rule_of Asks.Fate = Rule.Fate

-- Which commands begin an attempt.
use Rattle.std.proofs.Common.{Bool, true, false}
use Rattle.fed_rules.specs.declared.commands.Command.{Command}
use Rattle.fed_rules.specs.declared.commands.Command.TheVariants as Cmd

-- whether a command begins no attempt
abbrev pub begins_nothing : Command → Bool
begins_nothing (Cmd.Begin tx) = false
begins_nothing (Cmd.Go tx) = false
begins_nothing command = true

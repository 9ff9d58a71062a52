-- Commands that stop nothing, as those that close a session are.
use Rattle.std.specs.Prelude.{◌≡◌}
use Rattle.fed_rules.specs.declared.commands.Command.{Command}
use Rattle.fed_rules.specs.declared.commands.Command.TheVariants as Cmd

-- no halt, and no trip but one that disarms
abbrev pub IsGentle : Command → Type 0
IsGentle (Cmd.Halt actor cut) = ⊥
IsGentle (Cmd.Trip actor calls cut) = calls ≡ 0
IsGentle command = Unit {0}

-- The steps of closing one after another: each stands behind those before it, and before those behind it.
use Rattle.std.proofs.Common.{List}
use Rattle.fed_rules.specs.declared.commands.Command.{Command}
use Rattle.fed_rules.specs.Closing as rules
use Rattle.fed_rules.specs.Closing.{closed_in}
use Rattle.fed_rules.specs.Sessions.{Session}
use Rattle.closing.proofs.Grows.{ask_all_grows, bring_up_grows, clear_grows, disarm_grows, end_known_grows, give_up_grows}
use Rattle.closing.proofs.Towards.{Extends, extends_twice}

abbrev pub first : Session → List Command → List Command
first session commands = rules.disarm session commands

abbrev pub second : Session → List Command → List Command
second session commands = rules.bring_up session (first session commands)

abbrev pub third : Session → List Command → List Command
third session commands = rules.give_up session (second session commands)

abbrev pub fourth : Session → List Command → List Command
fourth session commands = rules.clear session (third session commands)

abbrev pub fifth : Session → List Command → List Command
fifth session commands = rules.end_known session (fourth session commands)

module _ (session : Session) (commands : List Command) where
  -- each is a front of the closed session
  pub fifth_in : Extends (closed_in session commands) (fifth session commands)
  fifth_in = ask_all_grows session (fifth session commands)

  pub fourth_in : Extends (closed_in session commands) (fourth session commands)
  fourth_in = extends_twice (fourth session commands) (fifth session commands) (closed_in session commands) fifth_in (end_known_grows session (fourth session commands))

  pub third_in : Extends (closed_in session commands) (third session commands)
  third_in = extends_twice (third session commands) (fourth session commands) (closed_in session commands) fourth_in (clear_grows session (third session commands))

  pub second_in : Extends (closed_in session commands) (second session commands)
  second_in = extends_twice (second session commands) (third session commands) (closed_in session commands) third_in (give_up_grows session (second session commands))

  pub first_in : Extends (closed_in session commands) (first session commands)
  first_in = extends_twice (first session commands) (second session commands) (closed_in session commands) second_in (bring_up_grows session (first session commands))

  -- and has the commands before
  pub first_on : Extends (first session commands) commands
  first_on = disarm_grows session commands

  pub second_on : Extends (second session commands) commands
  second_on = extends_twice commands (first session commands) (second session commands) (bring_up_grows session (first session commands)) first_on

  pub third_on : Extends (third session commands) commands
  third_on = extends_twice commands (second session commands) (third session commands) (give_up_grows session (second session commands)) second_on

  pub fourth_on : Extends (fourth session commands) commands
  fourth_on = extends_twice commands (third session commands) (fourth session commands) (clear_grows session (third session commands)) third_on

  pub fifth_on : Extends (fifth session commands) commands
  fifth_on = extends_twice commands (fourth session commands) (fifth session commands) (end_known_grows session (fourth session commands)) fourth_on

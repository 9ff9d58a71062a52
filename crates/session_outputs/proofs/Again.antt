-- The commands of a session at rest, given to `replay`, print its text again.
use Rattle.std.proofs.Common.{◌≡◌, ℕ, List, sym, ap, subst, ◌∙◌}
use Rattle.order_laws.proofs.ForCallers.{map_reverse}
use Rattle.fed_rules.specs.declared.commands.Command.{Command}
use Rattle.fed_rules.specs.declared.commands.Line.{Line}
use Rattle.fed_rules.specs.declared.scenario.Scenario.{Scenario}
use Rattle.fed_rules.specs.Closing.{closed}
use Rattle.fed_rules.specs.Story.{story_of}
use Rattle.closing_laws.specs.AtRest.{IsAtRest}
use Rattle.fed_rules.specs.Right.{AreLines}
use Rattle.journal_disk.specs.Disk.{Seen}
use Rattle.line_laws.specs.Printed.{printed}
use Rattle.replay_laws.specs.Replayed.{ClosingAddsNothing, CommandsGiveAgain, GivesAgain}
use Rattle.session_outputs.specs.Again.{ReplaysAlike, session_again}
use Rattle.session_outputs.specs.Replays.{PlaysWhole}
use Rattle.session_outputs.specs.Sessions.{commands_of}

module _ (closing : ClosingAddsNothing) (again : CommandsGiveAgain) (scenario : Scenario) (commands : List Command) (lines : List Line) (output : List ℕ) (rest : IsAtRest scenario (story_of scenario commands))
    (are : AreLines lines scenario commands) (output_is : output ≡ printed lines scenario (story_of scenario commands))
  where
    -- the session has these commands, to which closing adds none
    same : commands_of (session_again scenario lines) ≡ commands
    same = ap (closed scenario) (sym (map_reverse (λ (line : Line). line.command) lines) ∙ are.commands_are) ∙ closing scenario commands rest

    -- so its lines are the same again but for the edges of cycles
    gives : (text : List ℕ) (old new : List Seen) (p : PlaysWhole text old new (session_again scenario lines)) → GivesAgain scenario commands lines p.lines
    gives text old new p =
        let others = subst (λ cs. AreLines p.lines scenario cs) (same ∙ sym (closing scenario commands rest)) p.done.lines_are in
        again scenario commands lines p.lines rest (record { commands_are = are.commands_are; right = are.right }) (record { commands_are = others.commands_are; right = others.right })

    text_is : (text : List ℕ) (old new : List Seen) (p : PlaysWhole text old new (session_again scenario lines)) → text ≡ printed p.lines scenario (story_of scenario commands)
    text_is text old new p = p.output_is ∙ ap (λ cs. printed p.lines scenario (story_of scenario cs)) same

    pub replays_alike : ReplaysAlike output lines scenario (story_of scenario commands)
    replays_alike = record {
      but_cycles = λ text old new p. record { others = p.lines; alike = sym (gives text old new p).bare_lines; text_is = text_is text old new p };
      bytes = λ none text old new p.
          text_is text old new p ∙ (ap (λ ls. printed ls scenario (story_of scenario commands)) (sym ((gives text old new p).whole none)) ∙ sym output_is);
    }

-- The commands of a session: which they are, that their numbers fit, and that each is heard.
use Rattle.std.proofs.Common.{◌≡◌, true, IsTrue, List, [], ◌∷◌, ◌++◌, length, reverse, refl, sym, ◌∙◌, ap, subst, append_assoc, arith}
use Rattle.std.proofs.lemmas.Bool.{and_parts}
use Rattle.std.proofs.lemmas.List.{append-nil, length-reverse, reverse-reverse}
use Rattle.mdb_base.specs.Words.{Each}
use Rattle.mdb_base.proofs.ForCallers.{each_append, each_map, reverse_more}
use Rattle.order_laws.proofs.ForCallers.{each_passes, each_reverse}
use Rattle.fed_rules.specs.declared.commands.Command.{Command}
use Rattle.fed_rules.specs.declared.commands.Command.TheVariants as Cmd
use Rattle.fed_rules.specs.declared.commands.Line.{Line}
use Rattle.fed_rules.specs.declared.scenario.Scenario.{Scenario}
use Rattle.fed_rules.specs.declared.scenario.SiteLine.{SiteLine}
use Rattle.fed_rules.specs.Closing.{closed}
use Rattle.fed_rules.specs.Plans.{IsScenario, is_actor}
use Rattle.fed_rules.specs.Sessions.{fresh}
use Rattle.closing.specs.FreshTowards.{FitWith}
use Rattle.closing.specs.Steps.{with_commands}
use Rattle.closing.proofs.ForCallers.{Extends, each_extends, extends_one, extends_twice, fifth, fifth_in, fifth_on}
use Rattle.fed_rules.specs.Right.{AreLines}
use Rattle.line_laws.specs.Lines.{ClosingIsHeard, IsHeard, RightLinesFit}
use Rattle.scenario_text.specs.declared.session.Session.{Session}
use Rattle.scenario_text.specs.Kept.{AreCommands, is_command}
use Rattle.line_text.specs.Fits.{line_fits}
use Rattle.session_outputs.specs.Plays.{CanPlay, closed_with}
use Rattle.session_outputs.specs.Sessions.{IsFront, commands_of}

-- a command behind others
abbrev pub push : Command → List Command → List Command
push command commands = command ∷ commands

-- a closed session ends with its own commands
pub closed_on : (scenario : Scenario) (commands : List Command) → Extends (closed scenario commands) commands
closed_on scenario commands =
    let session = fresh scenario in extends_twice commands (fifth session commands) (closed scenario commands) (fifth_in session commands) (fifth_on session commands)

-- commands behind others end with these
pub with_extends : (more commands : List Command) → Extends (with_commands more commands) commands
with_extends more commands = each_extends push extends_one more commands

-- they are turned round
with_reverse : (more commands : List Command) → with_commands more commands ≡ reverse more ++ commands
with_reverse [] commands = refl
with_reverse (command ∷ more) commands =
    with_reverse more (command ∷ commands) ∙ sym (ap (λ cs. cs ++ commands) (reverse_more command more) ∙ append_assoc (reverse more) (command ∷ []) commands)

pub with_none : (commands : List Command) → with_commands commands [] ≡ reverse commands
with_none commands = with_reverse commands [] ∙ append-nil (reverse commands)

-- so behind none before them they become those of the session
pub session_commands : (session : Session) (commands : List Command) → commands ≡ session.commands → closed_with commands session.scenario [] ≡ commands_of session
session_commands session commands e = ap (closed session.scenario) (with_none commands ∙ ap reverse e)

-- there are few enough of them
pub can_play : (session : Session) (commands : List Command) → commands ≡ session.commands → AreCommands session.scenario.sites session.commands → CanPlay commands session.scenario []
can_play session commands e are =
    let all = ap (λ (cs : List Command). length cs) (with_none commands ∙ ap reverse e) in
    let same = length-reverse session.commands in
    let few = are.few in
    omega (arith, all, same, few)

-- so their numbers fit
pub can_fit : (commands : List Command) (scenario : Scenario) (before : List Command) → CanPlay commands scenario before → FitWith commands scenario before
can_fit commands scenario before can = omega (arith, can)

-- ---- each is heard

own_heard : (sites : List SiteLine) (command : Command) → is_command sites command ≡ true → IsHeard sites command
own_heard sites (Cmd.Begin tx) e = tt
own_heard sites (Cmd.Step tx) e = tt
own_heard sites (Cmd.Commit tx) e = tt
own_heard sites (Cmd.Abort tx) e = tt
own_heard sites (Cmd.Fate tx) e = tt
own_heard sites (Cmd.Go tx) e = tt
own_heard sites (Cmd.Again tid) e = tt
own_heard sites (Cmd.Late tid) e = tt
own_heard sites (Cmd.Give site place) e = tt
own_heard sites (Cmd.Take site place) e = tt
own_heard sites (Cmd.Ask site tid) e = (and_parts _ _ e).0
own_heard sites (Cmd.Drop site tid) e = (and_parts _ _ e).0
own_heard sites (Cmd.Halt actor cut) e = (and_parts (is_actor sites actor) _ e).0
own_heard sites (Cmd.Trip actor calls cut) e = (and_parts (is_actor sites actor) _ (and_parts _ _ e).0).0
own_heard sites (Cmd.Back actor) e = e
own_heard sites (Cmd.Check actor) e = e

-- those of a session are, with those that close it
pub session_heard : (session : Session) → IsScenario session.scenario → AreCommands session.scenario.sites session.commands → ClosingIsHeard → Each (IsHeard session.scenario.sites) (commands_of session)
session_heard session whole are closing =
    let sites = session.scenario.sites in
    let own = each_map (λ command. is_command sites command ≡ true) (IsHeard sites) (λ command e. own_heard sites command e) session.commands (each_passes (is_command sites) session.commands are.range) in
    closing session.scenario whole (reverse session.commands) (each_reverse (IsHeard sites) session.commands own)

-- and the first ones of it
pub front_heard : (sites : List SiteLine) (whole done : List Command) → Each (IsHeard sites) whole → IsFront done whole → Each (IsHeard sites) done
front_heard sites whole done heard (left, e) = (each_append (IsHeard sites) left done (subst (λ cs. Each (IsHeard sites) cs) e heard)).1

-- so their right lines can be printed
pub lines_fit : RightLinesFit → (scenario : Scenario) (commands : List Command) (lines : List Line) → IsScenario scenario → Each (IsHeard scenario.sites) commands → AreLines lines scenario commands
    → Each (λ line. IsTrue (line_fits line)) lines
lines_fit law scenario commands lines whole heard are =
    subst (λ (ls : List Line). Each (λ line. IsTrue (line_fits line)) ls) (reverse-reverse lines)
    (each_reverse (λ line. IsTrue (line_fits line)) (reverse lines)
    (law scenario whole (reverse lines) (subst (λ cs. Each (IsHeard scenario.sites) cs) (sym are.commands_are) heard) are.right))

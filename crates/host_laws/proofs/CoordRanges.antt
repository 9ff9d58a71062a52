-- The attempts that the coordinator's host begins are in their range.
use Rattle.std.proofs.Common.{◌≡◌, ℕ, ◌≤◌, Option, Some, None, IsSome, List, [], ◌∷◌, refl, subst, arith}
use Rattle.std.specs.Prelude.{nat_le}
use Rattle.std.proofs.lemmas.Bool.{leb-false}
use Rattle.mdb_base.specs.declared.acts.Step.{Step}
use Rattle.mdb_base.specs.declared.names.Tid.{Tid}
use Rattle.mdb_base.specs.declared.names.Tx.{Tx}
use Rattle.mdb_base.specs.Words.{Each, map_some, with_some}
use Rattle.mdb_base.proofs.ForCallers.{by_given}
use Rattle.coord_laws.proofs.ForCallers.{Begins, coord_made}
use Rattle.fed_rules.specs.Terms.{Terms, line_of}
use Rattle.coord_tables.specs.Terms.{Terms, line_of}
use Rattle.field_bytes.specs.Fields.{IsTid}
use Rattle.fed_rules.specs.declared.answers.Answer.{Answer}
use Rattle.fed_rules.specs.declared.answers.Answer.TheVariants as Say
use Rattle.fed_rules.specs.declared.commands.Command.{Command}
use Rattle.fed_rules.specs.declared.commands.Command.TheVariants as Cmd
use Rattle.fed_rules.specs.declared.events.CoordEvent.{CoordEvent}
use Rattle.fed_rules.specs.declared.events.CoordEvent.TheVariants as Ev
use Rattle.fed_rules.specs.declared.messages.FromSite.{FromSite}
use Rattle.fed_rules.specs.declared.messages.ToSite.{ToSite}
use Rattle.fed_rules.specs.declared.messages.ToSite.TheVariants as To
use Rattle.fed_rules.specs.declared.scenario.Scenario.{Scenario}
use Rattle.fed_rules.specs.declared.scenario.TxLine.{TxLine}
use Rattle.fed_rules.specs.CoordCommands.{attempt_request, fate_request, go_next, go_request}
use Rattle.fed_rules.specs.CoordPast.{CoordPast, attempts_of, begun_by, begun_tids}
use Rattle.fed_rules.specs.Plans.{IsScenario}
use Rattle.fed_rules.specs.Requests.{Declines, Request, Submits, most_attempts}
use Rattle.fed_rules.specs.Scenarios.{global_line, global_program, transaction}
use Rattle.fed_rules.specs.Site_of.{about}
use Rattle.fed_messages.specs.declared.Envelope.{Envelope}
use Rattle.fed_messages.specs.Spelling.{IsToSite}
use Rattle.host_laws.specs.CoordPlans.{CoordPlan}
use Rattle.host_laws.specs.CoordTurns.{CoordTurn, coord_behind, coord_past_of, coord_request, coord_request_at}
use Rattle.host_laws.specs.Written.{FitsToSite}
use Rattle.host_laws.proofs.SiteNames.{by_when}
use Rattle.host_laws.proofs.SiteRanges.{AreNamed, line_named}

-- an attempt that goes is in its range
abbrev Goes : CoordEvent → Type 0
Goes (Ev.Go tid steps) = IsTid tid
Goes event = Unit {0}

abbrev RequestGoes : Request CoordEvent → Type 0
RequestGoes (Submits event) = Goes event
RequestGoes (Declines answer) = Unit {0}

module _ (plan : CoordPlan) (are : AreNamed plan.programs) where
  next_goes : (past : CoordPast) (tx : Tx) (steps : List Step) (n : ℕ) → (1 ≤ tx.0) × (tx.0 ≤ 1024) → RequestGoes (go_next plan.terms.protocols plan.terms.policy past tx steps n)
  unfolding go_next
  next_goes past tx steps n range = by_when RequestGoes (nat_le most_attempts n) _ _ (λ e. tt) (λ e. let few = leb-false most_attempts n e in record { least = range.0; greatest = range.1; attempts = omega (arith, few) })

  go_goes : (past : CoordPast) (tx : Tx) → RequestGoes (go_request plan.terms.protocols plan.terms.policy (plan.programs tx) past tx)
  unfolding go_request
  go_goes past tx = by_given RequestGoes (plan.programs tx) _ _ tt (λ steps e. next_goes past tx steps (attempts_of past tx) (are tx (is_some_of (plan.programs tx) steps e)))
    where
      is_some_of : (o : Option (List Step)) (steps : List Step) → o ≡ Some steps → IsSome o
      is_some_of None steps e = cc
      is_some_of (Some s) steps e = refl

  fate_goes : (tx : Tx) → RequestGoes (fate_request (plan.programs tx) tx)
  unfolding fate_request
  fate_goes tx = by_given RequestGoes (plan.programs tx) _ _ tt (λ steps e. tt)

  attempt_goes : (past : CoordPast) (tid : Tid) (event : CoordEvent) → Goes event → RequestGoes (attempt_request past tid event)
  unfolding attempt_request
  attempt_goes past tid event h = by_when RequestGoes _ _ _ (λ e. h) (λ e. tt)

  command_goes : (past : CoordPast) (command : Command) (took : Option (Envelope FromSite)) → RequestGoes (coord_request plan past command took)
  command_goes past (Cmd.Go tx) took = go_goes past tx
  command_goes past (Cmd.Fate tx) took = fate_goes tx
  command_goes past (Cmd.Again tid) took = attempt_goes past tid (Ev.Again tid) tt
  command_goes past (Cmd.Late tid) took = attempt_goes past tid (Ev.Late tid) tt
  command_goes past (Cmd.Take site place) None = tt
  command_goes past (Cmd.Take site place) (Some envelope) = tt
  command_goes past (Cmd.Trip actor calls cut) took = tt
  command_goes past (Cmd.Back actor) took = tt
  command_goes past (Cmd.Begin tx) took = tt
  command_goes past (Cmd.Step tx) took = tt
  command_goes past (Cmd.Commit tx) took = tt
  command_goes past (Cmd.Abort tx) took = tt
  command_goes past (Cmd.Give site place) took = tt
  command_goes past (Cmd.Ask site tid) took = tt
  command_goes past (Cmd.Drop site tid) took = tt
  command_goes past (Cmd.Halt actor cut) took = tt
  command_goes past (Cmd.Check actor) took = tt

begun_one : (event : CoordEvent) (answer : Answer) (tids : List Tid) → Goes event → Begins event answer → Each IsTid tids → Each IsTid (with_some (begun_by answer) tids)
begun_one event answer tids goes begins h = by_value (begun_by answer) refl
  where
    of_begun : (a : Answer) (tid : Tid) → Begins event a → begun_by a ≡ Some tid → IsTid tid
    of_begun (Say.Begun begun) tid b e = let same : begun ≡ tid = cc in subst IsTid same (subst Goes b.1 goes)
    of_begun a tid b e = cc

    by_value : (o : Option Tid) → begun_by answer ≡ o → Each IsTid (with_some o tids)
    by_value None e = h
    by_value (Some tid) e = (of_begun answer tid begins e, h)

behind_begun : (terms : Terms) (past : CoordPast) (r : Request CoordEvent) → RequestGoes r → Each IsTid (begun_tids past) → Each IsTid (begun_tids (coord_behind terms past r))
behind_begun terms past (Submits event) goes h = begun_one event (line_of terms past event).answer (begun_tids past) goes (coord_made terms.protocols terms.policy past event).begun h
behind_begun terms past (Declines answer) goes h = h

-- each attempt that was begun is in its range
pub begun_in_range : (plan : CoordPlan) → AreNamed plan.programs → (turns : List CoordTurn) → Each IsTid (begun_tids (coord_past_of plan turns))
begun_in_range plan are [] = tt
begun_in_range plan are (turn ∷ turns) =
    behind_begun plan.terms (coord_past_of plan turns) (coord_request_at plan turns turn) (command_goes plan are (coord_past_of plan turns) turn.line.line.command turn.took) (begun_in_range plan are turns)

-- a message about an attempt in its range, whose numbers have their bytes, is in range
pub to_in_range : (message : ToSite) → IsTid (about message) → FitsToSite message → IsToSite message
to_in_range (To.Work tid epoch n act) h f = (record { attempt = h; epochs = f.0.epochs; count = f.0.count }, f.1)
to_in_range (To.Take tid epoch n) h f = record { attempt = h; epochs = f.epochs; count = f.count }
to_in_range (To.Prepare tid epoch n) h f = record { attempt = h; epochs = f.epochs; count = f.count }
to_in_range (To.Decide tid decision) h f = h

-- the programs of global transactions are of transactions in their range
pub global_named : (scenario : Scenario) → IsScenario scenario → AreNamed (global_program scenario)
global_named scenario whole tx some = by_line (transaction scenario tx) refl some
  where
    by_line : (o : Option TxLine) → transaction scenario tx ≡ o → IsSome (map_some (λ (line : TxLine). line.program) (global_line o)) → (1 ≤ tx.0) × (tx.0 ≤ 1024)
    by_line None e s = cc
    by_line (Some line) e s = line_named scenario tx line whole e

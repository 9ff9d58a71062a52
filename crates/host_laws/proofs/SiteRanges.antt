-- What a site's host sends is in range, where the numbers have their bytes: each attempt is one of its own transactions, or one that a message
-- named that it took.
use Rattle.std.proofs.Common.{◌≡◌, ℕ, ◌≤◌, cond, Bool, true, false, ◌&&◌, Option, Some, None, IsSome, List, [], ◌∷◌, refl, sym, subst, arith}
use Rattle.std.specs.Prelude.{nat_le, not}
use Rattle.std.proofs.lemmas.Bool.{leb-false, leb-true, and_parts}
use Rattle.mdb_base.specs.declared.acts.Step.{Step}
use Rattle.mdb_base.specs.declared.names.SiteId.{SiteId}
use Rattle.mdb_base.specs.declared.names.Tid.{Tid}
use Rattle.mdb_base.specs.declared.names.Tx.{Tx}
use Rattle.mdb_base.specs.declared.replies.Reply.{Reply}
use Rattle.mdb_base.specs.declared.replies.Reply.TheVariants as Reply_is
use Rattle.mdb_base.specs.declared.replies.Why.{Why}
use Rattle.mdb_base.specs.declared.replies.Why.TheVariants as Because
use Rattle.mdb_base.specs.Names.{same_tx}
use Rattle.mdb_base.specs.Words.{Each, first_where, found, map_some, with_some}
use Rattle.mdb_base.proofs.ForCallers.{append_each, by_given, same_tx-equal}
use Rattle.order_laws.proofs.ForCallers.{each_of_at, first_where_some}
use Rattle.field_bytes.specs.Fields.{IsTid}
use Rattle.fed_rules.specs.declared.commands.Command.{Command}
use Rattle.fed_rules.specs.declared.commands.Command.TheVariants as Cmd
use Rattle.fed_rules.specs.declared.events.SiteEvent.{SiteEvent}
use Rattle.fed_rules.specs.declared.messages.FromSite.{FromSite}
use Rattle.fed_rules.specs.declared.messages.FromSite.TheVariants as From
use Rattle.fed_rules.specs.declared.messages.ToSite.{ToSite}
use Rattle.fed_rules.specs.declared.messages.ToSite.TheVariants as To
use Rattle.fed_rules.specs.declared.scenario.Scenario.{Scenario}
use Rattle.fed_rules.specs.declared.scenario.TxLine.{TxLine}
use Rattle.fed_rules.specs.Plans.{IsScenario, is_transaction}
use Rattle.fed_rules.specs.Requests.{Declines, Request, Submits, most_attempts}
use Rattle.fed_rules.specs.Runs.{Run, is_sealed, unended}
use Rattle.fed_rules.specs.SiteCommands.{Abort, Begin, Commit, Fate, Step_on, Verb, begin_next, next_step, own_request, past_behind, request, when_done, with_live}
use Rattle.fed_rules.specs.SitePast.{SitePast, attempts_of, engine_lines, epoch_start, live_of_tx}
use Rattle.fed_rules.specs.SiteRecords.{Home}
use Rattle.fed_messages.specs.declared.Envelope.{Envelope}
use Rattle.fed_messages.specs.declared.Packet.{Packet}
use Rattle.fed_messages.specs.Spelling.{IsFromSite, IsReply, IsToSite}
use Rattle.fed_rules.specs.OwnPrograms.{OwnPrograms, own_programs, program_at}
use Rattle.fed_rules.specs.Site_of.{about}
use Rattle.host_laws.specs.Hearing.{HasHeard, IsRead, Taking}
use Rattle.host_laws.specs.History.{IsCommand, IsHistory}
use Rattle.host_laws.specs.Plans.{SitePlan}
use Rattle.host_laws.specs.Turns.{SiteTurn, past_of, request_at, request_of, sends_at, sends_of, sent_by}
use Rattle.host_laws.specs.Written.{FitsFromSite, FitsReply}
use Rattle.host_laws.proofs.CarriedLists.{found_each}
use Rattle.host_laws.proofs.SiteNames.{EventNames, NamesAll, ReplyNames, SendNames, by_when, line_names, lines_names, start_names, unended_names}

-- The commands of a transaction of the site's own.

-- the programs are of transactions in their range
abbrev pub AreNamed : OwnPrograms → Type 0
AreNamed programs = (tx : Tx) → IsSome (programs tx) → (1 ≤ tx.0) × (tx.0 ≤ 1024)

-- a request whose event names attempts in their range
abbrev RequestNames : Request SiteEvent → Type 0
RequestNames (Submits event) = EventNames IsTid event
RequestNames (Declines answer) = Unit {0}

module _ (home : Home) (past : SitePast) (named : NamesAll IsTid past) where
  abbrev MayBe : Option Tid → Type 0
  MayBe None = Unit {0}
  MayBe (Some tid) = IsTid tid

  first_named : (test : Run → Bool) (runs : List Run) → Each (λ (run : Run). IsTid run.tid) runs → MayBe (map_some (λ (run : Run). run.tid) (first_where test runs))
  first_named test [] h = tt
  first_named test (run ∷ runs) h = by_test (test run) (first_named test runs h.1)
    where
      by_test : (b : Bool) → MayBe (map_some (λ (r : Run). r.tid) (first_where test runs)) → MayBe (map_some (λ (r : Run). r.tid) (cond b (Some run) (first_where test runs)))
      by_test true rest = h.0
      by_test false rest = rest

  live_named : (tx : Tx) (tid : Tid) → live_of_tx home past tx ≡ Some tid → IsTid tid
  live_named tx tid e =
      subst MayBe e
      (first_named (λ (run : Run). same_tx run.tid.tx tx && not (is_sealed run)) (unended (epoch_start home past) (engine_lines past))
      (unended_names IsTid (epoch_start home past) (start_names IsTid home past named) (engine_lines past) (lines_names IsTid past named)))

  with_live_names : (tx : Tx) (next : Tid → Run → Request SiteEvent) → ((tid : Tid) (run : Run) → IsTid tid → RequestNames (next tid run)) → RequestNames (with_live home past tx next)
  unfolding with_live
  with_live_names tx next h =
      by_when RequestNames _ _ _ (λ e. tt)
      (λ e. by_given RequestNames (live_of_tx home past tx) _ _ tt (λ tid f. by_given RequestNames _ _ _ tt (λ run g. h tid run (live_named tx tid f))))

  begin_request : (tx : Tx) (n : ℕ) → (1 ≤ tx.0) × (tx.0 ≤ 1024) → RequestNames (begin_next home past tx n)
  unfolding begin_next
  begin_request tx n range = by_when RequestNames (nat_le most_attempts n) _ _ (λ e. tt) (λ e. let few = leb-false most_attempts n e in record { least = range.0; greatest = range.1; attempts = omega (arith, few) })

  step_request : (steps : List Step) (tid : Tid) (run : Run) → IsTid tid → RequestNames (next_step steps tid run)
  unfolding next_step
  step_request steps tid run h = by_given RequestNames _ _ _ tt (λ step e. h)

  commit_request : (steps : List Step) (tid : Tid) (run : Run) → IsTid tid → RequestNames (when_done steps tid run)
  unfolding when_done
  commit_request steps tid run h = by_when RequestNames _ _ _ (λ e. tt) (λ e. h)

  verb_names : (verb : Verb) (steps : List Step) (tx : Tx) → (1 ≤ tx.0) × (tx.0 ≤ 1024) → RequestNames (request verb home steps past tx)
  unfolding request
  verb_names Begin steps tx range = begin_request tx (attempts_of past tx) range
  verb_names Step_on steps tx range = with_live_names tx (next_step steps) (λ tid run h. step_request steps tid run h)
  verb_names Commit steps tx range = with_live_names tx (when_done steps) (λ tid run h. commit_request steps tid run h)
  verb_names Abort steps tx range = with_live_names tx _ (λ tid run h. h)
  verb_names Fate steps tx range = tt

  own_names : (verb : Verb) (programs : OwnPrograms) (tx : Tx) → AreNamed programs → RequestNames (own_request verb home (programs tx) past tx)
  unfolding own_request
  own_names verb programs tx are = by_given RequestNames (programs tx) _ _ tt (λ steps e. verb_names verb steps tx (are tx (is_some_of (programs tx) steps e)))
    where
      is_some_of : (o : Option (List Step)) (steps : List Step) → o ≡ Some steps → IsSome o
      is_some_of None steps e = cc
      is_some_of (Some s) steps e = refl

-- The lines of a site's host.

-- the attempt of the message that a line takes is in its range
abbrev MayTake : Option (Envelope ToSite) → Type 0
MayTake None = Unit {0}
MayTake (Some envelope) = IsTid (about envelope.message)

command_names : (plan : SitePlan) (past : SitePast) (turns : List SiteTurn) (command : Command) (took : Option (Envelope ToSite)) → NamesAll IsTid past → AreNamed plan.programs → IsCommand plan turns command took → MayTake took
    → RequestNames (request_of plan past command took)
command_names plan past turns (Cmd.Begin tx) took named are h t = own_names plan.home past named Begin plan.programs tx are
command_names plan past turns (Cmd.Step tx) took named are h t = own_names plan.home past named Step_on plan.programs tx are
command_names plan past turns (Cmd.Commit tx) took named are h t = own_names plan.home past named Commit plan.programs tx are
command_names plan past turns (Cmd.Abort tx) took named are h t = own_names plan.home past named Abort plan.programs tx are
command_names plan past turns (Cmd.Fate tx) took named are h t = own_names plan.home past named Fate plan.programs tx are
command_names plan past turns (Cmd.Give site place) None named are h t = tt
command_names plan past turns (Cmd.Give site place) (Some envelope) named are h t = t
command_names plan past turns (Cmd.Ask site tid) took named are h t = tt
command_names plan past turns (Cmd.Trip actor calls cut) took named are h t = tt
command_names plan past turns (Cmd.Back actor) took named are h t = tt
command_names plan past turns (Cmd.Go tx) took named are h t = tt
command_names plan past turns (Cmd.Again tid) took named are h t = tt
command_names plan past turns (Cmd.Late tid) took named are h t = tt
command_names plan past turns (Cmd.Take site place) took named are h t = tt
command_names plan past turns (Cmd.Drop site tid) took named are h t = tt
command_names plan past turns (Cmd.Halt actor cut) took named are h t = tt
command_names plan past turns (Cmd.Check actor) took named are h t = tt

behind_names : (home : Home) (past : SitePast) (r : Request SiteEvent) → NamesAll IsTid past → RequestNames r → NamesAll IsTid (past_behind home past r)
behind_names home past (Submits event) named h = (line_names IsTid home past named event h, named)
behind_names home past (Declines answer) named h = named

sends_names : (home : Home) (past : SitePast) (r : Request SiteEvent) → NamesAll IsTid past → RequestNames r → Each (SendNames IsTid) (sends_of home past r)
sends_names home past (Submits event) named h = (line_names IsTid home past named event h).sends
sends_names home past (Declines answer) named h = tt

module _ (plan : SitePlan) (are : AreNamed plan.programs) where
  pub past_names : (turns : List SiteTurn) → IsHistory plan turns → Each (λ (turn : SiteTurn). MayTake turn.took) turns → NamesAll IsTid (past_of plan turns)
  past_names [] h t = tt
  past_names (turn ∷ turns) h t =
      let rest = past_names turns h.1 t.1 in
      behind_names plan.home (past_of plan turns) (request_at plan turns turn) rest (command_names plan (past_of plan turns) turns turn.line.line.command turn.took rest are h.0.command t.0)

  sent_names : (turns : List SiteTurn) → IsHistory plan turns → Each (λ (turn : SiteTurn). MayTake turn.took) turns → Each (SendNames IsTid) (sent_by plan turns)
  sent_names [] h t = tt
  sent_names (turn ∷ turns) h t =
      let past = past_names turns h.1 t.1 in
      append_each (SendNames IsTid) (sent_by plan turns) (sends_at plan turns turn) (sent_names turns h.1 t.1)
      (sends_names plan.home (past_of plan turns) (request_at plan turns turn) past (command_names plan (past_of plan turns) turns turn.line.line.command turn.took past are h.0.command t.0))

-- Messages in range.

pub about_in_range : (message : ToSite) → IsToSite message → IsTid (about message)
about_in_range (To.Work tid epoch n act) h = h.0.attempt
about_in_range (To.Take tid epoch n) h = h.attempt
about_in_range (To.Prepare tid epoch n) h = h.attempt
about_in_range (To.Decide tid decision) h = h

why_in_range : (why : Why) → ReplyNames IsTid (Reply_is.Refused why) → FitsReply (Reply_is.Refused why) → IsReply (Reply_is.Refused why)
why_in_range (Because.Die by) n f = n
why_in_range (Because.Late by) n f = n
why_in_range (Because.Invalid by key) n f = (n, f.1)
why_in_range (Because.TicketMoved by) n f = n

reply_in_range : (reply : Reply) → ReplyNames IsTid reply → FitsReply reply → IsReply reply
reply_in_range Reply_is.Done n f = tt
reply_in_range (Reply_is.Value value) n f = f
reply_in_range (Reply_is.Ticket ticket) n f = f
reply_in_range (Reply_is.Wait by) n f = n
reply_in_range (Reply_is.Refused why) n f = why_in_range why n f
reply_in_range Reply_is.Unknown n f = tt

from_in_range : (message : FromSite) → SendNames IsTid message → FitsFromSite message → IsFromSite message
from_in_range (From.Did tid epoch n reply) h f = (record { attempt = h.0; epochs = f.0.epochs; count = f.0.count }, reply_in_range reply h.1 f.1)
from_in_range (From.Vote tid vote) h f = (h, f.1)
from_in_range (From.Ack tid) h f = h
from_in_range (From.Inquiry tid) h f = h

all_in_range : (messages : List FromSite) → Each (SendNames IsTid) messages → Each FitsFromSite messages → Each IsFromSite messages
all_in_range [] h f = tt
all_in_range (message ∷ messages) h f = (from_in_range message h.0 f.0, all_in_range messages h.1 f.1)

-- the messages that are taken are in range
module _ {T M : Type 0} (look : T → Option (Envelope M)) where
  -- a fact of each envelope that is found, of those that lines take
  each_look : (P : Envelope M → Type 0) (May : Option (Envelope M) → Type 0) → May None → ((envelope : Envelope M) → P envelope → May (Some envelope)) → (lines : List T) → Each P (found look lines) → Each (λ line. May (look line)) lines
  each_look P May none some [] h = tt
  each_look P May none some (line ∷ lines) h = by_value (look line) refl h (each_look P May none some lines)
    where
      by_value : (o : Option (Envelope M)) → look line ≡ o → Each P (with_some o (found look lines)) → (Each P (found look lines) → Each (λ other. May (look other)) lines) → Each (λ other. May (look other)) (line ∷ lines)
      by_value None e h rest = (subst May (sym e) none, rest h)
      by_value (Some envelope) e h rest = (subst May (sym e) (some envelope h.0), rest h.1)

read_in_range : (programs : OwnPrograms) (packet : Packet) (o : Option (Envelope ToSite)) → IsRead programs packet o → (envelope : Envelope ToSite) → o ≡ Some envelope → IsToSite envelope.message
read_in_range programs packet o h envelope e = (subst (IsRead programs packet) e h).in_range.message

-- what a site's host sends is in range
pub site_in_range : (plan : SitePlan) (turns : List SiteTurn) (took : List Packet) → AreNamed plan.programs → IsHistory plan turns → HasHeard plan.programs took (found (λ (turn : SiteTurn). turn.took) turns) → Each FitsFromSite (sent_by plan turns)
    → Each IsFromSite (sent_by plan turns)
site_in_range plan turns took are right heard fits =
    all_in_range (sent_by plan turns)
    (sent_names plan are turns right
    (each_look (λ (turn : SiteTurn). turn.took) (λ (envelope : Envelope ToSite). IsToSite envelope.message) MayTake tt (λ envelope h. about_in_range envelope.message h) turns
    (subst (Each (λ (envelope : Envelope ToSite). IsToSite envelope.message)) (sym heard.envelopes_are)
    (found_each (λ (envelope : Envelope ToSite). IsToSite envelope.message) (λ (taking : Taking). taking.bears) heard.takings
    (reads heard.takings heard.read))))) fits
  where
    reads : (takings : List Taking) → Each (λ (taking : Taking). IsRead plan.programs taking.packet taking.bears) takings
        → Each (λ (taking : Taking). (envelope : Envelope ToSite) → taking.bears ≡ Some envelope → IsToSite envelope.message) takings
    reads [] h = tt
    reads (taking ∷ takings) h = ((λ envelope e. read_in_range plan.programs taking.packet taking.bears h.0 envelope e), reads takings h.1)

-- The programs of a scenario.

-- the line of a transaction is in its range
pub line_named : (scenario : Scenario) (tx : Tx) (line : TxLine) → IsScenario scenario → first_where (λ (l : TxLine). same_tx l.tx tx) scenario.transactions ≡ Some line → (1 ≤ tx.0) × (tx.0 ≤ 1024)
line_named scenario tx line whole e =
    let there = first_where_some (λ (l : TxLine). same_tx l.tx tx) scenario.transactions line e in
    let range = and_parts _ _ (and_parts _ _ (each_of_at (is_transaction scenario.sites) scenario.transactions line whole.transactions.in_place there.0)).0 in
    subst (λ (t : Tx). (1 ≤ t.0) × (t.0 ≤ 1024)) (same_tx-equal line.tx tx there.1) (leb-true 1 line.tx.0 range.0, leb-true line.tx.0 1024 range.1)

-- so are the programs of a site's own transactions
pub own_named : (scenario : Scenario) (site : SiteId) → IsScenario scenario → AreNamed (own_programs site scenario.transactions)
own_named scenario site whole tx some = by_line (first_where (λ (l : TxLine). same_tx l.tx tx) scenario.transactions) refl some
  where
    by_line : (o : Option TxLine) → first_where (λ (l : TxLine). same_tx l.tx tx) scenario.transactions ≡ o → IsSome (program_at site o) → (1 ≤ tx.0) × (tx.0 ≤ 1024)
    by_line None e s = cc
    by_line (Some line) e s = line_named scenario tx line whole e

-- What a site makes of the commands of its own local transactions: from its home, the transaction's program and its past alone.
use Rattle.std.specs.Prelude.{ℕ, nat_le, nat_lt, Option, Some, None, List, ◌∷◌, length}
use Rattle.mdb_base.specs.declared.acts.Step.{Step}
use Rattle.mdb_base.specs.declared.names.Tid.{Tid}
use Rattle.mdb_base.specs.declared.names.Tx.{Tx}
use Rattle.mdb_base.specs.Programs.{plain_act}
use Rattle.mdb_base.specs.Words.{when, given, found, item_at}
use Rattle.fed_rules.specs.declared.answers.Answer.{Answer}
use Rattle.fed_rules.specs.declared.answers.Answer.TheVariants as Say
use Rattle.fed_rules.specs.declared.events.SiteEvent.{SiteEvent}
use Rattle.fed_rules.specs.declared.events.SiteEvent.TheVariants as Ev
use Rattle.fed_rules.specs.CoordPast.{oldest_first}
use Rattle.fed_rules.specs.Happenings.{is_down}
use Rattle.fed_rules.specs.Requests.{Request, Submits, Declines, most_attempts, unless_begun, attempt}
use Rattle.fed_rules.specs.Runs.{Access, Got, Wrote, Run}
use Rattle.fed_rules.specs.Site.{site_line, done}
use Rattle.fed_rules.specs.SitePast.{SitePast, live, live_of_tx, attempts_of}
use Rattle.fed_rules.specs.SiteRecords.{Home}

-- the programs of the local transactions of a site
abbrev pub Programs : Type 0
Programs = Tx → List Step

-- what is asked of a local transaction
pub data Verb : Type 0 where
  Begin : Verb
  Step_on : Verb
  Commit : Verb
  Abort : Verb
  Fate : Verb

-- `begin`: the attempt behind the n that were begun
unfoldable pub begin_next : Home → SitePast → Tx → ℕ → Request SiteEvent
begin_next home past tx n =
    let event = Ev.Begin (attempt tx n) in
    when (nat_le most_attempts n) (Declines (unless_begun (site_line home past event).answer)) (Submits event)

abbrev pub value_of : Access → Option ℕ
value_of (Got key value) = Some value
value_of (Wrote key value) = None

-- the values that a run read, in program order
abbrev pub run_reads : Run → List ℕ
run_reads run = oldest_first (found value_of run.acts)

-- the live attempt of a local transaction, with its run; what finds none is answered idle
unfoldable pub with_live : Home → SitePast → Tx → (Tid → Run → Request SiteEvent) → Request SiteEvent
with_live home past tx next =
    when (is_down past) (Declines Say.Down)
    (given (live_of_tx home past tx)
    (λ tid. given (live home past tid) (next tid) (Declines Say.Idle))
    (Declines Say.Idle))

-- `step`: the next step of the live attempt
unfoldable pub next_step : List Step → Tid → Run → Request SiteEvent
next_step steps tid run =
    given (item_at steps (done run))
    (λ step. Submits (Ev.Act tid (plain_act (run_reads run) step.act)))
    (Declines Say.End)

-- `commit`: every step is done
unfoldable pub when_done : List Step → Tid → Run → Request SiteEvent
when_done steps tid run = when (nat_lt (done run) (length steps)) (Declines Say.Unfinished) (Submits (Ev.Commit tid))

-- what the site makes of a command of a local transaction with this program
unfoldable pub request : Verb → Home → List Step → SitePast → Tx → Request SiteEvent
request Begin home steps past tx = begin_next home past tx (attempts_of past tx)
request Step_on home steps past tx = with_live home past tx (next_step steps)
request Commit home steps past tx = with_live home past tx (when_done steps)
request Abort home steps past tx = with_live home past tx (λ tid run. Submits (Ev.Abort tid))
request Fate home steps past tx = Submits (Ev.Fate tx)

-- and of one that may be no transaction of its own
unfoldable pub own_request : Verb → Home → Option (List Step) → SitePast → Tx → Request SiteEvent
own_request verb home program past tx = given program (λ steps. request verb home steps past tx) (Declines Say.None)

-- the answer to a request
abbrev pub answer_to : Home → SitePast → Request SiteEvent → Answer
answer_to home past (Submits event) = (site_line home past event).answer
answer_to home past (Declines answer) = answer

-- the past of the site behind it
abbrev pub past_behind : Home → SitePast → Request SiteEvent → SitePast
past_behind home past (Submits event) = site_line home past event ∷ past
past_behind home past (Declines answer) = past

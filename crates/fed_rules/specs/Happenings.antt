-- What happens to one actor: each line of it as a happening, the newest first; when the actor is down, and which trip is in force.
use Rattle.std.specs.Prelude.{ℕ, ◌-◌, ◌==◌, nat_le, Bool, true, false, cond, Option, Some, None, List, [], ◌∷◌, ◌++◌, take, length}
use Rattle.mdb_base.specs.Words.{when}
use Rattle.fed_rules.specs.declared.answers.Answer.{Answer}
use Rattle.fed_rules.specs.declared.answers.Answer.TheVariants as Say
use Rattle.fed_rules.specs.Disk.{Call, Stops, Disk, after_calls, journal}
use Rattle.fed_rules.specs.Runs.{EngineLine}

-- one line of an actor, with the message that it takes in its event
pub record Happening (Event Message Record : Type 0) : Type 0 where
  pub event : Event
  pub answer : Answer
  pub sends : List Message
  pub calls : List (Call Record)  -- its disk calls, the first one first
  pub lines : List EngineLine  -- a site's engine lines, the newest first

-- a trip that was set: it stops the actor right after so many further disk calls
pub record Trip : Type 0 where
  pub calls : ℕ
  pub cut : ℕ

-- an answer that changes and sends nothing
abbrev pub quiet : {Event Message Record : Type 0} → Event → Answer → Happening Event Message Record
quiet event answer = record { event = event; answer = answer; sends = []; calls = []; lines = [] }

-- whether the line stops its actor
abbrev pub stops : Answer → Bool
stops (Say.Stopped kept) = true
stops answer = false

-- whether the line brings its actor up again
abbrev pub comes_up : Answer → Bool
comes_up (Say.UpSite epoch doubtful) = true
comes_up (Say.UpCoord known) = true
comes_up answer = false

-- an actor is down between a stop and the next start that comes through
abbrev pub is_down : {Event Message Record : Type 0} → List (Happening Event Message Record) → Bool
is_down [] = false
is_down (x ∷ past) = cond (stops x.answer) true (cond (comes_up x.answer) false (is_down past))

-- what so many disk calls leave of a trip
abbrev pub used : ℕ → Option Trip → Option Trip
used calls None = None
used calls (Some trip) = Some (record { calls = trip.calls - calls; cut = trip.cut })

-- a trip of no calls disarms, and a new trip replaces an older one
abbrev pub set : Option Trip → Option Trip → Option Trip
set None old = old
set (Some trip) old = cond (trip.calls == 0) None (Some trip)

-- the trip in force, with the calls that are left: the last one that was set since the last stop
abbrev pub armed : {Event Message Record : Type 0} → (Event → Option Trip) → List (Happening Event Message Record) → Option Trip
armed trip_of [] = None
armed trip_of (x ∷ past) = cond (stops x.answer) None (set (trip_of x.event) (used (length x.calls) (armed trip_of past)))

-- the line that a stop ends: it sends nothing, its runs end, and its answer counts the records that stand on the disk
unfoldable pub stopped : {Event Message Record : Type 0} → (Record → ℕ) → Disk Record → Event → List (Call Record) → Happening Event Message Record
stopped size disk event calls =
    record { event = event; answer = Say.Stopped (length (journal size (after_calls size disk calls))); sends = []; calls = calls; lines = [] }

-- the line, or where the trip comes within its disk calls the line that it ends
unfoldable pub tripped : {Event Message Record : Type 0} → (Record → ℕ) → Disk Record → Option Trip → Happening Event Message Record → Happening Event Message Record
tripped size disk None x = x
tripped size disk (Some trip) x =
    when (nat_le trip.calls (length x.calls)) (stopped size disk x.event (take trip.calls x.calls ++ Stops trip.cut ∷ [])) x

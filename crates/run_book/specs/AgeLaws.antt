-- The ages answer as the rules do, and they follow the lines.
use Rattle.std.specs.Prelude.{ℕ, ◌≡◌, cond, Option, Some, None, List, [], ◌∷◌}
use Rattle.std.specs.FinMap.{empty}
use Rattle.mdb_base.specs.declared.names.Engine.{Engine}
use Rattle.mdb_base.specs.declared.names.Key.{Key}
use Rattle.mdb_base.specs.declared.names.Tid.{Tid}
use Rattle.mdb_base.specs.declared.acts.PlainAct.{PlainAct}
use Rattle.mdb_base.specs.declared.acts.PlainAct.TheVariants.{Read, Write}
use Rattle.mdb_base.specs.declared.replies.Reply.{Reply}
use Rattle.mdb_base.specs.declared.replies.Reply.TheVariants.{Done, Value, Ticket, Wait, Refused}
use Rattle.mdb_base.specs.Names.{same_key}
use Rattle.mdb_base.specs.Words.{greatest}
use Rattle.fed_rules.specs.Runs.{Start, EngineLine, Begins, Acts, Takes, Seals, Refuses, Commits, Aborts, Run, tid_of, run_at, has_ticket}
use Rattle.fed_rules.specs.EngineLines.{IsStart, IsRightLine, IsRight}
use Rattle.fed_rules.specs.Replies.{age_of, key_of, has_written, late_or_wait, older_writers, age_stop, age_ticket_stop}
use Rattle.run_book.specs.Rivals.{rival_by}
use Rattle.run_book.specs.declared.key_ages.KeyAges.{KeyAges}
use Rattle.run_book.specs.Ages.{Ages, ages_of, no_ages, with_reader, with_writer, settled, unwritten, restored_writer}
use Rattle.run_book.specs.Takers.{Takers, no_takers, with_taker, restored_takers, without_taker, committed_taker}
use Rattle.run_book.specs.Stops.{key_stop, writer_stop, IsTicketStop}
use Rattle.run_book.specs.AgeLines.{KeepsAges}

-- what stops an access under timestamp order
abbrev pub StopsAccess : Engine → Type 0
StopsAccess kind =
    (ages : Ages) (takers : Takers) (start : Start) (lines : List EngineLine) (me : Run) (act : PlainAct) → start.kind ≡ kind → IsStart start → IsRight start lines
    → KeepsAges ages takers start lines → key_stop (ages_of ages (key_of act)) me.age act ≡ age_stop start lines me act

-- what a read waits for
abbrev pub StopsReader : Engine → Type 0
StopsReader kind =
    (ages : Ages) (takers : Takers) (start : Start) (lines : List EngineLine) (me : Run) (key : Key) → start.kind ≡ kind → IsStart start → IsRight start lines
    → KeepsAges ages takers start lines → writer_stop (ages_of ages key) me.age ≡ late_or_wait None (greatest age_of (older_writers start lines me (Read key)))

-- what stops the taking of the ticket
abbrev pub StopsTaking : Engine → Type 0
StopsTaking kind =
    (ages : Ages) (takers : Takers) (start : Start) (lines : List EngineLine) (me : Run) (stop : Option Reply) → start.kind ≡ kind → IsStart start → IsRight start lines
    → KeepsAges ages takers start lines → IsTicketStop takers me.age stop → stop ≡ age_ticket_stop start lines me

-- each key's ages are these now
abbrev pub AreNow : Ages → (Key → KeyAges) → Type 0
AreNow ages now = (key : Key) → ages_of ages key ≡ now key

-- the ages of the keys that a run wrote are changed so
abbrev pub where_written : Run → (KeyAges → KeyAges) → Ages → Key → KeyAges
where_written run change ages key = cond (has_written key run) (change (ages_of ages key)) (ages_of ages key)

-- the ages of one key are changed so
abbrev pub at_key : Key → (KeyAges → KeyAges) → Ages → Key → KeyAges
at_key key change ages q = cond (same_key key q) (change (ages_of ages q)) (ages_of ages q)

-- how a call leaves the ages and the takers, by its line and the run of its attempt
abbrev pub IsNoted : Run → Ages → Takers → EngineLine → Ages → Takers → Type 0
IsNoted run ages takers (Acts tid act (Wait by)) new now = AreNow new (ages_of ages) × (now ≡ takers)
IsNoted run ages takers (Acts tid act (Refused why)) new now = AreNow new (where_written run unwritten ages) × (now ≡ without_taker run takers)
IsNoted run ages takers (Acts tid (Read key) (Value value)) new now = AreNow new (at_key key (with_reader (rival_by age_of run)) ages) × (now ≡ takers)
IsNoted run ages takers (Acts tid (Write key value) Done) new now = AreNow new (at_key key (with_writer (rival_by age_of run)) ages) × (now ≡ takers)
IsNoted run ages takers (Takes tid (Wait by)) new now = AreNow new (ages_of ages) × (now ≡ takers)
IsNoted run ages takers (Takes tid (Refused why)) new now = AreNow new (where_written run unwritten ages) × (now ≡ without_taker run takers)
IsNoted run ages takers (Takes tid (Ticket n)) new now =
    AreNow new (ages_of ages) × (now ≡ record takers { unended = with_taker (rival_by age_of run) takers.unended; live = Some (rival_by age_of run) })
IsNoted run ages takers (Seals tid n) new now = AreNow new (ages_of ages) × (now ≡ record takers { live = cond (has_ticket run) None takers.live })
IsNoted run ages takers (Refuses tid why) new now = AreNow new (where_written run unwritten ages) × (now ≡ without_taker run takers)
IsNoted run ages takers (Commits tid) new now = AreNow new (where_written run settled ages) × (now ≡ committed_taker run takers)
IsNoted run ages takers (Aborts tid) new now = AreNow new (where_written run unwritten ages) × (now ≡ without_taker run takers)
IsNoted run ages takers line new now = ⊥

-- a right line of an unended run
abbrev pub FollowsCalls : Engine → Type 0
FollowsCalls kind =
    (old new : Ages) (was now : Takers) (start : Start) (older : List EngineLine) (line : EngineLine) (run : Run) → start.kind ≡ kind → IsStart start → IsRight start older
    → IsRightLine start older line → run_at start older (tid_of line) ≡ Some run → KeepsAges old was start older → IsNoted run old was line new now → KeepsAges new now start (line ∷ older)

-- a begin, and a begin that is taken back, leave all as it is
pub record FollowsBegins : Type 0 where
  pub begins : (ages : Ages) (takers : Takers) (start : Start) (older : List EngineLine) (tid : Tid) (n : ℕ) → KeepsAges ages takers start older → KeepsAges ages takers start (Begins tid n ∷ older)
  pub back : (ages : Ages) (takers : Takers) (start : Start) (older : List EngineLine) (tid : Tid) (n : ℕ) → KeepsAges ages takers start (Begins tid n ∷ older) → KeepsAges ages takers start older

-- a sealing is taken back
abbrev pub FollowsUnseals : Engine → Type 0
FollowsUnseals kind =
    (ages : Ages) (was now : Takers) (start : Start) (older : List EngineLine) (tid : Tid) (n : ℕ) (run : Run) → start.kind ≡ kind → IsStart start → IsRight start (Seals tid n ∷ older)
    → run_at start older tid ≡ Some run → KeepsAges ages was start (Seals tid n ∷ older) → now ≡ record was { live = cond (has_ticket run) (Some (rival_by age_of run)) was.live }
    → KeepsAges ages now start older

-- an epoch starts: the transactions in doubt alone are there
abbrev pub FollowsStarts : Type 0
FollowsStarts = (ages : Ages) (takers : Takers) (start : Start) → AreNow ages (λ key. record no_ages { writer = restored_writer start.doubtful key None })
    → takers ≡ record no_takers { unended = restored_takers start.doubtful empty } → KeepsAges ages takers start []

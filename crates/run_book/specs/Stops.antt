-- Timestamp order by ages: what stops an access, and what stops the taking of the ticket.
-- The rule is of Bernstein, Hadzilacos and Goodman (1987), tickets are of Georgakopoulos, Rusinkiewicz and Sheth (1994).
use Rattle.std.specs.Prelude.{ℕ, ◌≡◌, cond, nat_lt, Option, Some, None}
use Rattle.mdb_base.specs.declared.acts.PlainAct.{PlainAct}
use Rattle.mdb_base.specs.declared.acts.PlainAct.TheVariants.{Read, Write}
use Rattle.mdb_base.specs.declared.replies.Reply.{Reply}
use Rattle.mdb_base.specs.declared.replies.Reply.TheVariants.{Wait, Refused}
use Rattle.mdb_base.specs.declared.replies.Why.TheVariants.{Late}
use Rattle.run_book.specs.declared.rival.Rival.{Rival}
use Rattle.run_book.specs.declared.key_ages.KeyAges.{KeyAges}
use Rattle.run_book.specs.Ages.{younger_of}
use Rattle.run_book.specs.Takers.{Takers, IsYoungestOf}

-- it, where it is younger than this age
abbrev pub above : ℕ → Option Rival → Option Rival
above age None = None
above age (Some rival) = cond (nat_lt age rival.rank) (Some rival) None

-- it, where it is older than this age
abbrev pub below : ℕ → Option Rival → Option Rival
below age None = None
below age (Some rival) = cond (nat_lt rival.rank age) (Some rival) None

-- who comes behind a younger one is late, and else waits for the older one
abbrev pub stop_by : Option Rival → Option Rival → Option Reply
stop_by (Some youngest) older = Some (Refused (Late youngest.tid))
stop_by None (Some older) = Some (Wait older.tid)
stop_by None None = None

-- the youngest with an access that an act conflicts with: a read with those who wrote the key, a write also with those who read it
abbrev pub youngest_against : KeyAges → PlainAct → Option Rival
youngest_against ages (Read key) = younger_of ages.last ages.writer
youngest_against ages (Write key value) = younger_of ages.read (younger_of ages.last ages.writer)

-- what stops an act of a run of this age on a key of these ages
abbrev pub key_stop : KeyAges → ℕ → PlainAct → Option Reply
key_stop ages age act = stop_by (above age (youngest_against ages act)) (below age ages.writer)

-- what a run of this age waits for on a key of these ages: the older unended writer
abbrev pub writer_stop : KeyAges → ℕ → Option Reply
writer_stop ages age = stop_by None (below age ages.writer)

-- what stops the taking of the ticket by a run of this age
abbrev pub IsTicketStop : Takers → ℕ → Option Reply → Type 0
IsTicketStop takers age stop =
    (o : Option Rival) × IsYoungestOf takers.unended o
    × (stop ≡ stop_by (above age (younger_of o takers.committed)) (below age takers.live))

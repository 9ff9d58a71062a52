-- The locking rule: what a run is answered by who stands in its way.
-- Strict two-phase locking with wait-die is of Bernstein, Hadzilacos and Goodman (1987).
use Rattle.std.specs.Prelude.{ℕ, cond, nat_lt, Option, Some, None}
use Rattle.mdb_base.specs.declared.replies.Reply.{Reply}
use Rattle.mdb_base.specs.declared.replies.Reply.TheVariants.{Wait, Refused}
use Rattle.mdb_base.specs.declared.replies.Why.TheVariants.{Die}
use Rattle.run_book.specs.declared.rival.Rival.{Rival}

-- who is older than the oldest in its way waits for it, and else dies by it
abbrev pub stop_by : ℕ → Option Rival → Option Reply
stop_by age None = None
stop_by age (Some oldest) = Some (cond (nat_lt age oldest.rank) (Wait oldest.tid) (Refused (Die oldest.tid)))

-- the older one of two, where both are there
abbrev pub older_of_two : Option Rival → Option Rival → Option Rival
older_of_two None other = other
older_of_two (Some rival) None = Some rival
older_of_two (Some rival) (Some other) = Some (cond (nat_lt other.rank rival.rank) other rival)

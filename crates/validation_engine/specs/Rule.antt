-- The rule of backward validation on an index of writers: which key of a live run is bad, and what refuses its sealing.
-- Backward validation is of Härder (1984). That the writes of prepared runs count in it is this project's profile.
use Rattle.std.specs.Prelude.{ℕ, ◌+◌, nat_lt, cond, ◌==◌, Option, Some, None, List, [], ◌∷◌}
use Rattle.mdb_base.specs.declared.names.Key.{Key}
use Rattle.mdb_base.specs.declared.replies.Why.{Why}
use Rattle.mdb_base.specs.declared.replies.Why.TheVariants.{Invalid}
use Rattle.fed_rules.specs.Runs.{Access, Got, Wrote, Run}
use Rattle.fed_rules.specs.Replies.{access_key, moved_by, or_why}
use Rattle.run_book.specs.declared.counters.Counters.{Counters}
use Rattle.run_book.specs.declared.rival.Rival.{Rival}
use Rattle.validation_engine.specs.declared.index.Ended.{Ended}
use Rattle.validation_engine.specs.declared.rule.Bad.{Bad}
use Rattle.validation_engine.specs.Index.{Index, last_at, sealed_at}

-- a writer that ended by commit, where it ended since a run of this age began
abbrev pub ended_since : ℕ → Option Ended → Option Rival
ended_since age None = None
ended_since age (Some ended) = cond (nat_lt ended.moment age) None (Some (record { tid = ended.tid; rank = ended.number }))

-- the first of two that is there
abbrev pub or_rival : Option Rival → Option Rival → Option Rival
or_rival None other = other
or_rival (Some rival) other = Some rival

-- who makes the key of an access bad for a live run of this age
abbrev pub spoiler_of : Index → ℕ → Access → Option Rival
spoiler_of index age (Got key value) = or_rival (sealed_at index key) (ended_since age (last_at index key))
spoiler_of index age (Wrote key value) = sealed_at index key

-- the one of the lower key, the first of two alike
abbrev pub lower_of : Bad → Option Bad → Bad
lower_of bad None = bad
lower_of bad (Some other) = cond (nat_lt other.key.0 bad.key.0) other bad

-- with the key of an access, where somebody makes it bad
abbrev pub or_lower : Key → Option Rival → Option Bad → Option Bad
or_lower key None least = least
or_lower key (Some by) least = Some (lower_of (record { key = key; by = by.tid }) least)

-- the least of the keys of these accesses that are bad
abbrev pub least_bad_of : (Access → Option Rival) → List Access → Option Bad
least_bad_of spoils [] = None
least_bad_of spoils (access ∷ acts) = or_lower (access_key access) (spoils access) (least_bad_of spoils acts)

abbrev pub invalid_by_bad : Option Bad → Option Why
invalid_by_bad None = None
invalid_by_bad (Some bad) = Some (Invalid bad.by bad.key)

-- whose ticket was published since this one was taken
abbrev pub moved_in : Counters → Option ℕ → Option Why
moved_in counters None = None
moved_in counters (Some ticket) = cond (ticket == counters.published + 1) None (moved_by counters.owner)

-- what refuses the sealing of a live run, if anything
abbrev pub seal_stop_by : Index → Counters → Run → Option Why
seal_stop_by index counters me = or_why (invalid_by_bad (least_bad_of (spoiler_of index me.age) me.acts)) (moved_in counters me.ticket)

-- What a stop in the midst of a line's calls leaves: the oldest of the records with those that the calls append.
use Rattle.std.proofs.Common.{ℕ, Bool, List, [], ◌∷◌, ◌++◌, take, zero, suc, refl, subst}
use Rattle.mdb_base.specs.declared.names.Tx.{Tx}
use Rattle.fed_rules.specs.declared.events.SiteEvent.{SiteEvent}
use Rattle.fed_rules.specs.declared.records.SiteRecord.{SiteRecord}
use Rattle.fed_rules.specs.Disk.{Append, Call, CutBack, TrimFront, Stops, Sync}
use Rattle.fed_rules.specs.Runs as Runs
use Rattle.fed_rules.specs.SitePast.{SitePast}
use Rattle.fed_rules.specs.SiteRecords.{Home}
use Rattle.fed_rules.specs.Usable.{OfFronts}
use Rattle.fed_rules.specs.Durable.{IsFrontOf}
use Rattle.fed_rules.proofs.ForCallers.{front_of_front}
use Rattle.site_history.proofs.Backed.{StopsLast, appended}
use Rattle.site_history.proofs.Moves.{Moves, OnlySyncs, rests, begins_local, begins_work, goes_on, commits_local, prepares_run, settles_held, checks_sum}

-- no stop is among the calls
abbrev pub HasNoStop : List (Call SiteRecord) → Type 0
HasNoStop [] = Unit {0}
HasNoStop (Stops cut ∷ calls) = ⊥
HasNoStop (call ∷ calls) = HasNoStop calls

pub stop_last : (n cut : ℕ) (calls : List (Call SiteRecord)) → HasNoStop calls → StopsLast (take n calls ++ Stops cut ∷ [])
stop_last zero cut calls h = tt
stop_last (suc n) cut [] h = tt
stop_last (suc n) cut (Append r ∷ calls) h = stop_last n cut calls h
stop_last (suc n) cut (Sync ∷ calls) h = stop_last n cut calls h
stop_last (suc n) cut (CutBack ∷ calls) h = stop_last n cut calls h
stop_last (suc n) cut (TrimFront ∷ calls) h = stop_last n cut calls h
stop_last (suc n) cut (Stops c ∷ calls) h = elim h [ ]

pub grows : (calls : List (Call SiteRecord)) (rs : List SiteRecord) → IsFrontOf (appended calls rs) rs
grows [] rs = ([], refl)
grows (Append r ∷ calls) rs = front_of_front (appended calls (r ∷ rs)) (r ∷ rs) rs (grows calls (r ∷ rs)) (r ∷ [], refl)
grows (Sync ∷ calls) rs = grows calls rs
grows (CutBack ∷ calls) rs = grows calls rs
grows (TrimFront ∷ calls) rs = grows calls rs
grows (Stops c ∷ calls) rs = grows calls rs

pub taken_front : (n cut : ℕ) (calls : List (Call SiteRecord)) (rs : List SiteRecord)
    → IsFrontOf (appended calls rs) (appended (take n calls ++ Stops cut ∷ []) rs)
taken_front zero cut calls rs = grows calls rs
taken_front (suc n) cut [] rs = ([], refl)
taken_front (suc n) cut (Append r ∷ calls) rs = taken_front n cut calls (r ∷ rs)
taken_front (suc n) cut (Sync ∷ calls) rs = taken_front n cut calls rs
taken_front (suc n) cut (CutBack ∷ calls) rs = taken_front n cut calls rs
taken_front (suc n) cut (TrimFront ∷ calls) rs = taken_front n cut calls rs
taken_front (suc n) cut (Stops c ∷ calls) rs = taken_front n cut calls rs

syncs_no_stop : (calls : List (Call SiteRecord)) → OnlySyncs calls → HasNoStop calls
syncs_no_stop [] s = tt
syncs_no_stop (Sync ∷ calls) s = syncs_no_stop calls s
syncs_no_stop (TrimFront ∷ calls) s = syncs_no_stop calls s
syncs_no_stop (Append r ∷ calls) s = elim s [ ]
syncs_no_stop (CutBack ∷ calls) s = elim s [ ]
syncs_no_stop (Stops c ∷ calls) s = elim s [ ]

pub move_no_stop : (home : Home) (past : SitePast) (local : Tx → Bool) (event : SiteEvent) (calls : List (Call SiteRecord)) (lines : List Runs.EngineLine)
    → Moves home past local event calls lines → HasNoStop calls
move_no_stop home past local event calls lines rests = tt
move_no_stop home past local event calls lines (begins_local mine free none) = tt
move_no_stop home past local event calls lines (begins_work others none fresh) = tt
move_no_stop home past local event calls lines (goes_on run here calm) = tt
move_no_stop home past local event calls lines (commits_local run mine here) = tt
move_no_stop home past local event calls lines (prepares_run n run asked others here took) = tt
move_no_stop home past local event calls lines (settles_held {rest = rest} held doubt synced just) = syncs_no_stop rest synced
move_no_stop home past local event calls lines (checks_sum is) = tt

-- of the records themselves
pub whole_of_fronts : (P : List SiteRecord → Type 0) (records : List SiteRecord) → OfFronts P records → P records
whole_of_fronts P [] h = h
whole_of_fronts P (newest ∷ records) h = h.0

-- and of what a stop leaves of them
pub fronts_of_front : (P : List SiteRecord → Type 0) (records kept : List SiteRecord) → IsFrontOf records kept → OfFronts P records → OfFronts P kept
fronts_of_front P records kept (newer, e) h = behind newer (subst (OfFronts P) e h)
  where
    behind : (newer : List SiteRecord) → OfFronts P (newer ++ kept) → OfFronts P kept
    behind [] h = h
    behind (x ∷ newer) h = behind newer h.1

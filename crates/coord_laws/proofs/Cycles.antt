-- No ticket edges between committed attempts go round: a Commit is recorded only where it closes no cycle, and a stop takes records away.
use Rattle.std.proofs.Common.{ℕ, Bool, true, false, cond, nat_le, List, [], ◌∷◌, inl, inr}
use Rattle.mdb_base.specs.Words.{Each}
use Rattle.order_laws.specs.Chains.{In, Acyclic, Within}
use Rattle.order_laws.specs.Search.{Linked}
use Rattle.order_laws.specs.Tickets.{Ticketed, edge_between}
use Rattle.order_laws.proofs.ForCallers.{acyclic_map, no_cycle}
use Rattle.fed_rules.specs.declared.records.CoordRecord.{CoordRecord}
use Rattle.fed_rules.specs.declared.records.CoordRecord.TheVariants as Rec
use Rattle.fed_rules.specs.CoordPast.{CoordPast, CoordHappening, disk, records}
use Rattle.fed_rules.specs.CoordRecords.{coord_frame, commits}
use Rattle.fed_rules.specs.Disk.{Disk, Call, Append, Sync, CutBack, TrimFront, Stops, bytes_of, whole, after_calls}
use Rattle.coord_laws.proofs.Made.{CommitsNobody, IsAccepted}

-- the edges that the search follows
abbrev pub IsFree : List Ticketed → Type 0
IsFree nodes = Acyclic (Within (Linked edge_between) nodes)

-- among fewer attempts there is no more of a cycle
fewer : (some all : List Ticketed) → ((a : Ticketed) → In a some → In a all) → IsFree all → IsFree some
fewer some all sub free =
    acyclic_map (Within (Linked edge_between) some) (Within (Linked edge_between) all) (λ (a : Ticketed). a)
    (λ a b e. record { edge = e.edge; from = sub a e.from; to = sub b e.to }) free

-- a record more is a commit more or none
pub commit_behind : (newest : CoordRecord) (rs : List CoordRecord) (a : Ticketed) → In a (commits rs) → In a (commits (newest ∷ rs))
commit_behind (Rec.Commit tid tickets) rs a i = inr i
commit_behind (Rec.Initiation tid members) rs a i = i
commit_behind (Rec.Abort tid members) rs a i = i
commit_behind (Rec.End tid) rs a i = i
commit_behind (Rec.Checkpoint sum) rs a i = i

-- what is left of the records has no other commits
pub commits_whole : (b : ℕ) (rs : List CoordRecord) (a : Ticketed) → In a (commits (whole coord_frame b rs)) → In a (commits rs)
commits_whole b [] a i = i
commits_whole b (r ∷ rs) a i = by_test (nat_le (bytes_of coord_frame (r ∷ rs)) b) i (commits_whole b rs a)
  where
    by_test : (t : Bool) → In a (commits (cond t (r ∷ rs) (whole coord_frame b rs))) → (In a (commits (whole coord_frame b rs)) → In a (commits rs)) → In a (commits (r ∷ rs))
    by_test true i h = i
    by_test false i h = commit_behind r rs a (h i)

-- calls that append no Commit leave no other commits
free_after : (calls : List (Call CoordRecord)) (d : Disk CoordRecord) (all : List Ticketed) → Each CommitsNobody calls → ((a : Ticketed) → In a (commits d.records) → In a all) → IsFree all → IsFree (commits (after_calls coord_frame d calls).records)
free_after [] d all h sub free = fewer (commits d.records) all sub free
free_after (Append (Rec.Commit tid tickets) ∷ calls) d all h sub free = absurd h.0
free_after (Append (Rec.Checkpoint sum) ∷ calls) d all h sub free = free_after calls _ all h.1 sub free
free_after (Append (Rec.Initiation tid members) ∷ calls) d all h sub free = free_after calls _ all h.1 sub free
free_after (Append (Rec.Abort tid members) ∷ calls) d all h sub free = free_after calls _ all h.1 sub free
free_after (Append (Rec.End tid) ∷ calls) d all h sub free = free_after calls _ all h.1 sub free
free_after (Sync ∷ calls) d all h sub free = free_after calls _ all h.1 sub free
free_after (CutBack ∷ calls) d all h sub free = free_after calls _ all h.1 sub free
free_after (TrimFront ∷ calls) d all h sub free = free_after calls _ all h.1 sub free
free_after (Stops cut ∷ calls) d all h sub free = free_after calls _ all h.1 (λ a i. sub a (commits_whole _ d.records a i)) free

-- and calls of which one appends an accepted Commit leave no cycle
free_accepted : (calls : List (Call CoordRecord)) (d : Disk CoordRecord) (all : List Ticketed) → IsAccepted all calls → ((a : Ticketed) → In a (commits d.records) → In a all) → IsFree all → IsFree (commits (after_calls coord_frame d calls).records)
free_accepted [] d all h sub free = fewer (commits d.records) all sub free
free_accepted (Append (Rec.Commit tid tickets) ∷ calls) d all h sub free =
    free_after calls _ (record { tid = tid; tickets = tickets } ∷ all) h.1 (λ a i. one-more a i)
    (no_cycle edge_between (record { tid = tid; tickets = tickets }) all free h.0)
  where
    one-more : (a : Ticketed) → In a (record { tid = tid; tickets = tickets } ∷ commits d.records) → In a (record { tid = tid; tickets = tickets } ∷ all)
    one-more a (inl e) = inl e
    one-more a (inr i) = inr (sub a i)
free_accepted (Append (Rec.Initiation tid members) ∷ calls) d all h sub free = free_accepted calls _ all h sub free
free_accepted (Append (Rec.Abort tid members) ∷ calls) d all h sub free = free_accepted calls _ all h sub free
free_accepted (Append (Rec.End tid) ∷ calls) d all h sub free = free_accepted calls _ all h sub free
free_accepted (Append (Rec.Checkpoint sum) ∷ calls) d all h sub free = free_accepted calls _ all h sub free
free_accepted (Sync ∷ calls) d all h sub free = free_accepted calls _ all h sub free
free_accepted (CutBack ∷ calls) d all h sub free = free_accepted calls _ all h sub free
free_accepted (TrimFront ∷ calls) d all h sub free = free_accepted calls _ all h sub free
free_accepted (Stops cut ∷ calls) d all h sub free = free_accepted calls _ all h (λ a i. sub a (commits_whole _ d.records a i)) free

-- a line keeps the committed attempts without a cycle
pub free_line : (past : CoordPast) (x : CoordHappening) → IsAccepted (commits (records past)) x.calls → IsFree (commits (records past)) → IsFree (commits (records (x ∷ past)))
free_line past x h free = free_accepted x.calls (disk past) (commits (records past)) h (λ a i. i) free

pub nothing_free : IsFree []
nothing_free a [] c = absurd c.from
nothing_free a (x ∷ xs) c = absurd c.0.from

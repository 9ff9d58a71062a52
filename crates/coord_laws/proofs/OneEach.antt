-- No attempt has two Commit records: one is appended of an attempt that has none, at most one a line, and a stop takes the newest away.
use Rattle.std.proofs.Common.{◌≡◌, ℕ, Bool, true, false, cond, nat_le, List, [], ◌∷◌, map, inl, inr, refl, ap, subst}
use Rattle.mdb_base.specs.declared.names.Tid.{Tid}
use Rattle.mdb_base.specs.Names.{same_tid}
use Rattle.mdb_base.specs.Words.{Each, Among}
use Rattle.mdb_base.proofs.ForCallers.{same_tid-equal, same_tid-refl}
use Rattle.order_laws.specs.Chains.{In, Distinct}
use Rattle.order_laws.specs.Tickets.{Ticketed}
use Rattle.fed_rules.specs.declared.records.CoordRecord.{CoordRecord}
use Rattle.fed_rules.specs.declared.records.CoordRecord.TheVariants as Rec
use Rattle.fed_rules.specs.CoordRecords.{coord_frame, has_commit, commits}
use Rattle.fed_rules.specs.Disk.{Disk, Call, Append, Sync, CutBack, TrimFront, Stops, bytes_of, whole, after_calls}
use Rattle.coord_laws.proofs.Made.{CommitsNobody, IsAccepted}
use Rattle.coord_laws.proofs.Standings.{AppendsCommit}

-- the attempts that have a Commit record
abbrev pub tids_of : List CoordRecord → List Tid
tids_of rs = map (λ node. node.tid) (commits rs)

pub committed_tid : (rs : List CoordRecord) (t : Tid) → In t (tids_of rs) → has_commit rs t ≡ true
committed_tid [] t i = absurd i
committed_tid (Rec.Commit tid tickets ∷ rs) t (inl e) = ap (λ b. cond b true (has_commit rs t)) (subst (λ u. same_tid tid u ≡ true) e (same_tid-refl tid))
committed_tid (Rec.Commit tid tickets ∷ rs) t (inr i) = by_test (same_tid tid t) (committed_tid rs t i)
  where
    by_test : (b : Bool) → has_commit rs t ≡ true → cond b true (has_commit rs t) ≡ true
    by_test true h = refl
    by_test false h = h
committed_tid (Rec.Initiation tid members ∷ rs) t i = committed_tid rs t i
committed_tid (Rec.Abort tid members ∷ rs) t i = committed_tid rs t i
committed_tid (Rec.End tid ∷ rs) t i = committed_tid rs t i
committed_tid (Rec.Checkpoint sum ∷ rs) t i = committed_tid rs t i

-- who has a Commit record has a node
pub commit_node : (rs : List CoordRecord) (t : Tid) → has_commit rs t ≡ true → (node : Ticketed) × In node (commits rs) × (node.tid ≡ t)
commit_node [] t e = cc
commit_node (Rec.Commit tid tickets ∷ rs) t e = by_test (same_tid tid t) refl e (commit_node rs t)
  where
    by_test : (b : Bool) → same_tid tid t ≡ b → cond b true (has_commit rs t) ≡ true → (has_commit rs t ≡ true → (node : Ticketed) × In node (commits rs) × (node.tid ≡ t))
        → (node : Ticketed) × In node (record { tid = tid; tickets = tickets } ∷ commits rs) × (node.tid ≡ t)
    by_test true q e h = (record { tid = tid; tickets = tickets }, inl refl, same_tid-equal tid t q)
    by_test false q e h = let r = h e in (r.0, inr r.1, r.2)
commit_node (Rec.Initiation tid members ∷ rs) t e = commit_node rs t e
commit_node (Rec.Abort tid members ∷ rs) t e = commit_node rs t e
commit_node (Rec.End tid ∷ rs) t e = commit_node rs t e
commit_node (Rec.Checkpoint sum ∷ rs) t e = commit_node rs t e

behind_one : (r : CoordRecord) (rs : List CoordRecord) → Distinct (tids_of (r ∷ rs)) → Distinct (tids_of rs)
behind_one (Rec.Commit tid tickets) rs d = d.1
behind_one (Rec.Initiation tid members) rs d = d
behind_one (Rec.Abort tid members) rs d = d
behind_one (Rec.End tid) rs d = d
behind_one (Rec.Checkpoint sum) rs d = d

distinct_whole : (b : ℕ) (rs : List CoordRecord) → Distinct (tids_of rs) → Distinct (tids_of (whole coord_frame b rs))
distinct_whole b [] d = d
distinct_whole b (r ∷ rs) d = by_test (nat_le (bytes_of coord_frame (r ∷ rs)) b) (distinct_whole b rs (behind_one r rs d))
  where
    by_test : (t : Bool) → Distinct (tids_of (whole coord_frame b rs)) → Distinct (tids_of (cond t (r ∷ rs) (whole coord_frame b rs)))
    by_test true h = d
    by_test false h = h

pub in_behind : (r : CoordRecord) (rs : List CoordRecord) (t : Tid) → In t (tids_of rs) → In t (tids_of (r ∷ rs))
in_behind (Rec.Commit tid tickets) rs t i = inr i
in_behind (Rec.Initiation tid members) rs t i = i
in_behind (Rec.Abort tid members) rs t i = i
in_behind (Rec.End tid) rs t i = i
in_behind (Rec.Checkpoint sum) rs t i = i

pub in_whole : (b : ℕ) (rs : List CoordRecord) (t : Tid) → In t (tids_of (whole coord_frame b rs)) → In t (tids_of rs)
in_whole b [] t i = i
in_whole b (r ∷ rs) t i = by_test (nat_le (bytes_of coord_frame (r ∷ rs)) b) i (in_whole b rs t)
  where
    by_test : (u : Bool) → In t (tids_of (cond u (r ∷ rs) (whole coord_frame b rs))) → (In t (tids_of (whole coord_frame b rs)) → In t (tids_of rs)) → In t (tids_of (r ∷ rs))
    by_test true i h = i
    by_test false i h = in_behind r rs t (h i)

nobody_distinct : (calls : List (Call CoordRecord)) (d : Disk CoordRecord) → Each CommitsNobody calls → Distinct (tids_of d.records) → Distinct (tids_of (after_calls coord_frame d calls).records)
nobody_distinct [] d n h = h
nobody_distinct (Append (Rec.Commit tid tickets) ∷ calls) d n h = absurd n.0
nobody_distinct (Append (Rec.Checkpoint sum) ∷ calls) d n h = nobody_distinct calls _ n.1 h
nobody_distinct (Append (Rec.Initiation tid members) ∷ calls) d n h = nobody_distinct calls _ n.1 h
nobody_distinct (Append (Rec.Abort tid members) ∷ calls) d n h = nobody_distinct calls _ n.1 h
nobody_distinct (Append (Rec.End tid) ∷ calls) d n h = nobody_distinct calls _ n.1 h
nobody_distinct (Sync ∷ calls) d n h = nobody_distinct calls _ n.1 h
nobody_distinct (CutBack ∷ calls) d n h = nobody_distinct calls _ n.1 h
nobody_distinct (TrimFront ∷ calls) d n h = nobody_distinct calls _ n.1 h
nobody_distinct (Stops cut ∷ calls) d n h = nobody_distinct calls _ n.1 (distinct_whole _ d.records h)

-- calls of which one appends a Commit of an attempt that has none
pub accepted_distinct : (calls : List (Call CoordRecord)) (d : Disk CoordRecord) (others : List Ticketed) (all : List Tid) → IsAccepted others calls → ((g : Tid) → Among (AppendsCommit g) calls → In g all → ⊥) → ((t : Tid) → In t (tids_of d.records) → In t all) → Distinct (tids_of d.records)
    → Distinct (tids_of (after_calls coord_frame d calls).records)
accepted_distinct [] d others all a new sub h = h
accepted_distinct (Append (Rec.Commit tid tickets) ∷ calls) d others all a new sub h =
    nobody_distinct calls _ a.1 ((λ i. new tid (inl refl) (sub tid i)), h)
accepted_distinct (Append (Rec.Initiation tid members) ∷ calls) d others all a new sub h = accepted_distinct calls _ others all a (λ g i. new g (inr i)) sub h
accepted_distinct (Append (Rec.Abort tid members) ∷ calls) d others all a new sub h = accepted_distinct calls _ others all a (λ g i. new g (inr i)) sub h
accepted_distinct (Append (Rec.End tid) ∷ calls) d others all a new sub h = accepted_distinct calls _ others all a (λ g i. new g (inr i)) sub h
accepted_distinct (Append (Rec.Checkpoint sum) ∷ calls) d others all a new sub h = accepted_distinct calls _ others all a (λ g i. new g (inr i)) sub h
accepted_distinct (Sync ∷ calls) d others all a new sub h = accepted_distinct calls _ others all a (λ g i. new g (inr i)) sub h
accepted_distinct (CutBack ∷ calls) d others all a new sub h = accepted_distinct calls _ others all a (λ g i. new g (inr i)) sub h
accepted_distinct (TrimFront ∷ calls) d others all a new sub h = accepted_distinct calls _ others all a (λ g i. new g (inr i)) sub h
accepted_distinct (Stops cut ∷ calls) d others all a new sub h = accepted_distinct calls _ others all a (λ g i. new g (inr i)) (λ t i. sub t (in_whole _ d.records t i)) (distinct_whole _ d.records h)

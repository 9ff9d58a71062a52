-- What the coordinator leaves on its disk in every story.
use Rattle.std.proofs.Common.{◌≡◌, ◌⊎◌, List, [], ◌∷◌, ◌++◌, refl, sym, ap, ap₂, subst, ◌∙◌, inl, inr}
use Rattle.mdb_base.specs.declared.names.SiteTicket.{SiteTicket}
use Rattle.mdb_base.specs.declared.names.Tid.{Tid}
use Rattle.mdb_base.specs.declared.names.Tx.{Tx}
use Rattle.mdb_base.specs.Words.{Among, Each}
use Rattle.mdb_base.proofs.ForCallers.{append_each, each_append, each_map, same_tid-refl}
use Rattle.order_laws.specs.Chains.{In, Distinct}
use Rattle.order_laws.proofs.ForCallers.{each_from}
use Rattle.presumptions.specs.declared.Participant.{Participant}
use Rattle.fed_rules.specs.declared.commands.Command.{Command}
use Rattle.fed_rules.specs.declared.events.CoordEvent.{CoordEvent}
use Rattle.fed_rules.specs.declared.records.CoordRecord.{CoordRecord}
use Rattle.fed_rules.specs.declared.records.CoordRecord.TheVariants.{Initiation, Commit, Abort, End, Checkpoint}
use Rattle.fed_rules.specs.declared.scenario.Scenario.{Scenario}
use Rattle.fed_rules.specs.declared.sums.CommittedAttempt.{CommittedAttempt}
use Rattle.fed_rules.specs.declared.sums.OpenAttempt.{OpenAttempt}
use Rattle.fed_rules.specs.Coord.{coord_line, coord_past}
use Rattle.fed_rules.specs.CoordPast.{CoordPast, disk, journal, participants, program, records, visits}
use Rattle.fed_rules.specs.CoordRecords.{coord_frame, has_ticket, ticketed}
use Rattle.fed_rules.specs.CoordSums.{committed_with, coord_sum, open_with}
use Rattle.fed_rules.specs.Disk.{Disk, bytes_of, standing}
use Rattle.fed_rules.specs.Policies.{Policy}
use Rattle.fed_rules.specs.Scenarios.{policy, protocols}
use Rattle.fed_rules.specs.Story as Story
use Rattle.fed_rules.specs.Story.{story_of}
use Rattle.fed_rules.specs.Usable.{CommitOnce, IsCommitOf, IsDeclaredAt, NamesSites, coord_read}
use Rattle.coord_laws.specs.Pasts.{IsMadeByEvents, IsNextLine}
use Rattle.coord_laws.proofs.ForCallers.{IsFine, IsTrimmed, Wrote, WroteAll, any_member, commits_close_none, commits_once, committed_tid, coordinators_sum, going_on, kept_from, next_turn, participants_declared, past_fine, past_sound, past_tidy, standing_all, standing_trimmed, sums_front, tids_of}
use Rattle.commit_laws.proofs.ForCallers.{story_made}
use Rattle.federation_laws.proofs.ForCallers.{global-once}
use Rattle.coord_laws.specs.Sums.{AreCoordSums}
use Rattle.disk_laws.specs.Left.{OfCoordinators, CommitsCloseNoCycle, RecordsStandInOrder, TransactionsCommitOnce, NamedSitesAreDeclared}
use Rattle.disk_laws.proofs.CoordOrder.{past_settled}
use Rattle.disk_laws.proofs.ReadRecords.{Commits, IsRead, Opens, among_those, committed_from, open_from}
use Rattle.disk_laws.proofs.CoordRead.{is_behind, is_whole, read_acyclic, read_once, read_order}

-- what stands on the disk: all records, or those from a Checkpoint on
pub data Standing (protocols : List Participant) (rs js : List CoordRecord) : Type 0 where
  All : js ≡ rs → Standing protocols rs js
  From : (newer before : List CoordRecord) → rs ≡ newer ++ Checkpoint (coord_sum protocols before) ∷ before
      → js ≡ newer ++ Checkpoint (coord_sum protocols before) ∷ [] → Standing protocols rs js

on_disk : (protocols : List Participant) (d : Disk CoordRecord) → AreCoordSums protocols d.records → IsFine d → Standing protocols d.records (standing coord_frame d.trimmed d.records)
on_disk protocols d s f = by_front f.front
  where
    by_front : (d.trimmed ≡ 0) ⊎ IsTrimmed d.records d.synced d.trimmed → Standing protocols d.records (standing coord_frame d.trimmed d.records)
    by_front (inl e) = All (ap (λ n. standing coord_frame n d.records) e ∙ standing_all d.records)
    by_front (inr t) =
        let sums = sums_front protocols t.newer (Checkpoint t.sum ∷ t.before) (subst (AreCoordSums protocols) t.all s) in
        From t.newer t.before (t.all ∙ ap (λ z. t.newer ++ Checkpoint z ∷ t.before) sums.0)
        (ap (λ n. standing coord_frame n d.records) t.at
        ∙ ap (λ rs. standing coord_frame (bytes_of coord_frame t.before) rs) t.all
        ∙ standing_trimmed t.newer t.sum t.before
        ∙ ap (λ z. t.newer ++ Checkpoint z ∷ []) sums.0)

-- such a past is that of its events
past_made : (protocols : List Participant) (policy : Policy) (past : CoordPast) → IsMadeByEvents protocols policy past
    → (events : List CoordEvent) × (past ≡ coord_past protocols policy events)
past_made protocols policy [] made = ([], refl)
past_made protocols policy (x ∷ past) (event, is, numbered, made) =
    let (events, e) = past_made protocols policy past made in
    (event ∷ events, ap₂ (λ y older. y ∷ older) (is ∙ ap (λ older. coord_line protocols policy older event) e) e)

pub sums_hold : (protocols : List Participant) (policy : Policy) (past : CoordPast) → IsMadeByEvents protocols policy past → AreCoordSums protocols (records past)
sums_hold protocols policy past made =
    let (events, e) = past_made protocols policy past made in
    subst (λ p. AreCoordSums protocols (records p)) (sym e) (coordinators_sum protocols policy events)

pub stands : (protocols : List Participant) (policy : Policy) (past : CoordPast) → IsMadeByEvents protocols policy past → Standing protocols (records past) (journal past)
stands protocols policy past made =
    let (events, e) = past_made protocols policy past made in
    subst (λ p. Standing protocols (records p) (journal p)) (sym e)
    (on_disk protocols (disk (coord_past protocols policy events)) (coordinators_sum protocols policy events) (past_fine protocols policy events))

is_read : (protocols : List Participant) (rs js : List CoordRecord) → AreCoordSums protocols rs → Standing protocols rs js → IsRead protocols rs (coord_read js)
is_read protocols rs js s (All e) = is_whole protocols rs js s e
is_read protocols rs js s (From newer before e f) = is_behind protocols rs js newer before (coord_sum protocols before) refl e f

pub read_here : (protocols : List Participant) (policy : Policy) (past : CoordPast) → IsMadeByEvents protocols policy past
    → IsRead protocols (records past) (coord_read (journal past))
read_here protocols policy past made = is_read protocols (records past) (journal past) (sums_hold protocols policy past made) (stands protocols policy past made)

pub leave_no_cycle : OfCoordinators CommitsCloseNoCycle
leave_no_cycle scenario commands =
    let past = Story.coord_past (story_of scenario commands) in
    let made = story_made scenario commands in
    read_acyclic (protocols scenario) (records past) (coord_read (journal past)) (read_here (protocols scenario) (policy scenario) past made)
    (commits_close_none (protocols scenario) (policy scenario) past (going_on (protocols scenario) (policy scenario) past made))

-- ---- each transaction commits once

commit_at : (tx : Tx) (rs : List CoordRecord) → Among (IsCommitOf tx) rs → (t : Tid) × In t (tids_of rs) × (t.tx ≡ tx)
commit_at tx [] m = absurd m
commit_at tx (Commit t ks ∷ rs) (inl e) = (t, inl refl, e)
commit_at tx (Commit t ks ∷ rs) (inr m) = let r = commit_at tx rs m in (r.0, inr r.1, r.2)
commit_at tx (Initiation t ms ∷ rs) (inl never) = absurd never
commit_at tx (Initiation t ms ∷ rs) (inr m) = commit_at tx rs m
commit_at tx (Abort t ms ∷ rs) (inl never) = absurd never
commit_at tx (Abort t ms ∷ rs) (inr m) = commit_at tx rs m
commit_at tx (End t ∷ rs) (inl never) = absurd never
commit_at tx (End t ∷ rs) (inr m) = commit_at tx rs m
commit_at tx (Checkpoint sum ∷ rs) (inl never) = absurd never
commit_at tx (Checkpoint sum ∷ rs) (inr m) = commit_at tx rs m

once_of : (rs : List CoordRecord) → ((a b : Tid) → a.tx ≡ b.tx → In a (tids_of rs) → In b (tids_of rs) → a ≡ b) → Distinct (tids_of rs) → CommitOnce rs
once_of [] one d = tt
once_of (Commit t ks ∷ rs) one d = (
  (λ m. let r = commit_at t.tx rs m in d.0 (subst (λ (u : Tid). In u (tids_of rs)) (one r.0 t r.2 (inr r.1) (inl refl)) r.1)),
  once_of rs (λ a b s i j. one a b s (inr i) (inr j)) d.1,
)
once_of (Initiation t ms ∷ rs) one d = once_of rs one d
once_of (Abort t ms ∷ rs) one d = once_of rs one d
once_of (End t ∷ rs) one d = once_of rs one d
once_of (Checkpoint sum ∷ rs) one d = once_of rs one d

pub commit_once : (scenario : Scenario) (commands : List Command) → CommitOnce (records (Story.coord_past (story_of scenario commands)))
commit_once scenario commands =
    let past = Story.coord_past (story_of scenario commands) in
    let g = global-once scenario commands in
    once_of (records past)
    (λ a b s i j. g.once a b s (inr (committed_tid (records past) a i)) (inr (committed_tid (records past) b j)))
    (commits_once (protocols scenario) (policy scenario) past (going_on (protocols scenario) (policy scenario) past (story_made scenario commands)))

pub leave_one_commit : OfCoordinators TransactionsCommitOnce
leave_one_commit scenario commands =
    let past = Story.coord_past (story_of scenario commands) in
    read_once (protocols scenario) (records past) (coord_read (journal past)) (read_here (protocols scenario) (policy scenario) past (story_made scenario commands))
    (commit_once scenario commands)

pub leave_order : OfCoordinators RecordsStandInOrder
leave_order scenario commands =
    let past = Story.coord_past (story_of scenario commands) in
    let made = story_made scenario commands in
    read_order (protocols scenario) (records past) (coord_read (journal past)) (read_here (protocols scenario) (policy scenario) past made) (commit_once scenario commands)
    (λ g. past_tidy (protocols scenario) (policy scenario) g past (going_on (protocols scenario) (policy scenario) past made))
    (λ g. (past_settled (protocols scenario) (policy scenario) g past made).order)

-- ---- the sites that are named

-- what a record other than a Checkpoint names is declared
abbrev pub IsNaming : List Participant → CoordRecord → Type 0
IsNaming protocols (Initiation t ms) = Each (λ member. In member protocols) ms
IsNaming protocols (Commit t ks) = Each (IsDeclaredAt protocols) ks
IsNaming protocols (Abort t ms) = Each (λ member. In member protocols) ms
IsNaming protocols (End t) = Unit {0}
IsNaming protocols (Checkpoint sum) = Unit {0}

-- the attempt of a record
abbrev pub tid_of : CoordRecord → Tid
tid_of (Initiation t ms) = t
tid_of (Commit t ks) = t
tid_of (Abort t ms) = t
tid_of (End t) = t
tid_of (Checkpoint sum) = record { tx = record { 0 = 0 }; attempt = 0 }

wrote_in : (protocols : List Participant) (g : Tid) (past : CoordPast) (event : CoordEvent) (kept : List CoordRecord) (r : CoordRecord)
    → WroteAll protocols g past event kept → In r kept → (before : List CoordRecord) × Wrote protocols g past event before r
wrote_in protocols g past event [] r w m = absurd m
wrote_in protocols g past event (q ∷ kept) r w (inl e) = (kept, subst (Wrote protocols g past event kept) e w.0)
wrote_in protocols g past event (q ∷ kept) r w (inr m) = wrote_in protocols g past event kept r w.1 m

wrote_named : (protocols : List Participant) (past : CoordPast) (event : CoordEvent) (before : List CoordRecord) (r : CoordRecord)
    → Each (λ member. In member protocols) (participants protocols past (tid_of r)) → Wrote protocols (tid_of r) past event before r → IsNaming protocols r
wrote_named protocols past event before (Initiation t ms) all w =
    subst (Each (λ member. In member protocols)) (sym (w (same_tid-refl t)).1) all
wrote_named protocols past event before (Commit t ks) all w =
    each_map (IsDeclaredAt (participants protocols past t)) (IsDeclaredAt protocols)
    (λ k i. among_those (λ (m : Participant). m.site ≡ k.site) (λ m. visits m.site (program past t)) protocols i) ks (w (same_tid-refl t)).3
wrote_named protocols past event before (Abort t ms) all w =
    subst (Each (λ member. In member protocols)) (sym (w (same_tid-refl t)).1) all
wrote_named protocols past event before (End t) all w = tt
wrote_named protocols past event before (Checkpoint sum) all w = tt

-- what each record keeps at its writing, it keeps
pub past_each : (protocols : List Participant) (policy : Policy) (P : CoordRecord → Type 0)
    → ((past : CoordPast) (event : CoordEvent) (before : List CoordRecord) (r : CoordRecord) → IsMadeByEvents protocols policy past → Wrote protocols (tid_of r) past event before r → P r)
    → (past : CoordPast) → IsMadeByEvents protocols policy past → (r : CoordRecord) → In r (records past) → P r
past_each protocols policy P each [] made r m = absurd m
past_each protocols policy P each (x ∷ past) made r m =
    let next : IsNextLine protocols policy past x = record { event = made.0; is = made.1; numbered = made.2 } in
    let goes = going_on protocols policy past made.3 in
    let t = next_turn protocols policy any_member (tid_of r) past x next (past_sound protocols policy any_member (tid_of r) past goes) in
    elim (kept_from protocols (tid_of r) past made.0 (records (x ∷ past)) (λ q. q ≡ r) t.line.kept m) [
      | inl i ↦ past_each protocols policy P each past made.3 r i
      | inr (kept, w, e, i) ↦ (let (before, why) = wrote_in protocols (tid_of r) past made.0 kept r w i in each past made.0 before r made.3 why)
    ]

past_named : (protocols : List Participant) (policy : Policy) (past : CoordPast) → IsMadeByEvents protocols policy past → (r : CoordRecord) → In r (records past)
    → IsNaming protocols r
past_named protocols policy =
    past_each protocols policy (IsNaming protocols)
    (λ past event before r made why. wrote_named protocols past event before r
    (participants_declared protocols policy past (going_on protocols policy past made) (tid_of r)) why)

-- and a Checkpoint names sites that those records name
pub opened_names : (protocols : List Participant) (rs : List CoordRecord) → Each (IsNaming protocols) rs → (o : OpenAttempt) → In o (open_with protocols [] rs)
    → Each (λ member. In member protocols) o.participants
opened_names protocols rs all o i = by_record rs all (open_from protocols (λ p. p ≡ o) rs i)
  where
    some : (ks : List SiteTicket) → Each (λ member. In member protocols) (ticketed protocols ks)
    some ks = each_from (λ member. In member protocols) (ticketed protocols ks)
        (λ member j. among_those (λ m. m ≡ member) (λ participant. has_ticket ks participant.site) protocols j)

    by_record : (rs : List CoordRecord) → Each (IsNaming protocols) rs → Among (Opens protocols (λ p. p ≡ o)) rs → Each (λ member. In member protocols) o.participants
    by_record [] a m = absurd m
    by_record (Initiation t ms ∷ rs) a (inl e) = subst (λ (p : OpenAttempt). Each (λ member. In member protocols) p.participants) e a.0
    by_record (Commit t ks ∷ rs) a (inl e) = subst (λ (p : OpenAttempt). Each (λ member. In member protocols) p.participants) e (some ks)
    by_record (Abort t ms ∷ rs) a (inl e) = subst (λ (p : OpenAttempt). Each (λ member. In member protocols) p.participants) e a.0
    by_record (End t ∷ rs) a (inl e) = absurd e
    by_record (Checkpoint sum ∷ rs) a (inl e) = absurd e
    by_record (r ∷ rs) a (inr m) = by_record rs a.1 m

pub committed_names : (protocols : List Participant) (rs : List CoordRecord) → Each (IsNaming protocols) rs → (c : CommittedAttempt) → In c (committed_with [] rs)
    → Each (IsDeclaredAt protocols) c.tickets
committed_names protocols rs all c i = by_record rs all (committed_from (λ d. d ≡ c) rs i)
  where
    by_record : (rs : List CoordRecord) → Each (IsNaming protocols) rs → Among (Commits (λ d. d ≡ c)) rs → Each (IsDeclaredAt protocols) c.tickets
    by_record [] a m = absurd m
    by_record (Commit t ks ∷ rs) a (inl e) = subst (λ (d : CommittedAttempt). Each (IsDeclaredAt protocols) d.tickets) e a.0
    by_record (Initiation t ms ∷ rs) a (inl e) = absurd e
    by_record (Abort t ms ∷ rs) a (inl e) = absurd e
    by_record (End t ∷ rs) a (inl e) = absurd e
    by_record (Checkpoint sum ∷ rs) a (inl e) = absurd e
    by_record (r ∷ rs) a (inr m) = by_record rs a.1 m

names_all : (protocols : List Participant) (rs : List CoordRecord) → AreCoordSums protocols rs → Each (IsNaming protocols) rs → Each (NamesSites protocols) rs
names_all protocols [] s a = tt
names_all protocols (Initiation t ms ∷ rs) s a = (a.0, names_all protocols rs s a.1)
names_all protocols (Commit t ks ∷ rs) s a = (a.0, names_all protocols rs s a.1)
names_all protocols (Abort t ms ∷ rs) s a = (a.0, names_all protocols rs s a.1)
names_all protocols (End t ∷ rs) s a = (tt, names_all protocols rs s a.1)
names_all protocols (Checkpoint sum ∷ rs) s a = (
  subst (λ z. NamesSites protocols (Checkpoint z)) (sym s.0) (
    each_from (λ (attempt : OpenAttempt). Each (λ member. In member protocols) attempt.participants) (open_with protocols [] rs) (opened_names protocols rs a.1),
    each_from (λ (attempt : CommittedAttempt). Each (IsDeclaredAt protocols) attempt.tickets) (committed_with [] rs) (committed_names protocols rs a.1),
  ),
  names_all protocols rs s.1 a.1,
)

pub each_standing : (protocols : List Participant) (P : CoordRecord → Type 0) (rs js : List CoordRecord) → Standing protocols rs js → Each P rs → Each P js
each_standing protocols P rs js (All e) a = subst (Each P) (sym e) a
each_standing protocols P rs js (From newer before e f) a =
    let (front, rest) = each_append P newer (Checkpoint (coord_sum protocols before) ∷ before) (subst (Each P) e a) in
    subst (Each P) (sym f) (append_each P newer (Checkpoint (coord_sum protocols before) ∷ []) front (rest.0, tt))

pub leave_declared : OfCoordinators NamedSitesAreDeclared
leave_declared scenario commands =
    let past = Story.coord_past (story_of scenario commands) in
    let made = story_made scenario commands in
    each_standing (protocols scenario) (NamesSites (protocols scenario)) (records past) (journal past) (stands (protocols scenario) (policy scenario) past made)
    (names_all (protocols scenario) (records past) (sums_hold (protocols scenario) (policy scenario) past made)
    (each_from (IsNaming (protocols scenario)) (records past) (past_named (protocols scenario) (policy scenario) past made)))

-- Of each transaction one attempt at most is undecided or committed: behind nothing, behind a journal that was found, and after each line.
use Rattle.std.proofs.Common.{◌≡◌, ◌⊎◌, Bool, true, false, cond, ◌&&◌, List, [], ◌∷◌, inl, inr, refl, sym, ap, subst, ◌∙◌}
use Rattle.mdb_base.specs.declared.names.Tid.{Tid}
use Rattle.mdb_base.specs.declared.names.Tx.{Tx}
use Rattle.mdb_base.specs.Names.{same_tid, same_tx}
use Rattle.mdb_base.specs.Words.{Among}
use Rattle.mdb_base.proofs.ForCallers.{same_tid-equal, same_tx-from}
use Rattle.presumptions.specs.declared.Participant.{Participant}
use Rattle.order_laws.specs.Chains.{In}
use Rattle.order_laws.proofs.ForCallers.{first_where_none}
use Rattle.fed_rules.specs.declared.answers.Answer.TheVariants as Say
use Rattle.fed_rules.specs.declared.events.CoordEvent.{CoordEvent}
use Rattle.fed_rules.specs.declared.records.CoordRecord.{CoordRecord}
use Rattle.fed_rules.specs.declared.records.CoordRecord.TheVariants as Rec
use Rattle.fed_rules.specs.CoordPast.{CoordHappening, CoordPast, begins, begun_tids, is_open, is_known, known_decision, records, standing_of}
use Rattle.fed_rules.specs.CoordRecords.{has_commit}
use Rattle.fed_rules.specs.Disk.{Disk}
use Rattle.fed_rules.specs.Found.{Journal}
use Rattle.fed_rules.specs.Policies.{Policy}
use Rattle.fed_rules.specs.Reopened.{coord_read, opened_coordinator}
use Rattle.fed_rules.specs.Usable.{CommitOnce, IsCommitOf}
use Rattle.fed_rules.specs.Usable as Usable
use Rattle.fed_rules.specs.Active.{IsActive}
use Rattle.fed_rules.proofs.ForCallers.{none_committed}
use Rattle.coord_laws.specs.Pasts.{IsGoingOn, IsNextLine, NameDeclared}
use Rattle.coord_laws.proofs.ForCallers.{IsFirst, IsMade, active_from, begins_same, begun_answer, known_begun, opened_disk, past_made, read_is}
use Rattle.coord_tables.specs.Terms.{OneActive}

-- where an attempt begins, no other one of its transaction is active
first_alone : (protocols : List Participant) (policy : Policy) (past : CoordPast) (tid g : Tid) → IsGoingOn protocols policy past → IsFirst past (Say.Begun tid) → g.tx ≡ tid.tx → IsActive past g → ⊥
first_alone protocols policy past tid g made f s (inr c) = none_committed (records past) tid.tx g f.0 s c
first_alone protocols policy past tid g made f s (inl u) =
    let listed : In g (begun_tids past) = known_begun protocols policy past made g (by_open (is_open past g) u) in
    let fails : (same_tx g.tx tid.tx && is_open past g) ≡ false = first_where_none (λ (t : Tid). same_tx t.tx tid.tx && is_open past t) (begun_tids past) g f.1 listed in
    let passes : (same_tx g.tx tid.tx && is_open past g) ≡ true = ap (λ b. b && is_open past g) (same_tx-from g.tx tid.tx s) ∙ u in
    let clash = sym passes ∙ fails in
    cc
  where
    by_open : (b : Bool) → b ≡ true → is_known (standing_of b (known_decision protocols past g)) ≡ true
    by_open true e = refl
    by_open false e = cc

begins_first : (protocols : List Participant) (policy : Policy) (past : CoordPast) (event : CoordEvent) (x : CoordHappening) → IsMade protocols past event x → IsGoingOn protocols policy past
    → (a g : Tid) → begins a x.answer ≡ true → g.tx ≡ a.tx → IsActive past g → ⊥
begins_first protocols policy past event x made old a g b s active =
    first_alone protocols policy past a g old (subst (IsFirst past) (begun_answer a x.answer b) made.first) s active

-- a line leaves it so
pub alone_more : (protocols : List Participant) (policy : Policy) (past : CoordPast) (x : CoordHappening) → IsGoingOn protocols policy past → IsNextLine protocols policy past x → OneActive past → OneActive (x ∷ past)
alone_more protocols policy past x made next alone a b s p q = either (active_from protocols past next.event x line a p) (active_from protocols past next.event x line b q)
  where
    line : IsMade protocols past next.event x
    line = past_made protocols policy past x next

    either : IsActive past a ⊎ (begins a x.answer ≡ true) → IsActive past b ⊎ (begins b x.answer ≡ true) → a ≡ b
    either (inl p) (inl q) = alone a b s p q
    either (inl p) (inr q) = absurd (begins_first protocols policy past next.event x line made b a q s p)
    either (inr p) (inl q) = absurd (begins_first protocols policy past next.event x line made a b p (sym s) q)
    either (inr p) (inr q) = begins_same a b x p q

-- behind nothing
pub nothing_alone : OneActive []
nothing_alone a b s p q = elim p [ inl u ↦ cc | inr c ↦ cc ]

-- ---- behind a journal that was found

commit_among : (rs : List CoordRecord) (g : Tid) → has_commit rs g ≡ true → Among (IsCommitOf g.tx) rs
commit_among [] g e = cc
commit_among (Rec.Initiation t ms ∷ rs) g e = inr (commit_among rs g e)
commit_among (Rec.Abort t ms ∷ rs) g e = inr (commit_among rs g e)
commit_among (Rec.End t ∷ rs) g e = inr (commit_among rs g e)
commit_among (Rec.Checkpoint sum ∷ rs) g e = inr (commit_among rs g e)
commit_among (Rec.Commit t ks ∷ rs) g e = by_test (same_tid t g) refl e (commit_among rs g)
  where
    by_test : (b : Bool) → same_tid t g ≡ b → cond b true (has_commit rs g) ≡ true → (has_commit rs g ≡ true → Among (IsCommitOf g.tx) rs) → (t.tx ≡ g.tx) ⊎ Among (IsCommitOf g.tx) rs
    by_test true own e rest = inl (ap (λ (u : Tid). u.tx) (same_tid-equal t g own))
    by_test false own e rest = inr (rest e)

-- where each transaction has at most one Commit, its attempts that have one are one
once_same : (rs : List CoordRecord) (a b : Tid) → CommitOnce rs → a.tx ≡ b.tx → has_commit rs a ≡ true → has_commit rs b ≡ true → a ≡ b
once_same [] a b once s p q = cc
once_same (Rec.Initiation t ms ∷ rs) a b once s p q = once_same rs a b once s p q
once_same (Rec.Abort t ms ∷ rs) a b once s p q = once_same rs a b once s p q
once_same (Rec.End t ∷ rs) a b once s p q = once_same rs a b once s p q
once_same (Rec.Checkpoint sum ∷ rs) a b once s p q = once_same rs a b once s p q
once_same (Rec.Commit t ks ∷ rs) a b once s p q = by_tests (same_tid t a) refl (same_tid t b) refl p q (once_same rs a b once.1 s)
  where
    not_behind : (g : Tid) → t.tx ≡ g.tx → has_commit rs g ≡ true → ⊥
    not_behind g same e = once.0 (subst (λ (tx : Tx). Among (IsCommitOf tx) rs) (sym same) (commit_among rs g e))

    own : (g : Tid) → same_tid t g ≡ true → t.tx ≡ g.tx
    own g e = ap (λ (u : Tid). u.tx) (same_tid-equal t g e)

    by_tests : (m : Bool) → same_tid t a ≡ m → (n : Bool) → same_tid t b ≡ n → cond m true (has_commit rs a) ≡ true → cond n true (has_commit rs b) ≡ true
        → (has_commit rs a ≡ true → has_commit rs b ≡ true → a ≡ b) → a ≡ b
    by_tests true i true j p q rest = sym (same_tid-equal t a i) ∙ same_tid-equal t b j
    by_tests true i false j p q rest = absurd (not_behind b (own a i ∙ s) q)
    by_tests false i true j p q rest = absurd (not_behind a (own b j ∙ sym s) p)
    by_tests false i false j p q rest = rest p q

-- so it is behind a journal of which each transaction has at most one Commit: nobody is undecided
pub opened_alone : (protocols : List Participant) (journal : Journal CoordRecord) → NameDeclared protocols (coord_read journal) → CommitOnce (Usable.coord_read journal.records) → OneActive (opened_coordinator protocols journal)
opened_alone protocols journal declared once a b s p q = both p q
  where
    read : records (opened_coordinator protocols journal) ≡ Usable.coord_read journal.records
    read = ap (λ (d : Disk CoordRecord). d.records) (opened_disk protocols journal declared) ∙ read_is journal.records journal.torn

    both : IsActive (opened_coordinator protocols journal) a → IsActive (opened_coordinator protocols journal) b → a ≡ b
    both (inl u) q = let clash : false ≡ true = u in cc
    both (inr c) (inl u) = let clash : false ≡ true = u in cc
    both (inr c) (inr d) = once_same (Usable.coord_read journal.records) a b once s (subst (λ rs. has_commit rs a ≡ true) read c) (subst (λ rs. has_commit rs b ≡ true) read d)

-- The outcomes that are given are those of the coordinator's records, and the refused attempts are the begun ones without a commit.
use Rattle.std.proofs.Common.{◌≡◌, Bool, true, false, not, cond, ◌&&◌, ◌||◌, is_some, Option, Some, None, List, [], ◌∷◌, refl, sym, ◌∙◌, ap, subst}
use Rattle.std.specs.BTreeMap.{is_at}
use Rattle.mdb_base.specs.declared.names.Tid.{Tid}
use Rattle.mdb_base.specs.declared.names.Tx.{Tx}
use Rattle.mdb_base.specs.Names.{same_tid, same_tx, tid_cmp}
use Rattle.mdb_base.specs.Words.{holds_of, some_of}
use Rattle.mdb_base.proofs.ForCallers.{same_tid-equal, same_tid-refl, same_tid-sym, same_tx-refl, tid_ties}
use Rattle.presumptions.specs.declared.Decision.TheVariants as Decided
use Rattle.fed_rules.specs.declared.records.CoordRecord.{CoordRecord}
use Rattle.fed_rules.specs.declared.records.CoordRecord.TheVariants as Rec
use Rattle.fed_rules.specs.CoordRecords.{committed_of, has_commit, outcome}
use Rattle.fed_rules.proofs.ForCallers.{some_committed}
use Rattle.session_report.specs.Outcomes.{decision_by, is_abort, is_refused, outcomes_by}
use Rattle.session_report.specs.Told.{Reads}
use Rattle.session_report.proofs.Lookups.{look, tids_of}

-- where none is found, no attempt of the transaction has one
none_commit : (rs : List CoordRecord) (g : Tid) → committed_of rs g.tx ≡ None → has_commit rs g ≡ false
none_commit [] g e = refl
none_commit (Rec.Commit tid tickets ∷ rs) g e = by_tests (same_tx tid.tx g.tx) (same_tid tid g) refl refl e (none_commit rs g)
  where
    by_tests : (a b : Bool) → same_tx tid.tx g.tx ≡ a → same_tid tid g ≡ b → cond a (Some tid) (committed_of rs g.tx) ≡ None → (committed_of rs g.tx ≡ None → has_commit rs g ≡ false) → cond b true (has_commit rs g) ≡ false
    by_tests true b p q e h = cc
    by_tests false true p q e h =
        let same : tid ≡ g = same_tid-equal tid g q in
        let tie : same_tx tid.tx g.tx ≡ true = subst (λ (z : Tid). same_tx tid.tx z.tx ≡ true) same (same_tx-refl tid.tx) in
        let clash = sym p ∙ tie in
        cc
    by_tests false false p q e h = h e
none_commit (Rec.Initiation tid ps ∷ rs) g e = none_commit rs g e
none_commit (Rec.Abort tid ps ∷ rs) g e = none_commit rs g e
none_commit (Rec.End tid ∷ rs) g e = none_commit rs g e
none_commit (Rec.Checkpoint sum ∷ rs) g e = none_commit rs g e

-- where no two attempts of a transaction have a Commit, the decision is the outcome
pub decision_is : (rs : List CoordRecord) → ((a b : Tid) → a.tx ≡ b.tx → has_commit rs a ≡ true → has_commit rs b ≡ true → a ≡ b) → (g : Tid) → decision_by (committed_of rs) g ≡ outcome rs g
decision_is rs once g = by_found (committed_of rs g.tx) refl
  where
    by_same : (f : Tid) → (has_commit rs f ≡ true) × (f.tx ≡ g.tx) → (a b : Bool) → same_tid f g ≡ a → has_commit rs g ≡ b → cond a Decided.Commit Decided.Abort ≡ cond b Decided.Commit Decided.Abort
    by_same f c true true p q = refl
    by_same f c true false p q = (let yes = subst (λ z. has_commit rs z ≡ true) (same_tid-equal f g p) c.0 in let clash = sym q ∙ yes in cc)
    by_same f c false true p q =
        let same : f ≡ g = once f g c.1 c.0 q in
        let yes = subst (λ z. same_tid f z ≡ true) same (same_tid-refl f) in
        let clash = sym p ∙ yes in
        cc
    by_same f c false false p q = refl

    by_found : (o : Option Tid) → committed_of rs g.tx ≡ o → decision_by (committed_of rs) g ≡ outcome rs g
    by_found None e =
        ap (λ o. cond (holds_of (λ found. same_tid found g) o) Decided.Commit Decided.Abort) e ∙ sym (ap (λ b. cond b Decided.Commit Decided.Abort) (none_commit rs g e))
    by_found (Some f) e =
        ap (λ o. cond (holds_of (λ found. same_tid found g) o) Decided.Commit Decided.Abort) e ∙ by_same f (some_committed rs g.tx f e) (same_tid f g) (has_commit rs g) refl refl

-- the refused ones
refused_in : (by : Tx → Option Tid) (tids : List Tid) (g : Tid) → is_refused (outcomes_by by tids) g ≡ (some_of (λ t. same_tid t g) tids && is_abort (decision_by by g))
refused_in by [] g = refl
refused_in by (t ∷ tids) g = by_test (same_tid t g) refl (refused_in by tids g)
  where
    absorbed : (a b : Bool) → (a || (b && a)) ≡ a
    absorbed true b = refl
    absorbed false true = refl
    absorbed false false = refl

    by_test : (b : Bool) → same_tid t g ≡ b → is_refused (outcomes_by by tids) g ≡ (some_of (λ t. same_tid t g) tids && is_abort (decision_by by g))
        → ((b && is_abort (decision_by by t)) || is_refused (outcomes_by by tids) g) ≡ ((b || some_of (λ t. same_tid t g) tids) && is_abort (decision_by by g))
    by_test true q h =
        ap (λ r. is_abort (decision_by by t) || r) h
        ∙ (ap (λ (z : Tid). is_abort (decision_by by z) || (some_of (λ t. same_tid t g) tids && is_abort (decision_by by g))) (same_tid-equal t g q)
        ∙ absorbed (is_abort (decision_by by g)) (some_of (λ t. same_tid t g) tids))
    by_test false q h = h

in_looked : (reads : Reads) (g : Tid) → some_of (λ t. same_tid t g) (tids_of reads) ≡ is_some (look reads g)
in_looked [] g = refl
in_looked (e ∷ es) g = ap (λ b. b || some_of (λ t. same_tid t g) (tids_of es)) (same_tid-sym e.0 g ∙ sym (tid_ties g e.0)) ∙ (ap (λ b. is_at (tid_cmp g) e.0 || b) (in_looked es g) ∙ by_test (is_at (tid_cmp g) e.0))
  where
    by_test : (b : Bool) → (b || is_some (look es g)) ≡ is_some (cond b (Some e.1) (look es g))
    by_test true = refl
    by_test false = refl

pub refused_is : (by : Tx → Option Tid) (reads : Reads) (g : Tid) → is_refused (outcomes_by by (tids_of reads)) g ≡ (is_some (look reads g) && is_abort (decision_by by g))
refused_is by reads g = refused_in by (tids_of reads) g ∙ ap (λ b. b && is_abort (decision_by by g)) (in_looked reads g)

-- the outcome is an abort where it isn't a commit
pub abort_is : (rs : List CoordRecord) (g : Tid) → is_abort (outcome rs g) ≡ not (has_commit rs g)
abort_is rs g = by_test (has_commit rs g)
  where
    by_test : (b : Bool) → is_abort (cond b Decided.Commit Decided.Abort) ≡ not b
    by_test true = refl
    by_test false = refl

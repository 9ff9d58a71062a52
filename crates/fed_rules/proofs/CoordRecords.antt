-- What the records of the coordinator say.
use Rattle.std.proofs.Common.{◌≡◌, Bool, true, false, cond, Some, None, List, [], ◌∷◌, refl, sym, ap, ◌∙◌, subst}
use Rattle.mdb_base.specs.declared.names.Tid.{Tid}
use Rattle.mdb_base.specs.declared.names.Tx.{Tx}
use Rattle.mdb_base.specs.Names.{same_tid, same_tx}
use Rattle.mdb_base.proofs.ForCallers.{same_tid-equal, same_tid-refl, same_tx-equal, same_tx-from, some_parts}
use Rattle.fed_rules.specs.declared.records.CoordRecord.{CoordRecord}
use Rattle.fed_rules.specs.CoordRecords.{has_commit, committed_of}
use Rattle.fed_rules.specs.declared.records.CoordRecord.TheVariants as Rec

-- where no attempt of a transaction committed, none of its attempts has a Commit
pub none_committed : (rs : List CoordRecord) (tx : Tx) (g : Tid) → committed_of rs tx ≡ None → g.tx ≡ tx → has_commit rs g ≡ true → ⊥
none_committed [] tx g e s h = cc
none_committed (Rec.Commit tid tickets ∷ rs) tx g e s h = by_tests (same_tx tid.tx tx) (same_tid tid g) refl refl e h (none_committed rs tx g)
  where
    by_tests : (t u : Bool) → same_tx tid.tx tx ≡ t → same_tid tid g ≡ u → cond t (Some tid) (committed_of rs tx) ≡ None → cond u true (has_commit rs g) ≡ true → (committed_of rs tx ≡ None → g.tx ≡ tx → has_commit rs g ≡ true → ⊥) → ⊥
    by_tests true u p q e h k = cc
    by_tests false true p q e h k = (let own = same_tid-equal tid g q in let yes = same_tx-from tid.tx tx (ap (λ (t : Tid). t.tx) own ∙ s) in let clash = sym yes ∙ p in cc)
    by_tests false false p q e h k = k e s h
none_committed (Rec.Initiation tid members ∷ rs) tx g e s h = none_committed rs tx g e s h
none_committed (Rec.Abort tid members ∷ rs) tx g e s h = none_committed rs tx g e s h
none_committed (Rec.End tid ∷ rs) tx g e s h = none_committed rs tx g e s h
none_committed (Rec.Checkpoint sum ∷ rs) tx g e s h = none_committed rs tx g e s h

pub one_of : (b c : Bool) → c ≡ true → cond b true c ≡ true
one_of true c e = refl
one_of false c e = e

-- the attempt that is found has a Commit
pub some_committed : (rs : List CoordRecord) (tx : Tx) (f : Tid) → committed_of rs tx ≡ Some f → (has_commit rs f ≡ true) × (f.tx ≡ tx)
some_committed [] tx f e = cc
some_committed (Rec.Commit tid tickets ∷ rs) tx f e = by_test (same_tx tid.tx tx) refl e (some_committed rs tx f)
  where
    by_test : (b : Bool) → same_tx tid.tx tx ≡ b → cond b (Some tid) (committed_of rs tx) ≡ Some f → (committed_of rs tx ≡ Some f → (has_commit rs f ≡ true) × (f.tx ≡ tx))
        → (has_commit (Rec.Commit tid tickets ∷ rs) f ≡ true) × (f.tx ≡ tx)
    by_test true q e h =
        let same : tid ≡ f = some_parts e in
        (ap (λ b. cond b true (has_commit rs f)) (subst (λ z. same_tid tid z ≡ true) same (same_tid-refl tid)), ap (λ (t : Tid). t.tx) (sym same) ∙ same_tx-equal tid.tx tx q)
    by_test false q e h = (let r = h e in (one_of (same_tid tid f) (has_commit rs f) r.0, r.1))
some_committed (Rec.Initiation tid ps ∷ rs) tx f e = some_committed rs tx f e
some_committed (Rec.Abort tid ps ∷ rs) tx f e = some_committed rs tx f e
some_committed (Rec.End tid ∷ rs) tx f e = some_committed rs tx f e
some_committed (Rec.Checkpoint sum ∷ rs) tx f e = some_committed rs tx f e

-- The live run of a transaction, what is restored, and what an abort leaves.
use Rattle.std.proofs.Common.{◌≡◌, Option, Some, List, ◌∷◌, refl, ap, ◌∙◌, Bool, not, ◌&&◌, true, None, [], sym}
use Rattle.std.proofs.lemmas.Bool.{cond-false}
use Rattle.mdb_base.specs.declared.names.Tid.{Tid}
use Rattle.mdb_base.specs.Names.{same_tid, same_tx}
use Rattle.mdb_base.specs.declared.names.Tx.{Tx}
use Rattle.mdb_base.specs.Words.{Each}
use Rattle.mdb_base.proofs.ForCallers.{same_tid-equal, same_tid-sym}
use Rattle.fed_rules.specs.Runs.{Run, changed, is_sealed, restored_at, Aborts}
use Rattle.fed_rules.specs.EngineLines.{AreApart}
use Rattle.fed_rules.specs.declared.runs.Kept.{Kept}

-- whether a run is the live one of the transaction
abbrev pub is_live_of : Tx → Run → Bool
is_live_of tx run = same_tx run.tid.tx tx && not (is_sealed run)

pub restored_one : (kept : Kept) (more : List Kept) (u : Tid) → Each (AreApart kept) more → same_tid kept.tid u ≡ true → restored_at more u ≡ None
restored_one kept [] u apart e = refl
restored_one kept (other ∷ more) u apart e =
    cond-false _ _ _ (ap (λ (t : Tid). same_tid other.tid t) (sym (same_tid-equal kept.tid u e)) ∙ (same_tid-sym other.tid kept.tid ∙ apart.0.tids)) ∙ restored_one kept more u apart.1 e

pub abort_ends : (tid : Tid) (o : Option Run) → changed (Aborts tid) o ≡ None
abort_ends tid None = refl
abort_ends tid (Some run) = refl

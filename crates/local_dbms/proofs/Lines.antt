-- The programs of a site's own transactions by their lines.
use Rattle.std.proofs.Common.{◌≡◌, ◌≤◌, Bool, true, false, cond, IsSome, Option, Some, List, [], ◌∷◌, refl, ◌∙◌, subst}
use Rattle.mdb_base.specs.declared.acts.Step.{Step}
use Rattle.mdb_base.specs.declared.names.SiteId.{SiteId}
use Rattle.mdb_base.specs.declared.names.Tx.{Tx}
use Rattle.mdb_base.specs.Names.{same_tx}
use Rattle.mdb_base.specs.Words.{Each, first_where}
use Rattle.mdb_base.proofs.ForCallers.{same_tx-equal}
use Rattle.fed_rules.specs.declared.scenario.TxLine.{TxLine}
use Rattle.local_dbms.specs.Stands.{AreOwn, IsNamed, noted, own_programs, program_at, program_in}

-- so the list goes on with a line
pub noted_more : (site : SiteId) (line : TxLine) (lines : List TxLine) (kept more : List (Option (List Step))) → AreOwn site lines kept → ((tx : Tx) → program_in more tx ≡ noted site line kept tx)
    → AreOwn site (line ∷ lines) more
noted_more site line lines kept more held is tx = is tx ∙ by_test (same_tx line.tx tx)
  where
    by_test : (b : Bool) → cond b (program_at site (Some line)) (program_in kept tx) ≡ program_at site (cond b (Some line) (first_where (λ l. same_tx l.tx tx) lines))
    by_test true = refl
    by_test false = held tx

-- a transaction with a program has a line, and is in its range
named_found : (site : SiteId) (lines : List TxLine) (tx : Tx) → Each IsNamed lines → IsSome (program_at site (first_where (λ l. same_tx l.tx tx) lines)) → (1 ≤ tx.0) × (tx.0 ≤ 1024)
named_found site [] tx named some = cc
named_found site (line ∷ lines) tx named some = by_test (same_tx line.tx tx) refl some (named_found site lines tx named.1)
  where
    by_test : (b : Bool) → same_tx line.tx tx ≡ b → IsSome (program_at site (cond b (Some line) (first_where (λ l. same_tx l.tx tx) lines)))
        → (IsSome (program_at site (first_where (λ l. same_tx l.tx tx) lines)) → (1 ≤ tx.0) × (tx.0 ≤ 1024)) → (1 ≤ tx.0) × (tx.0 ≤ 1024)
    by_test true is some rest = subst (λ (t : Tx). (1 ≤ t.0) × (t.0 ≤ 1024)) (same_tx-equal line.tx tx is) named.0
    by_test false is some rest = rest some

pub own_named : (site : SiteId) (lines : List TxLine) → Each IsNamed lines → (tx : Tx) → IsSome (own_programs site lines tx) → (1 ≤ tx.0) × (tx.0 ≤ 1024)
own_named site lines named tx some = named_found site lines tx named some

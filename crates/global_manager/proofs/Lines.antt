-- The programs of the global transactions by their lines.
use Rattle.std.proofs.Common.{◌≡◌, ℕ, ◌≤◌, Bool, true, false, cond, IsSome, Option, Some, None, List, [], ◌∷◌, eqb-true, refl, ap, ◌∙◌, subst}
use Rattle.std.specs.FinMap.{FinMap, get}
use Rattle.mdb_base.specs.declared.acts.Step.{Step}
use Rattle.mdb_base.specs.declared.names.SiteId.{SiteId}
use Rattle.mdb_base.specs.declared.names.Tx.{Tx}
use Rattle.mdb_base.specs.Names.{same_tx, tx_cmp}
use Rattle.mdb_base.specs.Words.{Each, first_where}
use Rattle.presumptions.specs.declared.Participant.{Participant}
use Rattle.fed_rules.specs.declared.scenario.TxLine.{TxLine}
use Rattle.mdb_base.proofs.ForCallers.{tx_ties, txs_exact, txs_total}
use Rattle.site_book.proofs.ForCallers.{get-gone, get-put}
use Rattle.global_manager.specs.Stands.{IsDeclared, IsSited, IsSitedFrom, noted, own_programs, program_at}

-- what is found behind a line that is noted
noted_get : (tx q : Tx) (program : Option (List Step)) (map : FinMap tx_cmp (List Step)) → get (noted tx program map) q ≡ cond (same_tx tx q) program (get map q)
noted_get tx q None map = get-gone txs_total txs_exact map tx q ∙ ap (λ (b : Bool). cond b None (get map q)) (tx_ties tx q)
noted_get tx q (Some steps) map = get-put txs_total txs_exact map tx q steps ∙ ap (λ (b : Bool). cond b (Some steps) (get map q)) (tx_ties tx q)

-- so the map goes on with a line
pub noted_more : (line : TxLine) (lines : List TxLine) (map more : FinMap tx_cmp (List Step)) → ((tx : Tx) → get map tx ≡ own_programs lines tx)
    → more ≡ noted line.tx (program_at (Some line)) map → (tx : Tx) → get more tx ≡ own_programs (line ∷ lines) tx
noted_more line lines map more held is tx =
    ap (λ (m : FinMap tx_cmp (List Step)). get m tx) is ∙ noted_get line.tx tx (program_at (Some line)) map ∙ by_test (same_tx line.tx tx)
  where
    by_test : (b : Bool) → cond b (program_at (Some line)) (get map tx) ≡ program_at (cond b (Some line) (first_where (λ l. same_tx l.tx tx) lines))
    by_test true = refl
    by_test false = held tx

-- what holds of each line's program holds of the one that is found
found_program : (P : Tx → List Step → Type 0) (lines : List TxLine) (tx : Tx) (steps : List Step)
    → Each (λ (line : TxLine). (found : List Step) → program_at (Some line) ≡ Some found → P line.tx found) lines → own_programs lines tx ≡ Some steps → P tx steps
found_program P [] tx steps each is = cc
found_program P (line ∷ lines) tx steps each is = by_test (same_tx line.tx tx) refl is (found_program P lines tx steps each.1)
  where
    by_test : (b : Bool) → same_tx line.tx tx ≡ b → program_at (cond b (Some line) (first_where (λ l. same_tx l.tx tx) lines)) ≡ Some steps
        → (own_programs lines tx ≡ Some steps → P tx steps) → P tx steps
    by_test true same e rest = subst (λ (t : Tx). P t steps) (ap (λ (n : ℕ). let t : Tx = record { 0 = n } in t) (eqb-true line.tx.0 tx.0 same)) (each.0 steps e)
    by_test false same e rest = rest e

-- a global transaction is in its range, and its steps are at these sites
pub record Fits (protocols : List Participant) (tx : Tx) (steps : List Step) : Type 0 where
  pub named : (1 ≤ tx.0) × (tx.0 ≤ 1024)
  pub sited : IsSited protocols steps

line_sited : (protocols : List Participant) (line : TxLine) (home : Option SiteId) (steps : List Step) → IsSitedFrom protocols home line.program → program_at (Some (record line { home = home })) ≡ Some steps → IsSited protocols steps
line_sited protocols line None steps sited e = let is : line.program ≡ steps = cc in subst (IsSited protocols) is sited
line_sited protocols line (Some home) steps sited e = cc

each_fits : (protocols : List Participant) (lines : List TxLine) → Each (IsDeclared protocols) lines → Each (λ (line : TxLine). (found : List Step) → program_at (Some line) ≡ Some found → Fits protocols line.tx found) lines
each_fits protocols [] declared = tt
each_fits protocols (line ∷ lines) declared =
    let d = declared.0 in
    ((λ found e. record { named = (d.least, d.greatest); sited = line_sited protocols line line.home found d.sited e }), each_fits protocols lines declared.1)

pub own_fits : (protocols : List Participant) (lines : List TxLine) → Each (IsDeclared protocols) lines → (tx : Tx) (steps : List Step) → own_programs lines tx ≡ Some steps → Fits protocols tx steps
own_fits protocols lines declared tx steps is = found_program (Fits protocols) lines tx steps (each_fits protocols lines declared) is

-- a value that is there
pub there : {A : Type 0} (o : Option A) → IsSome o → (x : A) × (o ≡ Some x)
there None some = cc
there (Some x) some = (x, refl)

-- Runs that are serial, the last one first, as attempts one after another, the first one first.
use Rattle.std.proofs.Common.{◌≡◌, ℕ, ◌<◌, ◌⊎◌, Some, List, [], ◌∷◌, ◌++◌, map, reverse, refl, sym, ap, ◌∙◌, subst, inl, inr}
use Rattle.mdb_base.specs.declared.names.Tid.{Tid}
use Rattle.mdb_base.specs.Rows.{Table}
use Rattle.mdb_base.specs.Words.{Each}
use Rattle.mdb_base.proofs.ForCallers.{each_among, reverse_more}
use Rattle.order_laws.specs.Chains.{In}
use Rattle.order_laws.specs.Orders.{Before}
use Rattle.order_laws.proofs.ForCallers.{in_append, in_reverse}
use Rattle.fed_rules.specs.declared.records.SiteRecord.{SiteRecord}
use Rattle.fed_rules.specs.Runs.{Access, Run, after, table_of}
use Rattle.fed_rules.specs.SerialRuns.{HasLowerTicket, IsSerial, ReadsAlone, TicketsFall}
use Rattle.site_history.specs.Records.{IsPrepared}
use Rattle.site_history.specs.SiteOrders.{SiteSerial, table_after}
use Rattle.site_history.proofs.AsSealed.{in_map}

before_more : {A : Type 0} (xs : List A) (x a b : A) → Before (xs ++ x ∷ []) a b → Before xs a b ⊎ (In a xs × (x ≡ b))
before_more [] x a b (inl (e, never)) = elim never [ ]
before_more [] x a b (inr never) = elim never [ ]
before_more (y ∷ xs) x a b (inl (e, i)) = by_place (in_append b xs (x ∷ []) i)
  where
    by_place : In b xs ⊎ ((x ≡ b) ⊎ ⊥) → (((y ≡ a) × In b xs) ⊎ Before xs a b) ⊎ (((y ≡ a) ⊎ In a xs) × (x ≡ b))
    by_place (inl j) = inl (inl (e, j))
    by_place (inr (inl f)) = inr (inl e, f)
    by_place (inr (inr never)) = elim never [ ]
before_more (y ∷ xs) x a b (inr h) = elim (before_more xs x a b h) [
  | inl k ↦ inl (inr k)
  | inr (i, f) ↦ inr (inr i, f)
]

table_more : (acts : Tid → List Access) (table : Table) (tids : List Tid) (tid : Tid)
    → table_after acts table (tids ++ tid ∷ []) ≡ after (acts tid) (table_after acts table tids)
table_more acts table [] tid = refl
table_more acts table (t ∷ tids) tid = table_more acts (after (acts t) table) tids tid

serial_more : (acts : Tid → List Access) (table : Table) (tids : List Tid) (tid : Tid) → SiteSerial acts table tids
    → ReadsAlone (acts tid) (table_after acts table tids) → SiteSerial acts table (tids ++ tid ∷ [])
serial_more acts table [] tid serial reads = (reads, tt)
serial_more acts table (t ∷ tids) tid serial reads = (serial.0, serial_more acts (after (acts t) table) tids tid serial.1 reads)

-- the attempts of runs, the first one first
abbrev pub order_of_runs : List Run → List Tid
order_of_runs runs = reverse (map (λ run. run.tid) runs)

pub order_table : (acts : Tid → List Access) (table : Table) (runs : List Run) → Each (λ run. run.acts ≡ acts run.tid) runs
    → table_after acts table (order_of_runs runs) ≡ table_of table runs
order_table acts table [] had = refl
order_table acts table (run ∷ runs) had =
    ap (table_after acts table) (reverse_more run.tid (map (λ r. r.tid) runs))
    ∙ table_more acts table (order_of_runs runs) run.tid
    ∙ ap (λ as_had. after as_had (table_after acts table (order_of_runs runs))) (sym had.0)
    ∙ ap (after run.acts) (order_table acts table runs had.1)

pub order_serial : (acts : Tid → List Access) (table : Table) (runs : List Run) → Each (λ run. run.acts ≡ acts run.tid) runs
    → IsSerial table runs → SiteSerial acts table (order_of_runs runs)
order_serial acts table [] had serial = tt
order_serial acts table (run ∷ runs) had serial =
    subst (SiteSerial acts table) (sym (reverse_more run.tid (map (λ r. r.tid) runs)))
    (serial_more acts table (order_of_runs runs) run.tid (order_serial acts table runs had.1 serial.1)
    (subst (λ as_had. ReadsAlone as_had (table_after acts table (order_of_runs runs))) had.0
    (subst (ReadsAlone run.acts) (sym (order_table acts table runs had.1)) serial.0)))

-- the ticket of a run is that of its Prepared record
abbrev pub HasTicketOf : List SiteRecord → Run → Type 0
HasTicketOf records run = (ticket : ℕ) → IsPrepared records run.tid ticket → run.ticket ≡ Some ticket

pub order_rising : (records : List SiteRecord) (runs : List Run) → TicketsFall runs → Each (HasTicketOf records) runs
    → (a b : Tid) (j k : ℕ) → Before (order_of_runs runs) a b → IsPrepared records a j → IsPrepared records b k → j < k
order_rising records [] falls took a b j k before x y = elim before [ ]
order_rising records (run ∷ runs) falls took a b j k before x y =
    by_place (before_more (order_of_runs runs) run.tid a b
    (subst (λ tids. Before tids a b) (reverse_more run.tid (map (λ r. r.tid) runs)) before))
    (order_rising records runs falls.1 took.1 a b j k)
  where
    by_place : Before (order_of_runs runs) a b ⊎ (In a (order_of_runs runs) × (run.tid ≡ b))
        → (Before (order_of_runs runs) a b → IsPrepared records a j → IsPrepared records b k → j < k) → j < k
    by_place (inl h) rest = rest h x y
    by_place (inr (i, e)) rest =
        let one = in_map (λ r. r.tid) a runs (in_reverse (map (λ r. r.tid) runs) a i) in
        let lower = each_among (HasLowerTicket run) one.item runs falls.0 one.among in
        lower k j (took.0 k (subst (λ t. IsPrepared records t k) (sym e) y))
        (each_among (HasTicketOf records) one.item runs took.1 one.among j (subst (λ t. IsPrepared records t j) (sym one.image) x))

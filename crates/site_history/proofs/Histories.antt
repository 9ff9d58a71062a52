-- What is known of a site's past whose events are sorted: all that its records have been is backed by epochs.
use Rattle.std.proofs.Common.{◌≡◌, ◌⊎◌, Bool, true, false, cond, ◌||◌, Option, Some, None, List, [], ◌∷◌, refl, sym, ap, ◌∙◌, inl, inr}
use Rattle.std.specs.Prelude.{is_some}
use Rattle.mdb_base.specs.declared.names.Tid.{Tid}
use Rattle.mdb_base.specs.declared.names.Tx.{Tx}
use Rattle.mdb_base.specs.Names.{same_tx}
use Rattle.mdb_base.specs.Words.{Among, Each, some_of}
use Rattle.mdb_base.proofs.ForCallers.{each_among, same_tx-refl}
use Rattle.fed_rules.specs.declared.records.SiteRecord.{SiteRecord}
use Rattle.fed_rules.specs.declared.records.SiteRecord.TheVariants.{Setup, Start, Prepared, Ended, Local, Checkpoint}
use Rattle.fed_rules.specs.Disk.{Append, Call}
use Rattle.fed_rules.specs.EngineLines.{IsLive}
use Rattle.fed_rules.specs.Runs as Runs
use Rattle.fed_rules.specs.Runs.{Access, EngineLine, Begins, Acts, Takes, Seals, Refuses, Commits, Aborts, Run, acted, begun, changed, puts_of, run_at, tid_of, took}
use Rattle.fed_rules.specs.SitePast.{SitePast, epoch, epoch_start, engine_lines, live, live_one, records}
use Rattle.fed_rules.specs.SiteRecords.{Home, Held, doubt_of, local_of}
use Rattle.engine_laws.specs.Epochs.{Epoch}
use Rattle.site_history.specs.Accesses.{acts_at, acts_of, seals}
use Rattle.site_history.specs.Records.{BindOnce, IsBound, Prepares}
use Rattle.site_history.proofs.Agreement.{IsKept}
use Rattle.site_history.proofs.Backed.{AllBacked, acts_after}
use Rattle.site_history.proofs.Backing.{IsBacked}
use Rattle.site_history.proofs.Records.{doubt_in, record_of}
use Rattle.engine_laws.proofs.ForCallers.{doubt_tid}

-- a Local record is of a local transaction by the test, and a Prepared one is not
abbrev pub IsSortedRecord : (Tx → Bool) → SiteRecord → Type 0
IsSortedRecord local (Prepared tid epoch number ticket writes) = local tid.tx ≡ false
IsSortedRecord local (Local tid number writes) = local tid.tx ≡ true
IsSortedRecord local other = Unit {0}

-- the run of a local attempt has no ticket, and no record binds it yet
pub record IsUnbound (records : List SiteRecord) (tid : Tid) (run : Run) : Type 0 where
  pub ticketless : run.ticket ≡ None
  pub unbound : IsBound tid records → ⊥

abbrev pub LocalsUnbound : (Tx → Bool) → List SiteRecord → Runs.Start → List EngineLine → Type 0
LocalsUnbound local records start lines =
    (tid : Tid) (run : Run) → run_at start lines tid ≡ Some run → local tid.tx ≡ true → IsUnbound records tid run

pub record IsHistory (home : Home) (local : Tx → Bool) (past : SitePast) : Type 0 where
  pub kept : IsKept home past
  pub once : BindOnce (records home past)
  pub sorted : Each (IsSortedRecord local) (records home past)
  pub locals : LocalsUnbound local (records home past) (epoch_start home past) (engine_lines past)
  pub backed : AllBacked home (acts_at home past) (records home past)
  pub earlier : List Epoch
  pub now : IsBacked home (acts_at home past) (records home past) (epoch_start home past) (engine_lines past) earlier

-- who is in doubt isn't local
pub doubt_sorted : (local : Tx → Bool) (rs : List SiteRecord) (tid : Tid) (held : Held) → Each (IsSortedRecord local) rs
    → doubt_of rs tid ≡ Some held → local tid.tx ≡ false
doubt_sorted local rs tid held sorted e =
    ap (λ t. local t.tx) (sym (doubt_tid rs tid held e))
    ∙ each_among (IsSortedRecord local) (record_of held) rs sorted (doubt_in rs tid held e)

pub no_local_doubt : (local : Tx → Bool) (rs : List SiteRecord) (tid : Tid) → Each (IsSortedRecord local) rs → local tid.tx ≡ true
    → doubt_of rs tid ≡ None
no_local_doubt local rs tid sorted mine = by_held (doubt_of rs tid) refl
  where
    by_held : (o : Option Held) → doubt_of rs tid ≡ o → o ≡ None
    by_held None is = refl
    by_held (Some held) is = let clash = sym mine ∙ doubt_sorted local rs tid held sorted is in cc

-- no Local record of a transaction
pub local_unbound : (local : Tx → Bool) (rs : List SiteRecord) (tid : Tid) → Each (IsSortedRecord local) rs → local tid.tx ≡ true
    → local_of rs tid.tx ≡ None → IsBound tid rs → ⊥
local_unbound local [] tid sorted mine none b = b
local_unbound local (Prepared p epoch number ticket writes ∷ rs) tid sorted mine none (inl e) =
    let clash = sym mine ∙ ap (λ t. local t.tx) (sym e) ∙ sorted.0 in cc
local_unbound local (Prepared p epoch number ticket writes ∷ rs) tid sorted mine none (inr b) = local_unbound local rs tid sorted.1 mine none b
local_unbound local (Local p number writes ∷ rs) tid sorted mine none b = by_test (same_tx p.tx tid.tx) refl none b
    (local_unbound local rs tid sorted.1 mine)
  where
    by_test : (c : Bool) → same_tx p.tx tid.tx ≡ c → cond c (Some p) (local_of rs tid.tx) ≡ None → (p ≡ tid) ⊎ IsBound tid rs
        → (local_of rs tid.tx ≡ None → IsBound tid rs → ⊥) → ⊥
    by_test true is none b rest = cc
    by_test false is none (inl e) rest =
        let same : same_tx p.tx tid.tx ≡ true = ap (λ t. same_tx p.tx t.tx) (sym e) ∙ same_tx-refl p.tx in cc
    by_test false is none (inr b) rest = rest none b
local_unbound local (Setup site engine protocol items ∷ rs) tid sorted mine none (inl b) = b
local_unbound local (Checkpoint sum ∷ rs) tid sorted mine none (inl b) = b
local_unbound local (Setup site engine protocol items ∷ rs) tid sorted mine none (inr b) = local_unbound local rs tid sorted.1 mine none b
local_unbound local (Checkpoint sum ∷ rs) tid sorted mine none (inr b) = local_unbound local rs tid sorted.1 mine none b
local_unbound local (Start epoch ∷ rs) tid sorted mine none (inl b) = b
local_unbound local (Start epoch ∷ rs) tid sorted mine none (inr b) = local_unbound local rs tid sorted.1 mine none b
local_unbound local (Ended ended decision ∷ rs) tid sorted mine none (inl b) = b
local_unbound local (Ended ended decision ∷ rs) tid sorted mine none (inr b) = local_unbound local rs tid sorted.1 mine none b

-- an attempt that is not local is bound only by Prepared records
pub prepares_unbound : (local : Tx → Bool) (rs : List SiteRecord) (tid : Tid) → Each (IsSortedRecord local) rs → local tid.tx ≡ false
    → IsBound tid rs → Among (Prepares tid) rs
prepares_unbound local [] tid sorted others b = b
prepares_unbound local (Prepared p epoch number ticket writes ∷ rs) tid sorted others (inl e) = inl e
prepares_unbound local (Prepared p epoch number ticket writes ∷ rs) tid sorted others (inr b) =
    inr (prepares_unbound local rs tid sorted.1 others b)
prepares_unbound local (Local p number writes ∷ rs) tid sorted others (inl e) =
    let clash = sym others ∙ ap (λ t. local t.tx) (sym e) ∙ sorted.0 in cc
prepares_unbound local (Local p number writes ∷ rs) tid sorted others (inr b) = inr (prepares_unbound local rs tid sorted.1 others b)
prepares_unbound local (Setup site engine protocol items ∷ rs) tid sorted others (inl b) = elim b [ ]
prepares_unbound local (Checkpoint sum ∷ rs) tid sorted others (inl b) = elim b [ ]
prepares_unbound local (Setup site engine protocol items ∷ rs) tid sorted others (inr b) = inr (prepares_unbound local rs tid sorted.1 others b)
prepares_unbound local (Checkpoint sum ∷ rs) tid sorted others (inr b) = inr (prepares_unbound local rs tid sorted.1 others b)
prepares_unbound local (Start epoch ∷ rs) tid sorted others (inl b) = elim b [ ]
prepares_unbound local (Start epoch ∷ rs) tid sorted others (inr b) = inr (prepares_unbound local rs tid sorted.1 others b)
prepares_unbound local (Ended ended decision ∷ rs) tid sorted others (inl b) = elim b [ ]
prepares_unbound local (Ended ended decision ∷ rs) tid sorted others (inr b) = inr (prepares_unbound local rs tid sorted.1 others b)

-- the accesses that a line's record stands for
pub live_of_here : (home : Home) (past : SitePast) (tid : Tid) (run : Run) → IsLive (epoch_start home past) (engine_lines past) tid run
    → live home past tid ≡ Some run
live_of_here home past tid run l =
    ap live_one l.0 ∙ ap (λ s. cond (is_some s) None (Some run)) l.1

pub acts_of_line : (home : Home) (past : SitePast) (newest : SiteRecord) (rest : List (Call SiteRecord)) (tid : Tid) (run : Run)
    → IsLive (epoch_start home past) (engine_lines past) tid run → seals tid (Append newest) ≡ true
    → run.acts ≡ acts_after home past (Append newest ∷ rest) tid
acts_of_line home past newest rest tid run l is =
    sym (ap (λ b. cond (b || some_of (seals tid) rest) (acts_of (live home past tid)) (acts_at home past tid)) is
    ∙ ap acts_of (live_of_here home past tid run l))

-- the accesses of attempts that are bound before stay
pub acts_of_others : (home : Home) (past : SitePast) (newest : SiteRecord) (tid : Tid) → seals tid (Append newest) ≡ false
    → acts_after home past (Append newest ∷ []) tid ≡ acts_at home past tid
acts_of_others home past newest tid is =
    ap (λ b. cond (b || false) (acts_of (live home past tid)) (acts_at home past tid)) is

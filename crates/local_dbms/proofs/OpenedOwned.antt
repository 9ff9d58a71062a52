-- A site whose journal was found: the past that the journal stands for fits any programs of exactly the transactions that it has as local ones, and is
-- short.
use Rattle.std.proofs.Common.{◌≡◌, ◌+◌, ◌≤◌, true, false, is_some, Option, Some, None, List, [], ◌∷◌, ◌++◌, length, map, refl, sym, ◌∙◌, subst, arith}
use Rattle.std.proofs.lemmas.Bool.{or_left, or_right}
use Rattle.std.proofs.lemmas.List.{length-append, length-map}
use Rattle.mdb_base.specs.declared.acts.Step.{Step}
use Rattle.mdb_base.specs.declared.names.Tid.{Tid}
use Rattle.mdb_base.specs.declared.names.Tx.{Tx}
use Rattle.mdb_base.specs.Words.{Each}
use Rattle.mdb_base.proofs.ForCallers.{same_tx-refl}
use Rattle.fed_rules.specs.declared.events.SiteEvent.{SiteEvent}
use Rattle.fed_rules.specs.declared.events.SiteEvent.TheVariants as Ev
use Rattle.fed_rules.specs.declared.records.SiteRecord.{SiteRecord}
use Rattle.fed_rules.specs.declared.records.SiteRecord.TheVariants as Rec
use Rattle.fed_rules.specs.Disk.{bytes_of}
use Rattle.fed_rules.specs.Found.{Journal}
use Rattle.fed_rules.specs.Reopened.{all_named, opened_site, owner_named, site_names, was_global as named_global, was_local as named_local}
use Rattle.fed_rules.specs.SitePast.{SitePast}
use Rattle.fed_rules.specs.SiteRecords.{Held, Home, doubtful_size, owner_size, site_frame}
use Rattle.site_core.specs.Made.{IsOpened, about, is_of_global, is_of_local, was_global, was_local}
use Rattle.site_core.proofs.ForCallers.{each_named, opened_apart}
use Rattle.local_dbms.specs.Stands.{FitsPrograms, IsOwned, OwnPrograms}

-- there are programs of exactly the transactions that lines of the past name as local
abbrev pub AreFound : OwnPrograms → SitePast → Type 0
AreFound programs past = (tx : Tx) → is_some (programs tx) ≡ was_local tx past

no_program : (o : Option (List Step)) → is_some o ≡ false → o ≡ None
no_program None e = refl
no_program (Some program) e = cc

-- the events of a made-up past
abbrev NamesOnly : SiteEvent → Type 0
NamesOnly (Ev.Commit tid) = Unit {0}
NamesOnly (Ev.Give message) = Unit {0}
NamesOnly (Ev.Halt cut) = Unit {0}
NamesOnly event = ⊥

-- such lines fit the programs of the whole
owned_part : (programs : OwnPrograms) (whole past : SitePast) → AreFound programs whole → Each (λ x. NamesOnly x.event) past → ((tx : Tx) → was_local tx past ≡ true → was_local tx whole ≡ true)
    → ((tx : Tx) → was_global tx past ≡ true → was_local tx whole ≡ false) → IsOwned programs past
owned_part programs whole [] found only local global = tt
owned_part programs whole (x ∷ past) found only local global = (
  fits x.event only.0 (λ tx e. local tx (or_left (is_of_local tx x.event) (was_local tx past) e)) (λ tx e. global tx (or_left (is_of_global tx x.event) (was_global tx past) e)),
  owned_part programs whole past found only.1 (λ tx e. local tx (or_right (is_of_local tx x.event) (was_local tx past) e)) (λ tx e. global tx (or_right (is_of_global tx x.event) (was_global tx past) e)),
)
  where
    fits : (event : SiteEvent) → NamesOnly event → ((tx : Tx) → is_of_local tx event ≡ true → was_local tx whole ≡ true) → ((tx : Tx) → is_of_global tx event ≡ true → was_local tx whole ≡ false)
        → FitsPrograms programs past event
    fits (Ev.Commit tid) only l g = found tid.tx ∙ l tid.tx (same_tx-refl tid.tx)
    fits (Ev.Give message) only l g = no_program (programs (about message).tx) (found (about message).tx ∙ g (about message).tx (same_tx-refl (about message).tx))
    fits (Ev.Halt cut) only l g = tt
    fits (Ev.Begin tid) only l g = absurd only
    fits (Ev.Act tid act) only l g = absurd only
    fits (Ev.Abort tid) only l g = absurd only
    fits (Ev.Fate tx) only l g = absurd only
    fits (Ev.Ask tid) only l g = absurd only
    fits (Ev.Drop tid) only l g = absurd only
    fits (Ev.Trip calls cut) only l g = absurd only
    fits Ev.Back only l g = absurd only
    fits Ev.Check only l g = absurd only

pub opened_owned : (home : Home) (programs : OwnPrograms) (past : SitePast) → IsOpened home past → AreFound programs past → IsOwned programs past
opened_owned home programs past o found =
    owned_part programs past past found (subst (Each (λ x. NamesOnly x.event)) (sym o.is) (tt, each_named (λ x. NamesOnly x.event) (λ t. tt) (λ t. tt) o.journal.records))
    (λ tx e. e) (λ tx e. opened_apart home past tx o e)

-- a record names no more attempts than its frame has bytes
few_doubtful : (held : List Held) → length held ≤ doubtful_size held
few_doubtful [] = omega arith
few_doubtful (h ∷ held) = let rest = few_doubtful held in omega (arith, rest)

few_owner : (o : Option Tid) → length (owner_named o) ≤ owner_size o
few_owner None = omega arith
few_owner (Some t) = omega arith

few_names : (r : SiteRecord) → length (site_names r) ≤ site_frame r
few_names (Rec.Prepared t e n ticket writes) = omega arith
few_names (Rec.Ended t d) = omega arith
few_names (Rec.Local t n writes) = omega arith
few_names (Rec.Setup site engine protocol items) = omega arith
few_names (Rec.Start e) = omega arith
few_names (Rec.Checkpoint sum) =
    let held : SitePast = map (λ (h : Held). named_global h.tid) sum.doubtful in
    let locals : SitePast = map named_local sum.locals in
    let owner = few_owner sum.owner in
    let doubtful = few_doubtful sum.doubtful in
    omega (arith, length-append (held ++ owner_named sum.owner) locals, length-append held (owner_named sum.owner), length-map sum.doubtful (λ (h : Held). named_global h.tid), length-map sum.locals named_local, owner, doubtful)

few_named : (rs : List SiteRecord) → length (all_named rs) ≤ bytes_of site_frame rs
few_named [] = omega arith
few_named (r ∷ rs) =
    let here = few_names r in
    let rest = few_named rs in
    omega (arith, length-append (site_names r) (all_named rs), here, rest)

-- so the past has at most one line more than the journal has bytes
pub opened_short : (journal : Journal SiteRecord) → length (opened_site journal) ≤ 1 + bytes_of site_frame journal.records
opened_short journal = let few = few_named journal.records in omega (arith, few)

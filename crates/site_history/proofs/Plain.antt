-- A Checkpoint among the records says nothing new: every word passes over it.
use Rattle.std.proofs.Common.{◌≡◌, max, cond, Some, None, List, [], ◌∷◌, refl, ap, ap₂}
use Rattle.std.specs.Prelude.{nat_lt}
use Rattle.mdb_base.specs.declared.names.Tid.{Tid}
use Rattle.mdb_base.specs.Names.{same_tid, tid_before}
use Rattle.mdb_base.specs.Words.{inserted}
use Rattle.presumptions.specs.declared.Decision.TheVariants as Decided
use Rattle.fed_rules.specs.declared.records.SiteRecord.{SiteRecord}
use Rattle.fed_rules.specs.declared.records.SiteRecord.TheVariants.{Setup, Start, Prepared, Ended, Local, Checkpoint}
use Rattle.fed_rules.specs.SiteRecords.{Home, by_number, doubt_of, install_held, installs, last_number, last_ticket, rows_after, ticket_owner}
use Rattle.fed_rules.specs.SiteSums.{epoch_with, locals_with, site_sum}
use Rattle.site_history.specs.Sums.{plain}
use Rattle.site_history.proofs.Doubtful.{doubts_alike}
use Rattle.site_history.proofs.Whole.{same_parts}

pub epoch_plain : (rs : List SiteRecord) → epoch_with 0 (plain rs) ≡ epoch_with 0 rs
epoch_plain [] = refl
epoch_plain (Checkpoint sum ∷ rs) = epoch_plain rs
epoch_plain (Setup site engine protocol items ∷ rs) = epoch_plain rs
epoch_plain (Start n ∷ rs) = refl
epoch_plain (Prepared t e n ticket writes ∷ rs) = epoch_plain rs
epoch_plain (Ended t d ∷ rs) = epoch_plain rs
epoch_plain (Local t n writes ∷ rs) = epoch_plain rs

pub number_plain : (rs : List SiteRecord) → last_number (plain rs) ≡ last_number rs
number_plain [] = refl
number_plain (Checkpoint sum ∷ rs) = number_plain rs
number_plain (Setup site engine protocol items ∷ rs) = number_plain rs
number_plain (Start n ∷ rs) = number_plain rs
number_plain (Prepared t e n ticket writes ∷ rs) = ap (max n) (number_plain rs)
number_plain (Ended t d ∷ rs) = number_plain rs
number_plain (Local t n writes ∷ rs) = ap (max n) (number_plain rs)

pub ticket_plain : (rs : List SiteRecord) → last_ticket (plain rs) ≡ last_ticket rs
ticket_plain [] = refl
ticket_plain (Checkpoint sum ∷ rs) = ticket_plain rs
ticket_plain (Setup site engine protocol items ∷ rs) = ticket_plain rs
ticket_plain (Start n ∷ rs) = ticket_plain rs
ticket_plain (Prepared t e n ticket writes ∷ rs) = ap (max ticket) (ticket_plain rs)
ticket_plain (Ended t d ∷ rs) = ticket_plain rs
ticket_plain (Local t n writes ∷ rs) = ticket_plain rs

pub owner_plain : (rs : List SiteRecord) → ticket_owner (plain rs) ≡ ticket_owner rs
owner_plain [] = refl
owner_plain (Checkpoint sum ∷ rs) = owner_plain rs
owner_plain (Setup site engine protocol items ∷ rs) = owner_plain rs
owner_plain (Start n ∷ rs) = owner_plain rs
owner_plain (Prepared t e n ticket writes ∷ rs) = ap₂ (λ k o. cond (nat_lt k ticket) (Some t) o) (ticket_plain rs) (owner_plain rs)
owner_plain (Ended t d ∷ rs) = owner_plain rs
owner_plain (Local t n writes ∷ rs) = owner_plain rs

pub locals_plain : (rs : List SiteRecord) → locals_with [] (plain rs) ≡ locals_with [] rs
locals_plain [] = refl
locals_plain (Checkpoint sum ∷ rs) = locals_plain rs
locals_plain (Setup site engine protocol items ∷ rs) = locals_plain rs
locals_plain (Start n ∷ rs) = locals_plain rs
locals_plain (Prepared t e n ticket writes ∷ rs) = locals_plain rs
locals_plain (Ended t d ∷ rs) = locals_plain rs
locals_plain (Local t n writes ∷ rs) = ap (inserted tid_before t) (locals_plain rs)

pub doubt_plain : (rs : List SiteRecord) (tid : Tid) → doubt_of (plain rs) tid ≡ doubt_of rs tid
doubt_plain [] tid = refl
doubt_plain (Checkpoint sum ∷ rs) tid = doubt_plain rs tid
doubt_plain (Setup site engine protocol items ∷ rs) tid = doubt_plain rs tid
doubt_plain (Start n ∷ rs) tid = doubt_plain rs tid
doubt_plain (Local t n writes ∷ rs) tid = doubt_plain rs tid
doubt_plain (Ended t d ∷ rs) tid = ap (λ o. cond (same_tid t tid) None o) (doubt_plain rs tid)
doubt_plain (Prepared t e n ticket writes ∷ rs) tid =
    ap (λ o. cond (same_tid t tid) (Some (record { tid = t; epoch = e; number = n; ticket = ticket; writes = writes })) o) (doubt_plain rs tid)

pub installs_plain : (rs : List SiteRecord) → installs (plain rs) ≡ installs rs
installs_plain [] = refl
installs_plain (Checkpoint sum ∷ rs) = installs_plain rs
installs_plain (Setup site engine protocol items ∷ rs) = installs_plain rs
installs_plain (Start n ∷ rs) = installs_plain rs
installs_plain (Prepared t e n ticket writes ∷ rs) = installs_plain rs
installs_plain (Ended t Decided.Abort ∷ rs) = installs_plain rs
installs_plain (Ended t Decided.Commit ∷ rs) = ap₂ install_held (doubt_plain rs t) (installs_plain rs)
installs_plain (Local t n writes ∷ rs) = ap (by_number (record { tid = t; number = n; writes = writes })) (installs_plain rs)

pub sum_plain : (home : Home) (rs : List SiteRecord) → site_sum home (plain rs) ≡ site_sum home rs
sum_plain home rs =
    same_parts home (epoch_plain rs) (number_plain rs) (ticket_plain rs) (owner_plain rs) (ap (rows_after home.items) (installs_plain rs)) (locals_plain rs)
    (doubts_alike (plain rs) rs (doubt_plain rs))

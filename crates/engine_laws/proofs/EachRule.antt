-- What holds by each rule holds always.
use Rattle.std.proofs.Common.{List, refl, sym, subst}
use Rattle.mdb_base.specs.declared.names.Engine.{Engine}
use Rattle.mdb_base.specs.declared.names.Engine.TheVariants.{Locking, Timestamp, Validation, Multiversion}
use Rattle.fed_rules.specs.Runs.{Start, EngineLine}
use Rattle.fed_rules.specs.Replies.{rule}
use Rattle.engine_laws.specs.Laws.{Always, AlwaysBy, IsSerialSite, HasTicketsInOrder, MayRestart, WithAnyCommits}
use Rattle.engine_laws.proofs.Commits.{serial_site, tickets_in_order, any_commits}
use Rattle.engine_laws.proofs.Sound.{IsPlaced, IsSound}
use Rattle.engine_laws.proofs.Stops.{may_restart}
use Rattle.engine_laws.proofs.Tickets.{IsInOrder}
use Rattle.engine_laws.proofs.LockingRuns.{locking_sound}
use Rattle.engine_laws.proofs.LockingTickets.{locking_in_order}
use Rattle.engine_laws.proofs.AgeRuns.{IsByAge, age_placed, age_sound}
use Rattle.engine_laws.proofs.AgeTickets.{age_in_order}
use Rattle.engine_laws.proofs.TimestampRuns.{timestamp_by_age}
use Rattle.engine_laws.proofs.MultiversionRuns.{multiversion_by_age}
use Rattle.engine_laws.proofs.ValidationRuns.{validation_sound}
use Rattle.engine_laws.proofs.ValidationTickets.{validation_in_order}

-- by its own rule
always : (P : Start → List EngineLine → Type 0) → ((kind : Engine) → AlwaysBy kind P) → Always P
always P by_each start lines begun right = by_each start.kind start lines refl begun right

-- what a rule keeps: the committed runs are serial and the unended ones fit in, with their tickets in order
pub record KeepsLaws (kind : Engine) : Type 0 where
  pub sound : AlwaysBy kind (IsSound (rule kind).drawn)
  pub placed : AlwaysBy kind (IsPlaced (rule kind).drawn)
  pub in_order : AlwaysBy kind IsInOrder

by_age : (kind : Engine) → IsByAge kind → KeepsLaws kind
by_age kind by = record {
  sound = λ start lines is_kind begun right.
      subst (λ d. IsSound d start lines) (sym by.drawn) (age_sound kind start lines by is_kind begun right);
  placed = λ start lines is_kind begun right.
      subst (λ d. IsPlaced d start lines) (sym by.drawn) (age_placed kind start lines by.drawn is_kind right);
  in_order = age_in_order kind by;
}

pub laws : (kind : Engine) → KeepsLaws kind
laws Locking = record { sound = locking_sound; placed = λ start lines by begun right tid run at n sealed. sealed; in_order = locking_in_order }
laws Timestamp = by_age Timestamp timestamp_by_age
laws Validation = record { sound = validation_sound; placed = λ start lines by begun right tid run at n sealed. sealed; in_order = validation_in_order }
laws Multiversion = by_age Multiversion multiversion_by_age

pub sound : (kind : Engine) → AlwaysBy kind (IsSound (rule kind).drawn)
sound kind = (laws kind).sound

pub in_order : (kind : Engine) → AlwaysBy kind IsInOrder
in_order kind = (laws kind).in_order

pub placed : (kind : Engine) → AlwaysBy kind (IsPlaced (rule kind).drawn)
placed kind = (laws kind).placed

pub serial_by : (kind : Engine) → AlwaysBy kind IsSerialSite
serial_by kind start lines by begun right = serial_site (rule kind).drawn start lines (sound kind start lines by begun right)

pub tickets_by : (kind : Engine) → AlwaysBy kind HasTicketsInOrder
tickets_by kind start lines by begun right = tickets_in_order (rule kind).drawn start lines (sound kind start lines by begun right)
    (in_order kind start lines by begun right)

pub always_serial : Always IsSerialSite
always_serial = always IsSerialSite serial_by

pub always_tickets : Always HasTicketsInOrder
always_tickets = always HasTicketsInOrder tickets_by

pub always_serial_committed : Always (WithAnyCommits IsSerialSite)
always_serial_committed = always (WithAnyCommits IsSerialSite) (λ kind. any_commits kind IsSerialSite (serial_by kind))

pub always_tickets_committed : Always (WithAnyCommits HasTicketsInOrder)
always_tickets_committed = always (WithAnyCommits HasTicketsInOrder)
    (λ kind. any_commits kind HasTicketsInOrder (tickets_by kind))

pub always_may_restart : Always MayRestart
always_may_restart = always MayRestart (λ kind. may_restart kind (sound kind) (in_order kind) (placed kind))

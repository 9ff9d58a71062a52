-- What a line, and a stop, leaves of a past whose events fit the programs; and that a stop leaves the coordinator down.
use Rattle.std.proofs.Common.{◌≡◌, ℕ, Bool, true, false, [], ◌∷◌, inr, refl, sym, subst}
use Rattle.std.proofs.lemmas.Bool.{cond-true}
use Rattle.mdb_base.specs.Words.{when}
use Rattle.fed_rules.specs.declared.answers.Answer.TheVariants as Say
use Rattle.fed_rules.specs.declared.events.CoordEvent.{CoordEvent}
use Rattle.fed_rules.specs.declared.events.CoordEvent.TheVariants as Ev
use Rattle.fed_rules.specs.Coord.{coord_line}
use Rattle.fed_rules.specs.CoordPast.{CoordHappening, CoordPast, disk}
use Rattle.fed_rules.specs.CoordRecords.{coord_frame}
use Rattle.fed_rules.specs.Disk.{Stops}
use Rattle.fed_rules.specs.Happenings.{is_down, quiet, stopped, stops}
use Rattle.coord_laws.proofs.ForCallers.{coord_made}
use Rattle.coord_core.specs.Stands.{stopped_before, stopped_within, with_trip}
use Rattle.coord_tables.specs.Terms.{Terms, line_of}
use Rattle.coord_core.proofs.ForCallers.{trip_line}
use Rattle.global_manager.specs.Stands.{FitsPrograms, IsOwned, OwnPrograms}

-- a past goes on with the line of an event that fits
pub owned_more : (terms : Terms) (programs : OwnPrograms) (past : CoordPast) (event : CoordEvent) → IsOwned terms.protocols programs past → FitsPrograms programs past event → IsOwned terms.protocols programs (line_of terms past event ∷ past)
owned_more terms programs past event owned fits =
    inr (subst (FitsPrograms programs past) (sym (coord_made terms.protocols terms.policy past event).heard) fits, owned)

-- an event fits also where a trip is set before it
still_fits : (programs : OwnPrograms) (past : CoordPast) (event : CoordEvent) (calls cut : ℕ) → FitsPrograms programs past event → FitsPrograms programs (quiet (Ev.Trip calls cut) Say.Set ∷ past) event
still_fits programs past (Ev.Go tid steps) calls cut f = record { own = f.own; next = f.next; few = f.few }
still_fits programs past (Ev.Take site message) calls cut f = f
still_fits programs past (Ev.Again tid) calls cut f = f
still_fits programs past (Ev.Late tid) calls cut f = f
still_fits programs past (Ev.Fate tx) calls cut f = f
still_fits programs past (Ev.Halt cut') calls cut f = f
still_fits programs past (Ev.Trip calls' cut') calls cut f = f
still_fits programs past Ev.Back calls cut f = f
still_fits programs past Ev.Check calls cut f = f

-- so what a stop before the event, or within it, leaves is of events that fit
pub owned_before : (terms : Terms) (programs : OwnPrograms) (past : CoordPast) (cut : ℕ) → IsOwned terms.protocols programs past → IsOwned terms.protocols programs (stopped_before terms past cut)
owned_before terms programs past cut owned =
    owned_more terms programs (with_trip terms past 0 0) (Ev.Halt cut) (owned_more terms programs past (Ev.Trip 0 0) owned tt) tt

pub owned_within : (terms : Terms) (programs : OwnPrograms) (past : CoordPast) (event : CoordEvent) (calls cut : ℕ) → IsOwned terms.protocols programs past → FitsPrograms programs past event
    → IsOwned terms.protocols programs (stopped_within terms past event calls cut)
owned_within terms programs past event calls cut owned fits =
    owned_more terms programs (with_trip terms past calls cut) event (owned_more terms programs past (Ev.Trip calls cut) owned tt)
    (subst (λ (x : CoordHappening). FitsPrograms programs (x ∷ past) event) (sym (trip_line terms past calls cut)) (still_fits programs past event calls cut fits))

-- and the coordinator is down
halt_down : (terms : Terms) (past : CoordPast) (cut : ℕ) → is_down (line_of terms past (Ev.Halt cut) ∷ past) ≡ true
unfolding coord_line stopped when
halt_down terms past cut = by_test (is_down past) refl where
  by_test : (b : Bool) → is_down past ≡ b → is_down (when b (quiet (Ev.Halt cut) Say.Down) (stopped coord_frame (disk past) (Ev.Halt cut) (Stops cut ∷ [])) ∷ past) ≡ true
  by_test true e = e
  by_test false e = refl

pub down_before : (terms : Terms) (past : CoordPast) (cut : ℕ) → is_down (stopped_before terms past cut) ≡ true
down_before terms past cut = halt_down terms (with_trip terms past 0 0) cut

pub down_within : (terms : Terms) (past : CoordPast) (event : CoordEvent) (calls cut : ℕ) → stops (line_of terms (with_trip terms past calls cut) event).answer ≡ true
    → is_down (stopped_within terms past event calls cut) ≡ true
down_within terms past event calls cut e = cond-true _ _ _ e

-- How many bytes the lists and the items of a Checkpoint have, and that a list names few sites.
use Rattle.std.proofs.Common.{◌≡◌, ◌+◌, ◌*◌, ◌≤◌, List, [], ◌∷◌, length, All, refl, arith}
use Rattle.std.specs.List.{AllByRecursion}
use Rattle.std.proofs.lemmas.List.Elements.{recursion_from_All}
use Rattle.mdb_base.specs.Rising.{IsRising}
use Rattle.mdb_base.specs.declared.names.SiteId.{SiteId}
use Rattle.mdb_base.specs.declared.names.SiteTicket.{SiteTicket}
use Rattle.mdb_base.specs.declared.rows.Put.{Put}
use Rattle.presumptions.specs.declared.Participant.{Participant}
use Rattle.fed_rules.specs.declared.sums.CommittedAttempt.{CommittedAttempt}
use Rattle.fed_rules.specs.declared.sums.DoubtfulSum.{DoubtfulSum}
use Rattle.fed_rules.specs.declared.sums.OpenAttempt.{OpenAttempt}
use Rattle.record_fields.specs.Items.{joined}
use Rattle.record_fields.specs.Named.{IsSite, a_put, a_participant, a_ticket}
use Rattle.record_fields.specs.Sums.{a_doubtful, an_open_attempt, a_committed_attempt}
use Rattle.record_fields.proofs.Joined.{length-joined}

pub rows_size : (rows : List Put) → length (joined a_put.spelling rows) ≡ 10 * length rows
rows_size = length-joined a_put.spelling 10 (λ row. refl)

pub participants_size : (sites : List Participant) → length (joined a_participant.spelling sites) ≡ 2 * length sites
participants_size = length-joined a_participant.spelling 2 (λ site. refl)

pub tickets_size : (sites : List SiteTicket) → length (joined a_ticket.spelling sites) ≡ 9 * length sites
tickets_size = length-joined a_ticket.spelling 9 (λ site. refl)

pub doubtful_size : (held : DoubtfulSum) → length (a_doubtful.spelling held) ≡ 27 + 10 * length held.writes
doubtful_size held = omega (arith, rows_size held.writes)

pub open_attempt_size : (attempt : OpenAttempt) → length (an_open_attempt.spelling attempt) ≡ 6 + 2 * length attempt.participants
open_attempt_size attempt = omega (arith, participants_size attempt.participants)

pub committed_attempt_size : (attempt : CommittedAttempt) → length (a_committed_attempt.spelling attempt) ≡ 6 + 9 * length attempt.tickets
committed_attempt_size attempt = omega (arith, tickets_size attempt.tickets)

-- rising sites from one on, of which each is at most 8
sites_from : {A : Type 0} (site : A → SiteId) (x : A) (xs : List A) → AllByRecursion (λ y. IsSite (site y)) (x ∷ xs) → IsRising (λ y. (site y).0) (x ∷ xs) → (site x).0 + length xs ≤ 8
sites_from site x [] all rising = omega (arith, all.0.greatest)
sites_from site x (y ∷ ys) all rising = omega (arith, sites_from site y ys all.1 rising.1, rising.0)

-- a list names at most 8 sites
pub few_sites : {A : Type 0} (site : A → SiteId) (xs : List A) → All (λ y. IsSite (site y)) xs → IsRising (λ y. (site y).0) xs → length xs ≤ 8
few_sites site [] all rising = omega arith
few_sites site (x ∷ xs) all rising =
    let each = recursion_from_All (λ y. IsSite (site y)) (x ∷ xs) all in
    omega (arith, sites_from site x xs each rising, each.0.least)

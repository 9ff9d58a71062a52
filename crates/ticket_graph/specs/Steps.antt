-- The steps of the search: which attempts are reached, by which tickets, and from where. The places of attempts are counted from 0.
use Rattle.std.specs.Prelude.{ℕ, ◌≡◌, ◌+◌, ◌<◌, ◌≤◌, ◌==◌, Bool, true, false, Option, List, ◌++◌, length}
use Rattle.std.specs.BTreeSet.{BTreeSet, contains, btree_set_len}
use Rattle.mdb_base.specs.declared.names.SiteTicket.{SiteTicket}
use Rattle.mdb_base.specs.Words.{Each, Among, some_of}
use Rattle.ticket_graph.specs.declared.entries.Entry.{Entry}
use Rattle.ticket_graph.specs.declared.steps.Step.{Step}
use Rattle.ticket_graph.specs.Entries.{entry_cmp}

-- whether a step goes to the attempt at this place
abbrev pub is_reached : List Step → ℕ → Bool
is_reached steps place = some_of (λ step. step.attempt == place) steps

-- the step goes to the entry's attempt at its site
pub record IsStepTo (entry : Entry) (from : Option ℕ) (step : Step) : Type 0 where
  pub attempt : step.attempt ≡ entry.attempt
  pub site : step.site ≡ entry.site
  pub came : step.from ≡ from

-- the entry's attempt is reached, by at most one more step
pub record Reaches (entry : Entry) (from : Option ℕ) (steps longer : List Step) : Type 0 where
  pub added : List Step
  pub grows : longer ≡ steps ++ added
  pub one : length added ≤ 1
  pub each : Each (IsStepTo entry from) added
  pub reached : is_reached longer entry.attempt ≡ true

-- one unmet entry is met
pub record Meets (entry : Entry) (unmet left : BTreeSet Entry) : Type 0 where
  pub others : (e : Entry) → contains entry_cmp left e ≡ true → contains entry_cmp unmet e ≡ true
  pub alone : (e : Entry) → contains entry_cmp unmet e ≡ true → contains entry_cmp left e ≡ false → e ≡ entry
  pub smaller : btree_set_len left + 1 ≡ btree_set_len unmet

-- the entry is of the ticket's site, with a greater ticket
pub record IsAbove (ticket : SiteTicket) (entry : Entry) : Type 0 where
  pub site : entry.site ≡ ticket.site
  pub greater : ticket.ticket < entry.ticket

-- the step goes to the attempt of an unmet entry above the ticket
pub record IsStepAbove (unmet : BTreeSet Entry) (from : Option ℕ) (ticket : SiteTicket) (step : Step) : Type 0 where
  pub entry : Entry
  pub was_unmet : contains entry_cmp unmet entry ≡ true
  pub above : IsAbove ticket entry
  pub goes : IsStepTo entry from step

-- unmet entries above some of the tickets were taken out, and their attempts are reached
pub record Follows (from : Option ℕ) (tickets : List SiteTicket) (unmet : BTreeSet Entry) (steps : List Step) (left : BTreeSet Entry) (longer : List Step) : Type 0 where
  pub added : List Step
  pub grows : longer ≡ steps ++ added
  pub each : Each (λ step. Among (λ ticket. IsStepAbove unmet from ticket step) tickets) added
  pub others : (e : Entry) → contains entry_cmp left e ≡ true → contains entry_cmp unmet e ≡ true
  pub reached : (e : Entry) → contains entry_cmp unmet e ≡ true → contains entry_cmp left e ≡ false → is_reached longer e.attempt ≡ true
  pub smaller : btree_set_len left + length longer ≤ btree_set_len unmet + length steps

-- no unmet entry is above the ticket
abbrev pub IsDone : BTreeSet Entry → SiteTicket → Type 0
IsDone unmet ticket = (e : Entry) → IsAbove ticket e → contains entry_cmp unmet e ≡ false

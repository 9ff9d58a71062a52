-- Where the steps of the search come from, and what the search finds.
use Rattle.std.specs.Prelude.{ℕ, ◌≡◌, ◌<◌, Bool, true, Option, Some, None, List, ◌∷◌, slice_get}
use Rattle.std.specs.BTreeSet.{BTreeSet, contains}
use Rattle.mdb_base.specs.declared.names.SiteId.{SiteId}
use Rattle.mdb_base.specs.declared.names.Tid.{Tid}
use Rattle.mdb_base.specs.Names.{same_tid, tid_cmp}
use Rattle.mdb_base.specs.Words.{some_of, holds_of}
use Rattle.order_laws.specs.Chains.{In}
use Rattle.order_laws.specs.Tickets.{Ticketed, Precedes, IsCycle}
use Rattle.ticket_graph.specs.declared.steps.Step.{Step}
use Rattle.ticket_graph.specs.declared.find.Finding.{Finding}
use Rattle.ticket_graph.specs.declared.find.Finding.TheVariants.{Cycle, Reached}

-- the step at this place goes to the attempt
pub record IsAt (attempts : List Ticketed) (steps : List Step) (place : ℕ) (attempt : Ticketed) : Type 0 where
  pub step : Step
  pub is_step : slice_get steps place ≡ Some step
  pub is_attempt : slice_get attempts step.attempt ≡ Some attempt

-- the attempt that a step before this place goes to, or the added one
abbrev pub IsSource : List Ticketed → Ticketed → List Step → ℕ → Option ℕ → Ticketed → Type 0
IsSource attempts added steps place None source = source ≡ added
IsSource attempts added steps place (Some from) source = (from < place) × IsAt attempts steps from source

-- the step at this place goes from its source by an edge to its attempt
pub record IsEdgeStep (attempts : List Ticketed) (added : Ticketed) (steps : List Step) (place : ℕ) (step : Step) : Type 0 where
  pub target : Ticketed
  pub is_target : slice_get attempts step.attempt ≡ Some target
  pub source : Ticketed
  pub is_source : IsSource attempts added steps place step.from source
  pub precedes : Precedes source target step.site

-- each step goes by an edge, from the added attempt or from one that an earlier step went to
abbrev pub IsTrail : List Ticketed → Ticketed → List Step → Type 0
IsTrail attempts added steps = (place : ℕ) (step : Step) → slice_get steps place ≡ Some step → IsEdgeStep attempts added steps place step

-- the attempt of the step at this place has an edge to the added one at the site
pub record IsBack (attempts : List Ticketed) (added : Ticketed) (steps : List Step) (place : ℕ) (site : SiteId) : Type 0 where
  pub attempt : Ticketed
  pub is_at : IsAt attempts steps place attempt
  pub precedes : Precedes attempt added site

-- whether a step goes to the attempt of this name
abbrev pub is_reached_tid : List Ticketed → List Step → Tid → Bool
is_reached_tid attempts steps tid = some_of (λ step. holds_of (λ a. same_tid tid a.tid) (slice_get attempts step.attempt)) steps

-- from the added attempt and from the reached ones edges lead to reached ones alone, and none to the added one
pub record IsClosed (attempts : List Ticketed) (added : Ticketed) (reached : BTreeSet Tid) : Type 0 where
  pub first : (b : Ticketed) (s : SiteId) → In b attempts → Precedes added b s → contains tid_cmp reached b.tid ≡ true
  pub onward : (a b : Ticketed) (s : SiteId) → In a attempts → In b attempts → contains tid_cmp reached a.tid ≡ true → Precedes a b s → contains tid_cmp reached b.tid ≡ true
  pub never_back : (a : Ticketed) (s : SiteId) → In a attempts → contains tid_cmp reached a.tid ≡ true → Precedes a added s → ⊥

-- a cycle through the added attempt, or the attempts that it reaches, where there is none
abbrev pub IsFinding : List Ticketed → Ticketed → Finding → Type 0
IsFinding attempts added (Cycle edges) = IsCycle (added ∷ attempts) added.tid edges
IsFinding attempts added (Reached tids) = IsClosed attempts added tids

-- Going back along the steps of the search, edge by edge.
use Rattle.std.proofs.Common.{ℕ, suc, ◌<◌, ◌≤◌, ◌≡◌, Option, Some, None, List, [], ◌∷◌, ◌++◌, length, reverse, slice_get, refl, sym, ap, ◌∙◌, subst, inl, inr, arith}
use Rattle.std.proofs.lemmas.List.{reverse-append}
use Rattle.mdb_base.specs.declared.names.SiteId.{SiteId}
use Rattle.mdb_base.specs.declared.names.Tid.{Tid}
use Rattle.mdb_base.specs.declared.replies.Edge.{Edge}
use Rattle.mdb_base.specs.Words.{Each}
use Rattle.mdb_base.proofs.ForCallers.{slice_get-below}
use Rattle.order_laws.specs.Chains.{In}
use Rattle.order_laws.specs.Tickets.{Ticketed, Precedes, IsEdge, Leads, IsCycle}
use Rattle.order_laws.proofs.ForCallers.{slice_get-in}
use Rattle.ticket_graph.specs.declared.steps.Step.{Step}
use Rattle.ticket_graph.specs.Trail.{IsSource, IsTrail, IsBack}

-- from the target edges lead to the added attempt, and an edge leads to it from the attempt that the place stands for
pub record IsGoingBack (attempts : List Ticketed) (added : Ticketed) (steps : List Step) (place : Option ℕ) (to : Tid) (site : SiteId) (edges : List Edge) : Type 0 where
  pub target : Ticketed
  pub has_target : In target (added ∷ attempts)
  pub is_target : target.tid ≡ to
  pub source : Ticketed
  pub is_source : IsSource attempts added steps (length steps) place source
  pub precedes : Precedes source target site
  pub leads : Leads to (reverse edges) added.tid
  pub each : Each (IsEdge (added ∷ attempts)) (reverse edges)

-- how many steps are before this place, and it itself
abbrev pub steps_left : Option ℕ → ℕ
steps_left None = 0
steps_left (Some place) = suc place

-- a source before a place is one before each later place
pub source_later : (attempts : List Ticketed) (added : Ticketed) (steps : List Step) (place later : ℕ) (from : Option ℕ) (source : Ticketed) → place ≤ later →
    IsSource attempts added steps place from source → IsSource attempts added steps later from source
source_later attempts added steps place later None source h s = s
source_later attempts added steps place later (Some from) source h s = let k = s.0 in (omega arith, s.1)

-- at first the added attempt is the target
pub back_starts : (attempts : List Ticketed) (added : Ticketed) (steps : List Step) (last : ℕ) (site : SiteId) (edges : List Edge) → edges ≡ [] →
    IsBack attempts added steps last site → IsGoingBack attempts added steps (Some last) added.tid site edges
back_starts attempts added steps last site edges e b =
    subst (IsGoingBack attempts added steps (Some last) added.tid site) (sym e) (record {
      target = added;
      has_target = inl refl;
      is_target = refl;
      source = b.attempt;
      is_source = (slice_get-below steps last b.is_at.step b.is_at.is_step, b.is_at);
      precedes = b.precedes;
      leads = refl;
      each = tt;
    })

reverse-push : {A : Type 0} (xs : List A) (y : A) → reverse (xs ++ y ∷ []) ≡ y ∷ reverse xs
reverse-push xs y = reverse-append xs (y ∷ [])

more_leads : (from to u : Tid) (site : SiteId) (edges more : List Edge) → more ≡ edges ++ record { from = from; to = to; site = site } ∷ [] →
    Leads to (reverse edges) u → Leads from (reverse more) u
more_leads from to u site edges more e h =
    subst (λ es. Leads from es u) (sym (ap reverse e ∙ reverse-push edges (record { from = from; to = to; site = site }))) (refl, h)

more_edges : (attempts : List Ticketed) (edge : Edge) (edges more : List Edge) → more ≡ edges ++ edge ∷ [] → IsEdge attempts edge →
    Each (IsEdge attempts) (reverse edges) → Each (IsEdge attempts) (reverse more)
more_edges attempts edge edges more e h k = subst (Each (IsEdge attempts)) (sym (ap reverse e ∙ reverse-push edges edge)) (h, k)

is_the_edge : (attempts : List Ticketed) (a b : Ticketed) (to : Tid) (site : SiteId) → In a attempts → In b attempts → b.tid ≡ to → Precedes a b site →
    IsEdge attempts (record { from = a.tid; to = to; site = site })
is_the_edge attempts a b to site i j e p = record { from = a; to = b; has_from = i; has_to = j; leaves = refl; enters = e; precedes = p }

-- what goes back by one step
pub goes_back : (attempts : List Ticketed) (added : Ticketed) (steps : List Step) (place : ℕ) (to : Tid) (site : SiteId) (edges more : List Edge) (step : Step) (a : Ticketed) →
    IsTrail attempts added steps → slice_get steps place ≡ Some step → slice_get attempts step.attempt ≡ Some a →
    more ≡ edges ++ record { from = a.tid; to = to; site = site } ∷ [] → IsGoingBack attempts added steps (Some place) to site edges →
    IsGoingBack attempts added steps step.from a.tid step.site more
goes_back attempts added steps place to site edges more step a trail at has e b =
    let here = b.is_source.1 in
    let same_step : here.step ≡ step = same (sym here.is_step ∙ at) in
    let same_attempt : b.source ≡ a = same (sym here.is_attempt ∙ (ap (λ s. slice_get attempts s.attempt) same_step ∙ has)) in
    let way = trail place step at in
    let target : way.target ≡ a = same (sym way.is_target ∙ has) in
    record {
      target = a;
      has_target = inr (slice_get-in attempts step.attempt a has);
      is_target = refl;
      source = way.source;
      is_source = source_later attempts added steps place (length steps) step.from way.source (let k = b.is_source.0 in omega arith) way.is_source;
      precedes = subst (λ t. Precedes way.source t step.site) target way.precedes;
      leads = more_leads a.tid to added.tid site edges more e b.leads;
      each = more_edges (added ∷ attempts) (record { from = a.tid; to = to; site = site }) edges more e
          (is_the_edge (added ∷ attempts) a b.target to site (inr (slice_get-in attempts step.attempt a has)) b.has_target b.is_target
          (subst (λ s. Precedes s b.target site) same_attempt b.precedes)) b.each;
    }
  where
    same : {A : Type 0} {x y : A} → Some x ≡ Some y → x ≡ y
    same h = cc

-- an earlier step
pub fewer_left : (attempts : List Ticketed) (added : Ticketed) (steps : List Step) (place : ℕ) (step : Step) → IsTrail attempts added steps →
    slice_get steps place ≡ Some step → steps_left step.from < suc place
fewer_left attempts added steps place step trail at =
    let way = trail place step at in by_source step.from way.source way.is_source
  where
    by_source : (from : Option ℕ) (source : Ticketed) → IsSource attempts added steps place from source → steps_left from < suc place
    by_source None source s = omega arith
    by_source (Some from) source s = let k = s.0 in omega arith

not_empty : {A : Type 0} (xs : List A) (x : A) (ys : List A) → xs ≡ x ∷ ys → xs ≡ [] → ⊥
not_empty xs x ys e f = cc

-- with the edge that leaves the added attempt the cycle is whole
pub back_ends : (attempts : List Ticketed) (added : Ticketed) (steps : List Step) (to : Tid) (site : SiteId) (edges more : List Edge) →
    more ≡ edges ++ record { from = added.tid; to = to; site = site } ∷ [] → IsGoingBack attempts added steps None to site edges →
    IsCycle (added ∷ attempts) added.tid (reverse more)
back_ends attempts added steps to site edges more e b =
    let edge : Edge = record { from = added.tid; to = to; site = site } in
    record {
      some = not_empty (reverse more) edge (reverse edges) (ap reverse e ∙ reverse-push edges edge);
      edges = more_edges (added ∷ attempts) edge edges more e
          (is_the_edge (added ∷ attempts) added b.target to site (inl refl) b.has_target b.is_target
          (subst (λ s. Precedes s b.target site) b.is_source b.precedes)) b.each;
      round = more_leads added.tid to added.tid site edges more e b.leads;
    }

-- A search for a cycle that goes over a list of nodes, each of which may be used or not. It needs no bound on its steps.
use Rattle.std.specs.Prelude.{◌≡◌, Option, Some, None, List, [], ◌∷◌, ◌++◌}
use Rattle.mdb_base.specs.Words.{map_some}

-- the first way, else the second
abbrev pub or_way : {K : Type 0} → Option (List K) → Option (List K) → Option (List K)
or_way None q = q
or_way (Some p) q = Some p

-- the one way and then the other, where there are both
abbrev pub and_then : {K : Type 0} → Option (List K) → Option (List K) → Option (List K)
and_then None q = None
and_then (Some p) None = None
and_then (Some p) (Some q) = Some (p ++ q)

-- the edges of a way from a to b over some of these nodes
abbrev pub path : {N K : Type 0} → (N → N → Option K) → List N → N → N → Option (List K)
path edge [] a b = map_some (λ e. e ∷ []) (edge a b)
path edge (c ∷ cs) a b = or_way (path edge cs a b) (and_then (path edge cs a c) (path edge cs c b))

-- the edges of a cycle that begins and ends at g, over some of the others
abbrev pub cycle_through : {N K : Type 0} → (N → N → Option K) → N → List N → Option (List K)
cycle_through edge g others = path edge others g g

-- there is an edge
abbrev pub Linked : {N K : Type 0} → (N → N → Option K) → N → N → Type 0
Linked {K = K} edge a b = (e : K) × (edge a b ≡ Some e)

-- these are the edges of the chain from a over the middle nodes to b
abbrev pub Walk : {N K : Type 0} → (N → N → Option K) → N → List N → N → List K → Type 0
Walk edge a [] b [] = ⊥
Walk edge a [] b (e ∷ []) = edge a b ≡ Some e
Walk edge a [] b (e ∷ f ∷ es) = ⊥
Walk edge a (x ∷ xs) b [] = ⊥
Walk edge a (x ∷ xs) b (e ∷ es) = (edge a x ≡ Some e) × Walk edge x xs b es

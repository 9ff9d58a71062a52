use Rattle.std.proofs.Common.{◌≡◌, ◌⊎◌, Option, Some, None, List, [], ◌∷◌, ◌++◌, inl, inr, refl, subst}
use Rattle.mdb_base.specs.Words.{Each, map_some}
use Rattle.mdb_base.proofs.ForCallers.{append_each}
use Rattle.order_laws.specs.Chains.{In, Chain, Acyclic, Within, Way}
use Rattle.order_laws.specs.Search.{or_way, and_then, path, cycle_through, Linked, Walk}
use Rattle.order_laws.proofs.Chains.{way_splits, accepted}

-- the edges of a walk whose middle nodes are among these
pub record Found {N K : Type 0} (edge : N → N → Option K) (ns : List N) (a b : N) (es : List K) : Type 0 where
  pub middle : List N
  pub among : Each (λ x. In x ns) middle
  pub walk : Walk edge a middle b es

-- two walks, of which the first ends where the second begins, are one
pub walk_append : {N K : Type 0} (edge : N → N → Option K) (a : N) (xs : List N) (c : N) (ys : List N) (b : N) (p q : List K) →
    Walk edge a xs c p → Walk edge c ys b q → Walk edge a (xs ++ c ∷ ys) b (p ++ q)
walk_append edge a [] c ys b [] q w v = absurd w
walk_append edge a [] c ys b (e ∷ []) q w v = (w, v)
walk_append edge a [] c ys b (e ∷ f ∷ p) q w v = absurd w
walk_append edge a (x ∷ xs) c ys b [] q w v = absurd w
walk_append edge a (x ∷ xs) c ys b (e ∷ p) q w v = (w.0, walk_append edge x xs c ys b p q w.1 v)

each_more : {A : Type 0} (c : A) (ns xs : List A) → Each (λ x. In x ns) xs → Each (λ x. In x (c ∷ ns)) xs
each_more c ns [] h = tt
each_more c ns (x ∷ xs) h = (inr h.0, each_more c ns xs h.1)

found_more : {N K : Type 0} (edge : N → N → Option K) (c : N) (ns : List N) (a b : N) (es : List K) →
    Found edge ns a b es → Found edge (c ∷ ns) a b es
found_more edge c ns a b es f = record { middle = f.middle; among = each_more c ns f.middle f.among; walk = f.walk }

found_both : {N K : Type 0} (edge : N → N → Option K) (c : N) (ns : List N) (a b : N) (p q : List K) →
    Found edge ns a c p → Found edge ns c b q → Found edge (c ∷ ns) a b (p ++ q)
found_both edge c ns a b p q f g =
    record {
      middle = f.middle ++ c ∷ g.middle;
      among = append_each (λ x. In x (c ∷ ns)) f.middle (c ∷ g.middle) (each_more c ns f.middle f.among) (inl refl, each_more c ns g.middle g.among);
      walk = walk_append edge a f.middle c g.middle b p q f.walk g.walk;
    }

found_step : {N K : Type 0} (edge : N → N → Option K) (c : N) (ns : List N) (a b : N) (p q r : Option (List K)) →
    ((es : List K) → p ≡ Some es → Found edge ns a b es) →
    ((es : List K) → q ≡ Some es → Found edge ns a c es) →
    ((es : List K) → r ≡ Some es → Found edge ns c b es) →
    (es : List K) → or_way p (and_then q r) ≡ Some es → Found edge (c ∷ ns) a b es
found_step edge c ns a b (Some p) q r fp fq fr es e = found_more edge c ns a b es (fp es e)
found_step edge c ns a b None None r fp fq fr es e = cc
found_step edge c ns a b None (Some q) None fp fq fr es e = cc
found_step edge c ns a b None (Some q) (Some r) fp fq fr es e =
    let same : q ++ r ≡ es = cc in subst (Found edge (c ∷ ns) a b) same (found_both edge c ns a b q r (fq q refl) (fr r refl))

found_one : {N K : Type 0} (edge : N → N → Option K) (a b : N) (k : Option K) → edge a b ≡ k →
    (es : List K) → map_some (λ e. e ∷ []) k ≡ Some es → Found edge [] a b es
found_one edge a b None is es e = cc
found_one edge a b (Some k) is es e =
    let same : k ∷ [] ≡ es = cc in subst (Found edge [] a b) same (record { middle = []; among = tt; walk = is })

-- what the search finds is a walk over these nodes
pub found : {N K : Type 0} (edge : N → N → Option K) (ns : List N) (a b : N) (es : List K) →
    path edge ns a b ≡ Some es → Found edge ns a b es
found edge [] a b es e = found_one edge a b (edge a b) refl es e
found edge (c ∷ ns) a b es e =
    found_step edge c ns a b (path edge ns a b) (path edge ns a c) (path edge ns c b)
    (found edge ns a b) (found edge ns a c) (found edge ns c b) es e

none_step : {N K : Type 0} (edge : N → N → Option K) (c : N) (ns : List N) (a b : N) (p q r : Option (List K)) →
    (p ≡ None → Way (Linked edge) ns a b → ⊥) →
    (q ≡ None → Way (Linked edge) ns a c → ⊥) →
    (r ≡ None → Way (Linked edge) ns c b → ⊥) →
    or_way p (and_then q r) ≡ None → Way (Linked edge) ns a b ⊎ (Way (Linked edge) ns a c × Way (Linked edge) ns c b) → ⊥
none_step edge c ns a b (Some p) q r np nq nr e w = cc
none_step edge c ns a b None q r np nq nr e (inl w) = np refl w
none_step edge c ns a b None None r np nq nr e (inr w) = nq refl w.0
none_step edge c ns a b None (Some q) None np nq nr e (inr w) = nr refl w.1
none_step edge c ns a b None (Some q) (Some r) np nq nr e (inr w) = cc

none_one : {N K : Type 0} (edge : N → N → Option K) (a b : N) (k : Option K) → edge a b ≡ k → map_some (λ e. e ∷ []) k ≡ None →
    (middle : List N) → Each (λ x. In x []) middle → Chain (Linked edge) a middle b → ⊥
none_one edge a b k is e (x ∷ xs) among chain = absurd among.0
none_one edge a b None is e [] among chain = let k = chain.0 in let was : edge a b ≡ Some k = chain.1 in cc
none_one edge a b (Some k) is e [] among chain = cc

-- where the search finds nothing, no chain leads over these nodes
pub none_found : {N K : Type 0} (edge : N → N → Option K) (ns : List N) (a b : N) →
    path edge ns a b ≡ None → Way (Linked edge) ns a b → ⊥
none_found edge [] a b e w = none_one edge a b (edge a b) refl e w.middle w.among w.chain
none_found edge (c ∷ ns) a b e w =
    none_step edge c ns a b (path edge ns a b) (path edge ns a c) (path edge ns c b)
    (none_found edge ns a b) (none_found edge ns a c) (none_found edge ns c b) e (way_splits (Linked edge) c ns a b w)

-- a node for which the search finds no cycle keeps the nodes without a cycle
pub no_cycle : {N K : Type 0} (edge : N → N → Option K) (g : N) (others : List N) →
    Acyclic (Within (Linked edge) others) → cycle_through edge g others ≡ None → Acyclic (Within (Linked edge) (g ∷ others))
no_cycle edge g others old e = accepted (Linked edge) g others old (none_found edge others g g e)

-- a walk is a chain
pub walk_chain : {N K : Type 0} (edge : N → N → Option K) (a : N) (xs : List N) (b : N) (es : List K) →
    Walk edge a xs b es → Chain (Linked edge) a xs b
walk_chain edge a [] b [] w = absurd w
walk_chain edge a [] b (e ∷ []) w = (e, w)
walk_chain edge a [] b (e ∷ f ∷ es) w = absurd w
walk_chain edge a (x ∷ xs) b [] w = absurd w
walk_chain edge a (x ∷ xs) b (e ∷ es) w = ((e, w.0), walk_chain edge x xs b es w.1)

-- a chain is a walk over its edges
pub chain_walk : {N K : Type 0} (edge : N → N → Option K) (a : N) (xs : List N) (b : N) → Chain (Linked edge) a xs b →
    (es : List K) × Walk edge a xs b es
chain_walk edge a [] b c = (c.0 ∷ [], c.1)
chain_walk edge a (x ∷ xs) b c = let r = chain_walk edge x xs b c.1 in (c.0.0 ∷ r.0, (c.0.1, r.1))

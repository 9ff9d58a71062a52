-- A graph that keeps the first of some attempts that have no cycle.
use Rattle.std.proofs.Common.{◌≡◌, List, [], ◌∷◌, ◌++◌, refl, sym, ap, ◌∙◌, subst, inl, inr}
use Rattle.order_laws.specs.Chains.{In}
use Rattle.order_laws.specs.Tickets.{Ticketed, HasNoCycle, OneEach}
use Rattle.order_laws.proofs.ForCallers.{in_parts}
use Rattle.ticket_graph.specs.declared.verdict.Verdict.TheVariants.{Added}
use Rattle.ticket_graph.specs.Graph.{Graph, tids_of, IsVerdict, IsWith, StandsFor}
use Rattle.ticket_graph.proofs.GraphLemmas.{cycle_more, tid_in, in_tids}
use Rattle.ticket_graph.proofs.Parts.{in_left, in_right}

-- the next one isn't among those before it
apart_step : (xs : List Ticketed) (g : Ticketed) (ys : List Ticketed) → OneEach (xs ++ g ∷ ys) → In g.tid (tids_of xs) → ⊥
apart_step [] g ys one i = i
apart_step (x ∷ xs) g ys one (inl e) = one.0 (subst (λ t. In t (tids_of (xs ++ g ∷ ys))) (sym e) (in_tids (xs ++ g ∷ ys) g (in_right xs (g ∷ ys) g (inl refl))))
apart_step (x ∷ xs) g ys one (inr i) = apart_step xs g ys one.1 i

pub next_is_new : (all xs : List Ticketed) (g : Ticketed) (rest ys : List Ticketed) (kept : List Ticketed) → OneEach all → xs ++ rest ≡ all → rest ≡ g ∷ ys →
    ((a : Ticketed) → In a kept → In a xs) → In g.tid (tids_of kept) → ⊥
next_is_new all xs g rest ys kept one whole next sub i =
    let a = tid_in kept g.tid i in
    apart_step xs g ys (subst OneEach (sym whole ∙ ap (λ zs. xs ++ zs) next) one) (subst (λ t. In t (tids_of xs)) a.2 (in_tids xs a.0 (sub a.0 a.1)))

pub next_has_no_cycle : (all xs : List Ticketed) (g : Ticketed) (rest ys : List Ticketed) (kept : List Ticketed) → HasNoCycle all → xs ++ rest ≡ all → rest ≡ g ∷ ys →
    ((a : Ticketed) → In a kept → In a xs) → IsVerdict kept g Added
next_has_no_cycle all xs g rest ys kept none whole next sub =
    λ es c. none g.tid es (cycle_more (g ∷ kept) all g.tid es more c)
  where
    inside : (a : Ticketed) → In a (xs ++ g ∷ ys) → In a all
    inside a i = subst (In a) (ap (λ zs. xs ++ zs) (sym next) ∙ whole) i

    more : (a : Ticketed) → In a (g ∷ kept) → In a all
    more a (inl e) = inside a (in_right xs (g ∷ ys) a (inl e))
    more a (inr i) = inside a (in_left xs (g ∷ ys) a (sub a i))

pub kept_more : (xs : List Ticketed) (g : Ticketed) (before after : Graph) → IsWith g before after → ((a : Ticketed) → In a before.kept → In a xs) →
    (a : Ticketed) → In a after.kept → In a (xs ++ g ∷ [])
kept_more xs g before after w sub a i =
    elim (w.alone a i) [ inl e ↦ in_right xs (g ∷ []) a (inl e) | inr j ↦ in_left xs (g ∷ []) a (sub a j) ]

pub more_kept : (xs : List Ticketed) (g : Ticketed) (before after : Graph) → IsWith g before after → ((a : Ticketed) → In a xs → In a before.kept) →
    (a : Ticketed) → In a (xs ++ g ∷ []) → In a after.kept
more_kept xs g before after w sub a i =
    elim (in_parts xs (g ∷ []) a i) [
      | inl j ↦ w.all a (inr (sub a j))
      | inr j ↦ elim j [ inl e ↦ w.all a (inl e) | inr k ↦ absurd k ]
    ]

-- a graph that keeps all of a list stands for it
pub stands_whole : (all : List Ticketed) (graph : Graph) → ((a : Ticketed) → In a graph.kept → In a all) → ((a : Ticketed) → In a all → In a graph.kept) →
    StandsFor all graph
stands_whole all graph sub sup =
    record { kept = sub; closed = λ a b s i j free p. free (sup b j); below = λ b j free. absurd (free (sup b j)) }

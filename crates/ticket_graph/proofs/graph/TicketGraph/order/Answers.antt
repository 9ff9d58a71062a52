use Rattle.std.proofs.Common.{◌≡◌, take, sym, ap, ◌∙◌, subst, arith}
use Rattle.std.proofs.lemmas.List.{take_all}
use Rattle.ticket_graph.specs.Graph.{Graph, tids_of, IsTopological}
use Rattle.ticket_graph.proofs.Forwards.{topological}
use Rattle.ticket_graph.proofs.graph.TicketGraph.order.Goals as goal

pub returns : goal.returns
returns c =
    let ns = c.self.inside.attempts.items in
    let kept : c.args.self.now.kept ≡ ns = ap (λ (g : Graph). g.kept) (sym c.self.view_is) in
    let i = c.loop-attempt.attempt-index in
    let all : tids_of ns ≡ c.of.result =
    sym (c.of.ensures ∙ (c.loop-attempt.invariant ∙ ap (λ xs. tids_of (take i xs)) kept ∙ ap tids_of (take_all i ns (omega arith)))) in
    subst (λ xs. IsTopological xs c.of.result) (sym kept)
    (subst (IsTopological ns) all (topological ns c.self.invariant.0 c.self.invariant.1))

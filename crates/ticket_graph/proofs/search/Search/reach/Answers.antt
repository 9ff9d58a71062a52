use Rattle.std.proofs.Common.{◌≡◌, ◌<◌, true, Some, slice_get, length-set, subst, sym, ◌∙◌, ap}
use Rattle.ticket_graph.proofs.StepLemmas.{already, read, seen_reached}
use Rattle.ticket_graph.proofs.search.Search.reach.Goals as goal

pub returns-then-index-clause-reaches : goal.returns-then-index-clause-reaches
returns-then-index-clause-reaches c =
    let marked : slice_get c.args.self.now.seen.items c.args.entry.attempt ≡ Some true =
    read c.args.self.now.seen.items c.args.entry.attempt c.index.result.now c.requires c.index.ensures ∙ ap (λ b. Some b) c.if-index.true in
    already c.args.entry c.args.from c.args.self.now.steps.items (c.args.self.now.seen_reached c.args.entry.attempt marked)

pub invariant_of-self-2-clause-seen_reached : goal.invariant_of-self-2-clause-seen_reached
invariant_of-self-2-clause-seen_reached c =
    seen_reached c.args.self.now.seen.items c.args.self.now.steps.items c.push.new.self.items
    (record { attempt = c.args.entry.attempt; site = c.args.entry.site; from = c.args.from }) c.args.self.now.seen_reached c.in_ok-push.ensures.items

pub invariant_of-self-2-clause-within : goal.invariant_of-self-2-clause-within
invariant_of-self-2-clause-within c =
    λ e h. subst (λ n. e.attempt < n) (sym (length-set c.args.self.now.seen.items c.args.entry.attempt true)) (c.args.self.now.within e h)

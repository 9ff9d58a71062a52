use Rattle.std.proofs.Common.{◌≡◌, true, false, drop, Some, slice_get, subst, sym, ap, ◌∙◌}
use Rattle.std.specs.BTreeSet.{contains}
use Rattle.std.specs.Option.{option_eq}
use Rattle.mdb_base.specs.Names.{same_tid, tid_cmp}
use Rattle.order_laws.specs.Orders.{is_in}
use Rattle.order_merge.proofs.Queues.{rest-without, whole-without, both_without}
use Rattle.order_merge.proofs.queue.Queue.take_out.Goals as goal

pub invariant_of-self : goal.invariant_of-self
invariant_of-self c =
    let first : option_eq same_tid (slice_get c.args.self.now 0) (Some c.args.tid) ≡ true =
    ap (λ o. option_eq same_tid o (Some c.args.tid)) (sym c.first.ensures) ∙ (sym c.eq.ensures ∙ c.if-eq.true) in
    λ t. both_without c.args.self.now c.pop_front.new.self.items c.args.tid t (contains tid_cmp c.self.inside.members t) (contains tid_cmp c.remove.new.self t)
    c.requires.distinct first (c.pop_front.ensures.rest ∙ ap (λ ts. drop 1 ts) c.self.view_is)
    (subst (λ ts. contains tid_cmp c.self.inside.members t ≡ is_in same_tid ts t) c.self.view_is (c.self.invariant t)) (c.remove.ensures.updates.0 t)

pub returns-then-eq : goal.returns-then-eq
returns-then-eq c =
    let first : option_eq same_tid (slice_get c.args.self.now 0) (Some c.args.tid) ≡ true =
    ap (λ o. option_eq same_tid o (Some c.args.tid)) (sym c.first.ensures) ∙ (sym c.eq.ensures ∙ c.if-eq.true) in
    rest-without c.args.self.now c.pop_front.new.self.items c.args.tid c.requires.distinct first (c.pop_front.ensures.rest ∙ ap (λ ts. drop 1 ts) c.self.view_is)

pub returns-else-eq : goal.returns-else-eq
returns-else-eq c =
    let other : option_eq same_tid (slice_get c.args.self.now 0) (Some c.args.tid) ≡ false =
    ap (λ o. option_eq same_tid o (Some c.args.tid)) (sym c.first.ensures) ∙ (sym c.eq.ensures ∙ c.if-eq.false) in
    whole-without c.args.self.now c.args.tid c.requires.first other

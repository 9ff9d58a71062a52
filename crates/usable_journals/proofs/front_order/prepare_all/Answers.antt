use Rattle.std.proofs.Common.{Bool, false, List, map, reverse, subst}
use Rattle.fed_rules.specs.SiteRecords.{Held}
use Rattle.usable_journals.specs.Fronts.{Takes, TakesAll, held_read}
use Rattle.usable_journals.proofs.FrontTaken.{Taken, one_more, stops_at}
use Rattle.usable_journals.proofs.front_order.prepare_all.Goals as goal

pub returns-then-not-branch : goal.returns-then-not-branch
returns-then-not-branch c =
    let a = c.args.front.now in
    let b = c.loop-held.front in
    let n = c.prepare.new.self in
    let all : List Held = c.into_iter-held-iterator.result.rest.items in
    subst (λ (hs : List Held). TakesAll a n (map held_read (reverse hs)) false) c.into_iter-held-iterator.ensures.into_iter_gives.0
    (stops_at a b n n c.in-Some.held c.next.new.self.rest.items all
    (subst (λ (hs : List Held). Taken a b hs all) c.in-Some.ensures.steps.0 c.loop-held.invariant)
    (subst (λ (t : Bool). Takes b n (held_read c.in-Some.held) t) c.if-not-branch.true c.in_ok-prepare.ensures))

pub loop-held-preserved : goal.loop-held-preserved
loop-held-preserved c =
    let a = c.args.front.now in
    let b = c.loop-held.front in
    let n = c.prepare.new.self in
    let all : List Held = c.into_iter-held-iterator.result.rest.items in
    one_more a b n c.in-Some.held c.next.new.self.rest.items all
    (subst (λ (hs : List Held). Taken a b hs all) c.in-Some.ensures.steps.0 c.loop-held.invariant)
    (subst (λ (t : Bool). Takes b n (held_read c.in-Some.held) t) c.if-not-branch.false c.in_ok-prepare.ensures)

use Rattle.std.proofs.Common.{Bool, true, false, [], ◌∷◌, ◌-◌, get_or, subst, arith}
use Rattle.fed_rules.specs.SiteRecords.{Held}
use Rattle.usable_journals.specs.Numbers.{Puts}
use Rattle.usable_journals.proofs.NumberLaws.{held_last, held_next, held_whole}
use Rattle.usable_journals.proofs.checkpoints.take_tickets.Goals as goal

pub returns-then-not-branch : goal.returns-then-not-branch
returns-then-not-branch c =
    let d = c.index-doubtful-left.result in
    let x = get_or c.args.doubtful.now (c.loop-left.left - 1) d in
    held_last (λ (held : Held). held.ticket) c.args.tickets.now c.put.new.numbers c.put.new.numbers c.args.doubtful.now (c.loop-left.left - 1)
    (held_next (λ (held : Held). held.ticket) c.args.tickets.now c.loop-left.tickets c.put.new.numbers c.args.doubtful.now c.loop-left.left d false (omega arith) c.loop-left.invariant.within c.loop-left.invariant.put
    (subst (λ (b : Bool). Puts c.loop-left.tickets c.put.new.numbers (x.ticket ∷ []) b) c.if-not-branch.true c.in_ok-put.ensures))

pub loop-left-preserved : goal.loop-left-preserved
loop-left-preserved c = record {
  within = omega arith;
  put =
      let d = c.index-doubtful-left.result in
      let x = get_or c.args.doubtful.now (c.loop-left.left - 1) d in
      held_next (λ (held : Held). held.ticket) c.args.tickets.now c.loop-left.tickets c.put.new.numbers c.args.doubtful.now c.loop-left.left d true (omega arith) c.loop-left.invariant.within c.loop-left.invariant.put
      (subst (λ (b : Bool). Puts c.loop-left.tickets c.put.new.numbers (x.ticket ∷ []) b) c.if-not-branch.false c.in_ok-put.ensures);
}

pub returns : goal.returns
returns c = held_whole (λ (held : Held). held.ticket) c.args.tickets.now c.loop-left.tickets c.args.doubtful.now c.loop-left.left (omega arith) c.loop-left.invariant.put

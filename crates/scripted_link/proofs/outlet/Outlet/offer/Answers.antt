use Rattle.std.proofs.Common.{◌≡◌, ◌++◌, List, length, ◌∙◌, ap, arith}
use Rattle.rtrb.specs.Ring.{sent}
use Rattle.fed_messages.specs.declared.Packet.{Packet}
use Rattle.scripted_link.specs.declared.script.FateAt.{FateAt}
use Rattle.scripted_link.specs.Script.{fate_at, due}
use Rattle.scripted_link.proofs.Queues.{offered_more}
use Rattle.scripted_link.proofs.outlet.Outlet.offer.Goals as goal

pub invariant_of-self : goal.invariant_of-self
invariant_of-self c =
    let old = c.args.self.now in
    let place : c.len.result ≡ length old.offered.items = omega arith in
    let fated : c.fate_of-fate.result ≡ fate_at old.script (length old.offered.items) =
    c.fate_of-fate.ensures ∙ (ap (λ (fs : List FateAt). fate_at fs c.len.result) c.as_slice.ensures.items ∙ ap (fate_at old.script) place) in
    let all : c.queue_due.new.queued.items ≡ c.queue_copies.new.queued.items ++ due old.script c.push_reserved.new.self.items =
    c.queue_due.ensures.items
    ∙ (ap (λ (fs : List FateAt). c.queue_copies.new.queued.items ++ due fs c.as_slice-3.result.now) c.as_slice-2.ensures.items
    ∙ ap (λ (ps : List Packet). c.queue_copies.new.queued.items ++ due old.script ps) c.as_slice-3.ensures.value) in
    record {
      lets = (offered_more old.script (sent old.producer) old.queued.items c.queue_copies.new.queued.items c.queue_due.new.queued.items old.offered.items c.push_reserved.new.self.items
          c.fate_of-fate.result c.args.packet old.lets fated c.push_reserved.ensures.items c.queue_copies.ensures.items all).1;
    }

use Rattle.std.proofs.Common.{refl, sym, ◌∙◌}
use Rattle.protocol_table.specs.Ends.{initiate}
use Rattle.protocol_table.proofs.Named.{changed-absent}
use Rattle.protocol_table.proofs.Written.{missing, named_after, values_after}
use Rattle.protocol_table.proofs.table.ProtocolTable.initiate.Goals as goal

pub returns-in-None : goal.returns-in-None
returns-in-None c =
    rw c.get_mut.follows.holds-at-none
    (c.self.view_is ∙ sym (changed-absent c.args.tid initiate c.args.self.now (missing c.args.tid c.of.result c.of.ensures c.self.inside.entries.entries c.self.invariant c.args.self.now c.self.view_is c.in-None.ensures.value)))

pub invariant_of-self-2 : goal.invariant_of-self-2
invariant_of-self-2 c =
    let after = initiate c.in-Some.known.now in
    named_after c.args.tid c.of.result c.of.ensures c.self.inside.entries.entries c.self.invariant c.args.self.now c.self.view_is c.get_mut.ensures.unique c.in-Some.known.now (after) c.in-Some.ensures.value (c.get_mut.follows.lender (after)).entries (c.get_mut.follows.holds (after)).0 initiate refl refl

pub returns : goal.returns
returns c =
    let after = initiate c.in-Some.known.now in
    values_after c.args.tid c.of.result c.of.ensures c.self.inside.entries.entries c.self.invariant c.args.self.now c.self.view_is c.get_mut.ensures.unique c.in-Some.known.now (after) c.in-Some.ensures.value (c.get_mut.follows.lender (after)).entries (c.get_mut.follows.holds (after)).0 initiate refl refl

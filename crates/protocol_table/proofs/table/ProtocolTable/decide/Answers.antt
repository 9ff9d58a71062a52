use Rattle.std.proofs.Common.{Bool, false, cond, Option, refl, sym, ap, ◌∙◌}
use Rattle.mdb_base.specs.Words.{map_some, or_else}
use Rattle.protocol_table.specs.declared.known.Known.{Known}
use Rattle.protocol_table.specs.Attempts.{changed, without}
use Rattle.protocol_table.specs.Ends.{decide, forgets_at_once}
use Rattle.protocol_table.proofs.Named.{changed-absent, without-changed}
use Rattle.protocol_table.proofs.Written.{found, missing, named_after, values_after}
use Rattle.protocol_table.proofs.table.ProtocolTable.decide.Goals as goal

pub returns-in-None-clause-forgets : goal.returns-in-None-clause-forgets
returns-in-None-clause-forgets c =
    sym (ap (λ (o : Option Known). or_else (map_some (forgets_at_once c.args.decision) o) false) (missing c.args.tid c.of.result c.of.ensures c.self.inside.entries.entries c.self.invariant c.args.self.now c.self.view_is c.in-None.ensures.value))

pub returns-in-None-clause-table : goal.returns-in-None-clause-table
returns-in-None-clause-table c =
    rw c.get_mut.follows.holds-at-none
    (c.self.view_is ∙ sym (changed-absent c.args.tid (decide c.args.decision) c.args.self.now (missing c.args.tid c.of.result c.of.ensures c.self.inside.entries.entries c.self.invariant c.args.self.now c.self.view_is c.in-None.ensures.value)))

pub take_out-requires-clause-named : goal.take_out-requires-clause-named
take_out-requires-clause-named c = named_after c.args.tid c.of.result c.of.ensures c.self.inside.entries.entries c.self.invariant c.args.self.now c.self.view_is c.get_mut.ensures.unique c.in-Some.known.now (decide c.args.decision c.in-Some.known.now) c.in-Some.ensures.value (c.get_mut.follows.lender (decide c.args.decision c.in-Some.known.now)).entries (c.get_mut.follows.holds (decide c.args.decision c.in-Some.known.now)).0 (decide c.args.decision) refl refl

pub invariant_of-self-else-forgets : goal.invariant_of-self-else-forgets
invariant_of-self-else-forgets c = named_after c.args.tid c.of.result c.of.ensures c.self.inside.entries.entries c.self.invariant c.args.self.now c.self.view_is c.get_mut.ensures.unique c.in-Some.known.now (decide c.args.decision c.in-Some.known.now) c.in-Some.ensures.value (c.get_mut.follows.lender (decide c.args.decision c.in-Some.known.now)).entries (c.get_mut.follows.holds (decide c.args.decision c.in-Some.known.now)).0 (decide c.args.decision) refl refl

pub returns-then-forgets-clause-forgets : goal.returns-then-forgets-clause-forgets
returns-then-forgets-clause-forgets c =
    c.forgets_at_once-forgets.ensures
    ∙ sym (ap (λ (o : Option Known). or_else (map_some (forgets_at_once c.args.decision) o) false) (found c.args.tid c.of.result c.of.ensures c.self.inside.entries.entries c.self.invariant c.args.self.now c.self.view_is c.get_mut.ensures.unique c.in-Some.known.now (decide c.args.decision c.in-Some.known.now) c.in-Some.ensures.value (c.get_mut.follows.lender (decide c.args.decision c.in-Some.known.now)).entries (c.get_mut.follows.holds (decide c.args.decision c.in-Some.known.now)).0 (decide c.args.decision) refl refl))

pub returns-then-forgets-clause-table : goal.returns-then-forgets-clause-table
returns-then-forgets-clause-table c =
    c.take_out.ensures.attempts ∙ ap (without c.args.tid) (values_after c.args.tid c.of.result c.of.ensures c.self.inside.entries.entries c.self.invariant c.args.self.now c.self.view_is c.get_mut.ensures.unique c.in-Some.known.now (decide c.args.decision c.in-Some.known.now) c.in-Some.ensures.value (c.get_mut.follows.lender (decide c.args.decision c.in-Some.known.now)).entries (c.get_mut.follows.holds (decide c.args.decision c.in-Some.known.now)).0 (decide c.args.decision) refl refl)
    ∙ without-changed c.args.tid (decide c.args.decision) (λ k. refl) c.args.self.now
    ∙ sym (ap (λ (b : Bool). cond b (without c.args.tid c.args.self.now) (changed c.args.tid (decide c.args.decision) c.args.self.now)) c.if-forgets.true)

pub returns-else-forgets-clause-forgets : goal.returns-else-forgets-clause-forgets
returns-else-forgets-clause-forgets c =
    c.forgets_at_once-forgets.ensures
    ∙ sym (ap (λ (o : Option Known). or_else (map_some (forgets_at_once c.args.decision) o) false) (found c.args.tid c.of.result c.of.ensures c.self.inside.entries.entries c.self.invariant c.args.self.now c.self.view_is c.get_mut.ensures.unique c.in-Some.known.now (decide c.args.decision c.in-Some.known.now) c.in-Some.ensures.value (c.get_mut.follows.lender (decide c.args.decision c.in-Some.known.now)).entries (c.get_mut.follows.holds (decide c.args.decision c.in-Some.known.now)).0 (decide c.args.decision) refl refl))

pub returns-else-forgets-clause-table : goal.returns-else-forgets-clause-table
returns-else-forgets-clause-table c =
    values_after c.args.tid c.of.result c.of.ensures c.self.inside.entries.entries c.self.invariant c.args.self.now c.self.view_is c.get_mut.ensures.unique c.in-Some.known.now (decide c.args.decision c.in-Some.known.now) c.in-Some.ensures.value (c.get_mut.follows.lender (decide c.args.decision c.in-Some.known.now)).entries (c.get_mut.follows.holds (decide c.args.decision c.in-Some.known.now)).0 (decide c.args.decision) refl refl
    ∙ sym (ap (λ (b : Bool). cond b (without c.args.tid c.args.self.now) (changed c.args.tid (decide c.args.decision) c.args.self.now)) c.if-forgets.false)

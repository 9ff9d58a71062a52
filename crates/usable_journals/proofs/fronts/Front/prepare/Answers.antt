use Rattle.std.proofs.Common.{◌≡◌, List, Some, cond, sym, subst}
use Rattle.std.specs.BTreeMap.{get}
use Rattle.mdb_base.specs.declared.names.Key.{Key}
use Rattle.mdb_base.specs.declared.rows.Put.{Put}
use Rattle.fed_rules.specs.EngineLines.{has_row}
use Rattle.journal_sums.specs.Versions.{key_cmp}
use Rattle.usable_journals.specs.Fronts.{CanHold}
use Rattle.usable_journals.proofs.FrontSteps.{prepared_tells, prepares, refuses_prepared}
use Rattle.usable_journals.proofs.fronts.Front.prepare.Goals as goal

pub returns-then-not-can_hold : goal.returns-then-not-can_hold
returns-then-not-can_hold c =
    refuses_prepared c.args.self.now c.args.self.now c.args.held
    (λ can. (let yes = c.can_hold.ensures.1 (subst (λ (ws : List Put). CanHold c.args.self.now c.args.held.number ws) (sym c.as_slice.ensures.items) can) in let no = c.if-not-can_hold.true in cc))

pub returns : goal.returns
returns c =
    let old = c.args.self.now in
    let held = c.args.held in
    prepares old (record { doubts = c.insert-2.new.self; numbers = c.insert.new.self; held = c.hold.new.keys; committed = old.committed }) held
    (subst (λ (ws : List Put). CanHold old held.number ws) c.as_slice.ensures.items (c.can_hold.ensures.0 c.if-not-can_hold.false))
    (λ rs new t. prepared_tells old c.insert-2.new.self c.insert.new.self c.hold.new.keys held rs new c.in_ok-insert-2.ensures.updates.0 c.in_ok-insert.ensures.updates.0
    (subst (λ (ws : List Put). (key : Key) → get key_cmp c.hold.new.keys key ≡ cond (has_row key ws) (Some held.number) (get key_cmp old.held key)) c.as_slice-2.ensures.items c.in_ok-hold.ensures) t)

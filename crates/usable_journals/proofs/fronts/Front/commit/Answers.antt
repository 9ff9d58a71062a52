use Rattle.std.proofs.Common.{◌≡◌, List, Some, cond, ap, sym, subst, ◌∙◌}
use Rattle.std.specs.BTreeMap.{get}
use Rattle.mdb_base.specs.declared.names.Key.{Key}
use Rattle.mdb_base.specs.declared.rows.Put.{Put}
use Rattle.mdb_base.specs.Words.{each_of}
use Rattle.fed_rules.specs.EngineLines.{has_row}
use Rattle.journal_sums.specs.Versions.{key_cmp}
use Rattle.usable_journals.specs.Fronts.{may_write}
use Rattle.usable_journals.specs.SiteTests.{greater_of}
use Rattle.usable_journals.proofs.FrontSteps.{commits, local_tells, refuses_local}
use Rattle.usable_journals.proofs.fronts.Front.commit.Goals as goal

pub returns-then-not-may_write_all : goal.returns-then-not-may_write_all
returns-then-not-may_write_all c =
    refuses_local c.args.self.now c.args.self.now c.args.tid c.args.number c.args.writes.now
    (sym (ap (λ (ws : List Put). each_of (may_write c.args.self.now c.args.number) ws) c.as_slice.ensures.items) ∙ sym c.may_write_all.ensures ∙ c.if-not-may_write_all.true)

pub returns : goal.returns
returns c =
    let old = c.args.self.now in
    let n = c.args.number in
    commits old (record { doubts = old.doubts; numbers = old.numbers; held = old.held; committed = c.raise.new.keys }) c.args.tid n c.args.writes.now
    (sym (ap (λ (ws : List Put). each_of (may_write old n) ws) c.as_slice.ensures.items) ∙ sym c.may_write_all.ensures ∙ c.if-not-may_write_all.false)
    (λ rs t. local_tells old c.raise.new.keys c.args.tid n c.args.writes.now rs
    (subst (λ (ws : List Put). (key : Key) → get key_cmp c.raise.new.keys key ≡ cond (has_row key ws) (Some (greater_of (get key_cmp old.committed key) n)) (get key_cmp old.committed key))
    c.as_slice-2.ensures.items c.in_ok-raise.ensures) t)

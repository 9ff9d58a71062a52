use Rattle.std.proofs.Common.{◌≡◌, List, true, None, Some, cond, sym, subst, ◌∙◌}
use Rattle.std.specs.BTreeMap.{get}
use Rattle.mdb_base.specs.declared.names.Key.{Key}
use Rattle.mdb_base.specs.declared.rows.Put.{Put}
use Rattle.fed_rules.specs.declared.records.SiteRecord.TheVariants.{Ended}
use Rattle.fed_rules.specs.EngineLines.{has_row}
use Rattle.journal_sums.specs.Versions.{key_cmp}
use Rattle.usable_journals.specs.Fronts.{Takes}
use Rattle.usable_journals.specs.SiteTests.{greater_of}
use Rattle.usable_journals.proofs.FrontSteps.{aborts, settles}
use Rattle.usable_journals.proofs.fronts.Front.end.Goals as goal

pub returns-in-Commit : goal.returns-in-Commit
returns-in-Commit c =
    let old = c.args.self.now in
    let held = c.in-Some.held in
    subst (λ d. Takes old (record { doubts = c.remove.new.self; numbers = c.remove-2.new.self; held = c.free.new.keys; committed = c.raise.new.keys }) (Ended c.args.tid d) true) (sym c.in-Commit.is)
    (settles old c.remove.new.self c.remove-2.new.self c.free.new.keys c.raise.new.keys c.args.tid held (sym c.remove.ensures.value ∙ c.in-Some.is) c.remove.ensures.updates.0 c.remove-2.ensures.updates.0
    (subst (λ (ws : List Put). (key : Key) → get key_cmp c.free.new.keys key ≡ cond (has_row key ws) None (get key_cmp old.held key)) c.as_slice.ensures.items c.free.ensures)
    (subst (λ (ws : List Put). (key : Key) → get key_cmp c.raise.new.keys key ≡ cond (has_row key ws) (Some (greater_of (get key_cmp old.committed key) held.number)) (get key_cmp old.committed key))
    c.as_slice-in-Commit.ensures.items c.in_ok-raise-in-Commit.ensures))

pub returns : goal.returns
returns c =
    let old = c.args.self.now in
    let held = c.in-Some.held in
    subst (λ d. Takes old (record { doubts = c.remove.new.self; numbers = c.remove-2.new.self; held = c.free.new.keys; committed = old.committed }) (Ended c.args.tid d) true) (sym c.in-Abort.is)
    (aborts old c.remove.new.self c.remove-2.new.self c.free.new.keys c.args.tid held (sym c.remove.ensures.value ∙ c.in-Some.is) c.remove.ensures.updates.0 c.remove-2.ensures.updates.0
    (subst (λ (ws : List Put). (key : Key) → get key_cmp c.free.new.keys key ≡ cond (has_row key ws) None (get key_cmp old.held key)) c.as_slice.ensures.items c.free.ensures))

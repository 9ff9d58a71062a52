use Rattle.std.proofs.Common.{◌-◌, ◌++◌, [], ◌∷◌, List, drop, reverse, ap, sym, ◌∙◌, arith}
use Rattle.fed_rules.specs.declared.records.CoordRecord.{CoordRecord}
use Rattle.fed_rules.specs.CoordRecords.{commits}
use Rattle.usable_journals.proofs.Committing.{adds_before, adds_nothing}
use Rattle.usable_journals.proofs.cycles.add_all.Goals as goal

pub loop-left-init : goal.loop-left-init
loop-left-init c = record { within = omega arith; added = adds_nothing c.args.attempts.now.items c.args.entries.now _ (omega arith) }

pub loop-left-preserved : goal.loop-left-preserved
loop-left-preserved c = record {
  within = omega arith;
  added =
      let d = c.index-entries-left.result in
      adds_before c.args.attempts.now.items c.loop-left.attempts.items c.add.new.attempts.items c.args.entries.now c.loop-left.left d (omega arith) c.loop-left.invariant.within
      c.loop-left.invariant.added
      (c.in_ok-add.ensures ∙ ap (λ (r : CoordRecord). c.loop-left.attempts.items ++ commits (r ∷ [])) c.index-entries-left.is);
}

use Rattle.std.proofs.Common.{◌≡◌, ◌<◌, ◌≤◌, Some, refl, sym, ap, ◌∙◌, arith}
use Rattle.std.specs.Prelude.{is_none}
use Rattle.std.proofs.lemmas.Bool.{le-ltb, lt-ltb}
use Rattle.std.proofs.lemmas.List.{drop_all}
use Rattle.mdb_base.specs.Programs.{bad_register}
use Rattle.mdb_base.proofs.ForCallers.{bad_register-passes, bad_register-stops}
use Rattle.scenario_text.proofs.draft.transactions.registers_hold.Goals as goal
use Rattle.scenario_text.proofs.draft.transactions.registers_hold.Goals.{in-Get, in-Set, in-Add+else-from-reads}

pub returns-then-from-reads : goal.returns-then-from-reads
returns-then-from-reads c =
    let low : c.loop-step.reads ≤ c.in-Add.register = omega (arith, c.from.ensures) in
    let stop : bad_register 0 0 c.args.steps.now ≡ Some c.loop-step.step-index =
    sym c.loop-step.invariant.same ∙ bad_register-stops _ _ _ _ _ c.loop-step-test.true c.in-Add.is (le-ltb _ _ low) in
    ap is_none (sym stop)

pub loop-step-preserved : goal.loop-step-preserved
loop-step-preserved c =
    let steps = c.args.steps.now in
    let reads = c.loop-step.reads in
    let after = c.match-step.reads in
    let place = c.loop-step.step-index in
    let here = c.loop-step-test.true in
    elim c.match-step.branch [
      | in-Get w ↦ record {
        few = omega arith;
        same = sym (bad_register-passes steps reads after place _ _ here w.in-Get.is refl (omega arith)) ∙ c.loop-step.invariant.same;
      }
      | in-Set w ↦ record {
        few = omega arith;
        same = sym (bad_register-passes steps reads after place _ _ here w.in-Set.is refl w.reads-is) ∙ c.loop-step.invariant.same;
      }
      | in-Add+else-from-reads w ↦ record {
        few = omega arith;
        same =
            let below : w.in-Add.register < reads = omega (arith, w.from.ensures) in
            sym (bad_register-passes steps reads after place _ _ here w.in-Add.is (lt-ltb _ _ below) w.reads-is) ∙ c.loop-step.invariant.same;
      }
    ]

pub returns : goal.returns
returns c = ap is_none (sym (sym c.loop-step.invariant.same ∙ ap (bad_register c.loop-step.reads c.loop-step.step-index) (drop_all c.loop-step.step-index c.args.steps.now c.loop-step-test.false)))

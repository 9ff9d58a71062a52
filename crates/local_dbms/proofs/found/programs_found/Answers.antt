use Rattle.std.proofs.Common.{◌≡◌, ◌<◌, ◌-◌, suc, cond, Option, Some, None, List, ◌∷◌, length, drop, sym, ap, ◌∙◌, arith}
use Rattle.mdb_base.specs.declared.acts.Step.{Step}
use Rattle.mdb_base.specs.Words.{some_of}
use Rattle.mdb_base.proofs.ForCallers.{drop_all, drop_before}
use Rattle.fed_rules.specs.declared.records.SiteRecord.{SiteRecord}
use Rattle.local_dbms.specs.Found.{found_programs, has_local, made_up}
use Rattle.local_dbms.specs.Stands.{program_in}
use Rattle.local_dbms.proofs.FoundLaws.{cond_or}
use Rattle.local_dbms.proofs.found.programs_found.Goals as goal

pub loop-left-init : goal.loop-left-init
loop-left-init c = record {
  within = omega arith;
  held = (λ tx. ap (λ (kept : List (Option (List Step))). program_in kept tx) c.new-programs.ensures.items ∙ sym (ap (λ (rs : List SiteRecord). found_programs rs tx) (drop_all c.args.records.now)));
}

pub loop-left-preserved : goal.loop-left-preserved
loop-left-preserved c =
    let records = c.args.records.now in
    let left = c.loop-left.left in
    let entry : SiteRecord = c.index-records-left.result in
    let next : left ≡ suc (left - 1) = omega arith in
    let below : left - 1 < length records = omega arith in
    let whole : drop (left - 1) records ≡ entry ∷ drop left records = drop_before records (left - 1) left entry next below c.index-records-left.is in
    record {
      within = omega arith;
      held = (λ tx.
          c.in_ok-note_record.ensures tx
          ∙ ap (λ o. cond (has_local tx entry) (Some made_up) o) (c.loop-left.invariant.held tx)
          ∙ cond_or (has_local tx entry) (some_of (has_local tx) (drop left records)) (Some made_up) None
          ∙ ap (λ (rs : List SiteRecord). found_programs rs tx) (sym whole));
    }

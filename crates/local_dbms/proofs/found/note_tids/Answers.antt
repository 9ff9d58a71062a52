use Rattle.std.proofs.Common.{◌≡◌, ◌<◌, ◌-◌, suc, cond, Some, ◌∷◌, length, drop, drop-cons, get_or, sym, ap, ◌∙◌, arith}
use Rattle.mdb_base.specs.declared.names.Tid.{Tid}
use Rattle.mdb_base.specs.Names.{same_tx}
use Rattle.mdb_base.specs.Words.{some_of}
use Rattle.mdb_base.proofs.ForCallers.{drop_all}
use Rattle.local_dbms.specs.Found.{made_up}
use Rattle.local_dbms.specs.Stands.{program_in}
use Rattle.local_dbms.proofs.FoundLaws.{cond_or}
use Rattle.local_dbms.proofs.found.note_tids.Goals as goal

pub loop-left-init : goal.loop-left-init
loop-left-init c = record {
  within = omega arith;
  held = (λ other. ap (λ ts. cond (some_of (λ (tid : Tid). same_tx tid.tx other) ts) (Some made_up) (program_in c.args.programs.now.items other)) (sym (drop_all c.args.tids.now)));
}

pub loop-left-preserved : goal.loop-left-preserved
loop-left-preserved c =
    let tids = c.args.tids.now in
    let left = c.loop-left.left in
    let none : Tid = record { tx = record { 0 = 0 }; attempt = 0 } in
    let tid : Tid = get_or tids (left - 1) none in
    let next : left ≡ suc (left - 1) = omega arith in
    let below : left - 1 < length tids = omega arith in
    let whole : drop (left - 1) tids ≡ tid ∷ drop left tids = drop-cons tids (left - 1) none below ∙ ap (λ n. tid ∷ drop n tids) (sym next) in
    record {
      within = omega arith;
      held = (λ other.
          c.in_ok-note_found.ensures other
          ∙ ap (λ o. cond (same_tx tid.tx other) (Some made_up) o) (c.loop-left.invariant.held other)
          ∙ cond_or (same_tx tid.tx other) (some_of (λ (t : Tid). same_tx t.tx other) (drop left tids)) (Some made_up) (program_in c.args.programs.now.items other)
          ∙ ap (λ ts. cond (some_of (λ (t : Tid). same_tx t.tx other) ts) (Some made_up) (program_in c.args.programs.now.items other)) (sym whole));
    }

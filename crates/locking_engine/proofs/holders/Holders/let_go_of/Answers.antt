use Rattle.std.proofs.Common.{cond, None, take, reverse, sym, ap, ◌∙◌, arith, List, Option}
use Rattle.std.specs.FinMap.{get}
use Rattle.mdb_base.specs.declared.names.Key.{Key}
use Rattle.mdb_base.specs.declared.names.Tid.{Tid}
use Rattle.fed_rules.specs.Runs.{Access}
use Rattle.run_book.proofs.ForCallers.{take_more-turned}
use Rattle.locking_engine.specs.Holders.{Holders, place_of, touches}
use Rattle.locking_engine.proofs.Places.{holder-gone, same_place}
use Rattle.locking_engine.proofs.Touched.{touched_more}
use Rattle.locking_engine.proofs.holders.Holders.let_go_of.Goals as goal

pub loop-access-preserved : goal.loop-access-preserved
loop-access-preserved c =
    let accesses = c.args.accesses.now in
    let before = reverse (take c.loop-access.access-index accesses) in
    let item = c.access-item.result in
    λ q.
    let left : List Access → Option Tid = λ acts. cond (touches acts c.args.age q) None (get c.args.self.now q) in
    ap (λ (m : Holders). get m q) c.let_go.ensures
    ∙ (holder-gone c.loop-access.self (place_of c.key.result c.args.age) q
    ∙ (ap (λ (o : Option Tid). cond (same_place q (place_of c.key.result c.args.age)) None o) (c.loop-access.invariant q)
    ∙ (ap (λ (k : Key). cond (same_place q (place_of k c.args.age)) None (left before)) c.key.ensures
    ∙ (touched_more item before c.args.age q (get c.args.self.now q)
    ∙ ap left (sym (take_more-turned accesses c.loop-access.access-index item (omega arith) c.access-item.is))))))

use Rattle.std.proofs.Common.{◌≡◌, Some, get_or, sym, ap, ◌∙◌}
use Rattle.std.proofs.lemmas.Bool.{cond-true, cond-false}
use Rattle.indexmap.specs.IndexMap.{values}
use Rattle.mdb_base.specs.declared.names.Tid.{Tid}
use Rattle.mdb_base.specs.Names.{same_tx}
use Rattle.global_exec.specs.Live.{Live}
use Rattle.global_exec.proofs.Firsts.{last_more, read_there}
use Rattle.global_exec.proofs.exec.last_of.Goals.{then-eq, else-eq}
use Rattle.global_exec.proofs.exec.last_of.Goals as goal

pub loop-place-preserved : goal.loop-place-preserved
loop-place-preserved c =
    let lives = values c.args.attempts.now in
    let item = c.at.result.now in
    let i = c.loop-place.place in
    let there = read_there lives i item c.at.ensures in
    let more = last_more (λ (t : Tid). same_tx t.tx c.args.tx) (λ (l : Live). l.tid) lives i item there.0 in
    let tid : c.tid-tid.result ≡ (get_or lives i item).tid = c.tid-tid.ensures ∙ ap (λ (l : Live). l.tid) (sym there.1) in
    let here : same_tx (get_or lives i item).tid.tx c.args.tx ≡ c.eq.result = ap (λ (t : Tid). same_tx t.tx c.args.tx) (sym tid) ∙ sym c.eq.ensures in
    elim c.if-eq.branch [
      | then-eq w ↦ w.last-is ∙ ap (λ (t : Tid). Some t) tid ∙ sym (more ∙ cond-true _ _ _ (here ∙ w.if-eq.true))
      | else-eq w ↦ w.last-is ∙ c.loop-place.invariant ∙ sym (more ∙ cond-false _ _ _ (here ∙ w.if-eq.false))
    ]

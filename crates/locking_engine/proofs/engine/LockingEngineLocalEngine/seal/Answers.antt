use Rattle.std.proofs.Common.{◌≡◌, ℕ, ◌+◌, ◌∷◌, Bool, is_some, cond, None, IfSome, Option, refl, sym, ap, ◌∙◌, subst}
use Rattle.std.proofs.lemmas.Option.{same_Some}
use Rattle.mdb_base.specs.declared.names.Engine.TheVariants.{Locking}
use Rattle.fed_rules.specs.Runs.{Seals}
use Rattle.run_book.specs.declared.counters.Counters.{Counters}
use Rattle.run_book.specs.Held.{Held}
use Rattle.run_book.proofs.ForCallers.{if_found, sealable_held}
use Rattle.locking_engine.specs.declared.engine.LockingEngine.{LockingEngine}
use Rattle.locking_engine.specs.Stands.{Stands}
use Rattle.locking_engine.proofs.Numbers.{next_ticket, stands_sealed}
use Rattle.locking_engine.proofs.engine.LockingEngineLocalEngine.seal.Goals as goal

pub seal-requires-clause-next : goal.seal-requires-clause-next
seal-requires-clause-next c =
    let old = c.args.self.now in
    let here = sealable_held Locking old.book.book c.requires.start c.requires.lines c.args.tid c.requires.stood.keeps.keeps c.requires.holds in
    if_found (λ h. IfSome h.run.ticket (λ t. t ≡ old.book.book.counters.published + 1)) _ here.held here.found
    (next_ticket old c.requires.start c.requires.lines c.args.tid here.held c.requires.stood here.found here.live)

pub returns-clause-sealed : goal.returns-clause-sealed
returns-clause-sealed c =
    let old = c.args.self.now in
    let book = old.book.book in
    let here = sealable_held Locking book c.requires.start c.requires.lines c.args.tid c.requires.stood.keeps.keeps c.requires.holds in
    let same = same_Some c.run-run.result.now here.held (sym c.run-run.ensures ∙ here.found) in
    let ticket = ap (λ (o : Option ℕ). is_some o) (c.ticket-ticket.ensures ∙ ap (λ (h : Held). h.run.ticket) same) in
    λ start lines s.
    subst (λ (e : LockingEngine). Stands e start (Seals c.args.tid (c.counters-number.result.counter + 1) ∷ lines)) (sym c.publish.ensures)
    (stands_sealed old _ start lines c.args.tid here.held (c.counters-number.result.counter + 1) s here.found here.live (ap (λ (m : Counters). m.counter + 1) c.counters-number.ensures)
    c.in_ok-seal.ensures.sealed c.in_ok-seal.ensures.room refl refl (ap (λ (b : Bool). cond b None old.taker) ticket))

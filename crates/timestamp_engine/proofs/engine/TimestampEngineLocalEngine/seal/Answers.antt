use Rattle.std.proofs.Common.{◌≡◌, ℕ, ◌+◌, Bool, is_some, cond, None, IfSome, Option, refl, sym, ap, ◌∙◌}
use Rattle.std.proofs.lemmas.Option.{same_Some}
use Rattle.mdb_base.specs.declared.names.Engine.TheVariants.{Timestamp}
use Rattle.fed_rules.specs.Runs.{Seals}
use Rattle.run_book.specs.Held.{Held}
use Rattle.run_book.proofs.ForCallers.{if_found, sealable_held}
use Rattle.run_book.specs.Takers.{Takers}
use Rattle.timestamp_engine.proofs.Lines.{at, next_ticket, right_seal, stands_called}
use Rattle.timestamp_engine.proofs.engine.TimestampEngineLocalEngine.seal.Goals as goal

pub seal-requires-clause-next : goal.seal-requires-clause-next
seal-requires-clause-next c =
    let old = c.args.self.now in
    let here = sealable_held Timestamp old.book.book c.requires.start c.requires.lines c.args.tid c.requires.stood.keeps.keeps c.requires.holds in
    if_found (λ h. IfSome h.run.ticket (λ t. t ≡ old.book.book.counters.published + 1)) _ here.held here.found
    (next_ticket old c.requires.start c.requires.lines c.requires.stood c.args.tid here.held here.found here.live)

pub returns-clause-sealed : goal.returns-clause-sealed
returns-clause-sealed c =
    let old = c.args.self.now in
    let book = old.book.book in
    let here = sealable_held Timestamp book c.requires.start c.requires.lines c.args.tid c.requires.stood.keeps.keeps c.requires.holds in
    let same = same_Some c.run-run.result.now here.held (sym c.run-run.ensures ∙ here.found) in
    let number = c.age-number.ensures ∙ ap (λ (h : Held). h.run.age) same in
    let ticket = ap (λ (o : Option ℕ). is_some o) (c.ticket-ticket.ensures ∙ ap (λ (h : Held). h.run.ticket) same) in
    λ start lines s.
    stands_called old _ start lines (Seals c.args.tid c.age-number.result) here.held.run s (right_seal old start lines s c.args.tid here.held here.found c.age-number.result here.live number)
    (at old start lines s c.args.tid here.held here.found) (c.in_ok-seal.ensures.sealed, c.in_ok-seal.ensures.room)
    (λ q. refl, c.publish.ensures ∙ ap (λ (b : Bool). let t : Takers = record old.takers { live = cond b None old.takers.live } in t) ticket)

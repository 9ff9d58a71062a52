-- Strict two-phase locking holds the ticket as an exclusive access until the sealing, so tickets come in the order of the numbers.
use Rattle.std.proofs.Common.{◌≡◌, ℕ, ◌+◌, ◌<◌, true, false, not, ◌&&◌, Some, is_some, List, [], ◌∷◌, refl, ap, ◌∙◌, arith}
use Rattle.std.proofs.lemmas.Bool.{and_from}
use Rattle.mdb_base.specs.declared.names.Tid.{Tid}
use Rattle.mdb_base.specs.declared.names.Engine.TheVariants.{Locking}
use Rattle.mdb_base.specs.declared.replies.Reply.TheVariants as Reply_is
use Rattle.mdb_base.proofs.ForCallers.{each_map, those_none}
use Rattle.fed_rules.specs.Runs.{Start, EngineLine, unended, counter, number, committed, published, is_sealed, has_ticket}
use Rattle.fed_rules.specs.Replies.{ticket_stop, ticket_holders, is_other, or_reply, seal_number}
use Rattle.fed_rules.specs.EngineLines.{IsRight, IsStart}
use Rattle.engine_laws.proofs.Runs.{each_unended}
use Rattle.engine_laws.proofs.Counted.{IsCounted, counted}
use Rattle.engine_laws.proofs.Granted.{wait_die_grants, is_other_run, and_rest}
use Rattle.engine_laws.proofs.Tickets.{IsInOrder, IsLastTaker, order_next, order_start}
use Rattle.engine_laws.proofs.Takers.{HasOneTaker, TakesFree, one_taker_next, one_taker_start}

takes_free : (start : Start) (older : List EngineLine) (line : EngineLine) → IsRight start older → start.kind ≡ Locking
    → TakesFree start older line
takes_free start older line right kind tid n run is_line live is =
    let grant = Reply_is.Ticket (published start older + 1) in
    let by_rule = ap (λ k. or_reply (ticket_stop k start older run) grant) kind in
    let free = wait_die_grants run (ticket_holders start older run) grant (Reply_is.Ticket n) refl (is ∙ by_rule) in
    let none = those_none (λ other. is_other run other && has_ticket other && not (is_sealed other)) (unended start older)
    free.0 in
    let next : n ≡ published start older + 1 = let e = free.1 in cc in (
      next,
      λ u b apart was taker.
          let failed = each_unended start older right
          (λ other. (is_other run other && has_ticket other && not (is_sealed other)) ≡ false) none u b was in
          let taker_too = and_from (is_other run b) (has_ticket b) (is_other_run start older right tid u run b apart live.0 was)
          (ap is_some taker.taken) in
          let sealed_too = and_rest (is_other run b && has_ticket b) (not (is_sealed b)) failed taker_too in
          let open_too : not (is_sealed b) ≡ true = ap (λ o. not (is_some o)) taker.open_run in
          cc,
    )

-- a number drawn at sealing is above all numbers
pub drawn_last : (start : Start) (lines : List EngineLine) (tid : Tid) (n t : ℕ) → IsCounted start lines
    → n ≡ counter start lines + 1
    → published start lines < t → IsLastTaker start lines tid n t
drawn_last start lines tid n t drawn next above = record {
  above = above;
  unended = λ u b other was m s sealed taken. let most = ((drawn.unended u b was).sealed m sealed).1 in omega arith;
  committed = each_map _ (λ d. (s : ℕ) → d.ticket ≡ Some s → number d < n) (λ d was s taken. let most = was.kept in omega arith)
      (committed start lines) drawn.committed;
}

pub locking_one_taker : (start : Start) (lines : List EngineLine) → start.kind ≡ Locking → IsRight start lines
    → HasOneTaker start lines
locking_one_taker start [] kind right = one_taker_start start
locking_one_taker start (line ∷ older) kind right =
    one_taker_next start older line right.0 (takes_free start older line right.1 kind)
    (locking_one_taker start older kind right.1)

pub locking_in_order : (start : Start) (lines : List EngineLine) → start.kind ≡ Locking → IsStart start → IsRight start lines
    → IsInOrder start lines
locking_in_order start [] kind begun right = order_start start begun
locking_in_order start (line ∷ older) kind begun right =
    order_next start older line right.0
    (λ tid n run is_line live stop next t taken.
    let is : t ≡ published start older + 1 = (locking_one_taker start older kind right.1).next tid run live.0 live.1 t taken in
    drawn_last start older tid n t (counted start older begun right.1) (next ∙ ap (λ k. seal_number k start older run) kind)
    (omega arith))
    (locking_in_order start older kind begun right.1)

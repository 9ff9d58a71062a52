-- What the takers say stops the taking of the ticket is what the rule says.
use Rattle.std.proofs.Common.{◌≡◌, ℕ, ◌⊎◌, true, not, ◌&&◌, is_some, Option, Some, None, List, inl, inr, sym, ap, ◌∙◌, subst}
use Rattle.std.specs.FinMap.{get}
use Rattle.mdb_base.specs.declared.names.Engine.{Engine}
use Rattle.mdb_base.specs.declared.names.Tid.{Tid}
use Rattle.mdb_base.specs.Words.{map_some, greatest}
use Rattle.mdb_base.proofs.ForCallers.{each_among}
use Rattle.fed_rules.specs.Runs.{Start, EngineLine, Run, run_at, committed, has_ticket, is_sealed}
use Rattle.fed_rules.specs.Replies.{age_of, younger_takers, older_takers}
use Rattle.fed_rules.specs.EngineLines.{IsStart, IsRight}
use Rattle.engine_laws.specs.ReplyLaws.{IsUnended, IsAmong, HasTaken, IsYoungerTaker, IsOlderTaker}
use Rattle.engine_laws.proofs.ForCallers.{IsByAge, age_one_taker, all_drew, drew_taker, lists_older_takers, lists_younger_takers, one_taker, same_age, taken_from, tid_is}
use Rattle.run_book.specs.declared.rival.Rival.{Rival}
use Rattle.run_book.specs.Rivals.{rival_by}
use Rattle.run_book.specs.Ages.{younger_of}
use Rattle.run_book.specs.Takers.{ByAge, takes_ticket, IsYoungestOf}
use Rattle.run_book.specs.Stops.{above, below, stop_by}
use Rattle.run_book.specs.AgeLines.{unended_takers, live_taker, youngest_committed}
use Rattle.run_book.specs.AgeLaws.{StopsTaking}
use Rattle.run_book.proofs.Youngest.{IsUpTo, up_left, up_right, one_of}
use Rattle.run_book.proofs.Listed.{youngest_listed, youngest_above, youngest_below, stop_by-late_or_wait}
use Rattle.run_book.proofs.AgeCommits.{committed_up_to, committed_is_one}
use Rattle.run_book.proofs.Tickets.{ticketed_is, is_listed}
use Rattle.run_book.proofs.Live.{taker_is, live_is, live_of}

module _ (kind : Engine) (by : IsByAge kind) (start : Start) (lines : List EngineLine) (is_kind : start.kind ≡ kind) (begun : IsStart start) (right : IsRight start lines) where
  abbrev top : Option Rival
  top = youngest_committed has_ticket start lines

  -- a run that has taken the ticket and isn't aborted
  abbrev HasIt : Run → Type 0
  HasIt run = (IsUnended start lines run ⊎ IsAmong run (committed start lines)) × HasTaken run

  up_to : (o : Option Rival) (run : Run) → IsYoungestOf (unended_takers start lines) o → HasIt run → IsUpTo run.age (younger_of o top)
  up_to o run youngest (inl at, taken) = up_left run.age o top (by_youngest o youngest)
    where
      listed : get (unended_takers start lines) run.age ≡ Some run.tid
      listed = is_listed start lines begun right run.tid run at (ap (λ (x : Option ℕ). is_some x) taken.1)

      by_youngest : (o : Option Rival) → IsYoungestOf (unended_takers start lines) o → IsUpTo run.age o
      by_youngest None none = let bad = sym (none run.age) ∙ listed in cc
      by_youngest (Some rival) most = most.1 run.age run.tid listed
  up_to o run youngest (inr among, taken) =
      up_right run.age o top (each_among (λ r. has_ticket r ≡ true → IsUpTo r.age top) run (committed start lines) (committed_up_to has_ticket start lines right) among (ap (λ (x : Option ℕ). is_some x) taken.1))

  has_it : (o : Option Rival) → IsYoungestOf (unended_takers start lines) o → (rival : Rival) → younger_of o top ≡ Some rival → (run : Run) × HasIt run × (run.tid ≡ rival.tid) × (run.age ≡ rival.rank)
  has_it o youngest rival is = elim (one_of o top rival is) [
    | inl mine ↦
        let most : IsYoungestOf (unended_takers start lines) (Some rival) = subst (λ (x : Option Rival). IsYoungestOf (unended_takers start lines) x) mine youngest in
        let h = ticketed_is start lines rival.rank rival.tid begun right most.0 in
        let named = tid_is start lines right rival.tid h.run h.at in
        (h.run, (inl (ap (λ (t : Tid). run_at start lines t) named ∙ h.at), taken_from h.run h.taken), named, h.aged)
    | inr last ↦
        let h = committed_is_one has_ticket start lines rival right last in
        (h.run, (inr h.among, taken_from h.run h.passes), h.tid, h.age)
  ]

  younger_is : (o : Option Rival) (me : Run) → IsYoungestOf (unended_takers start lines) o → above me.age (younger_of o top) ≡ map_some (rival_by age_of) (greatest age_of (younger_takers start lines me))
  younger_is o me youngest =
      let drew = all_drew start lines begun right in
      youngest_listed (IsYoungerTaker start lines me) (younger_takers start lines me) _ (lists_younger_takers start lines me right)
      (λ a b h g. same_age start lines a b (drew_taker start lines me a drew h) (drew_taker start lines me b drew g))
      (youngest_above (IsYoungerTaker start lines me) HasIt me.age (younger_of o top) (λ run h. (h.younger, (h.counts, h.taken))) (λ run less q. record { younger = less; counts = q.0; taken = q.1 })
      (λ run q. up_to o run youngest q) (has_it o youngest))

  -- the live run that has taken the ticket
  abbrev HasLive : Run → Type 0
  HasLive run = IsUnended start lines run × HasTaken run × (run.sealed ≡ None)

  takes_it : (run : Run) → HasLive run → takes_ticket run ≡ true
  takes_it run q = ap (λ (o : Option ℕ). is_some o && not (is_sealed run)) q.1.1 ∙ ap (λ (o : Option ℕ). not (is_some o)) q.2

  older_is : (me : Run) → below me.age (live_taker start lines) ≡ map_some (rival_by age_of) (greatest age_of (older_takers start lines me))
  older_is me =
      let one = age_one_taker kind by start lines is_kind begun right in
      youngest_listed (IsOlderTaker start lines me) (older_takers start lines me) _ (lists_older_takers start lines me right)
      (λ a b h g same. one_taker start lines me a b one h g)
      (youngest_below (IsOlderTaker start lines me) HasLive me.age (live_taker start lines) (λ run h. (h.older, (h.unended, h.taken, h.open_run)))
      (λ run less q. record { unended = q.0; older = less; taken = q.1; open_run = q.2 })
      (λ run q. live_of kind start lines run.tid run by is_kind begun right q.0 (takes_it run q))
      (λ rival is.
      let h = live_is start lines rival right is in
      let named = tid_is start lines right rival.tid h.run h.at in
      let taker = taker_is h.run h.taken in
      (h.run, (ap (λ (t : Tid). run_at start lines t) named ∙ h.at, (taker.ticket, taker.taken), taker.open_run), named, h.age)))

pub stops_taking : (kind : Engine) → IsByAge kind → StopsTaking kind
stops_taking kind by ages all start lines me stop is_kind begun right keeps (o, youngest, is) =
    let mine : IsYoungestOf (unended_takers start lines) o = subst (λ (runs : ByAge). IsYoungestOf runs o) keeps.unended youngest in
    is ∙ (ap (λ (x : Option Rival). stop_by (above me.age (younger_of o x)) (below me.age all.live)) keeps.committed
    ∙ (ap (λ (x : Option Rival). stop_by x (below me.age all.live)) (younger_is kind by start lines is_kind begun right o me mine)
    ∙ (ap (λ (x : Option Rival). stop_by (map_some (rival_by age_of) (greatest age_of (younger_takers start lines me))) (below me.age x)) keeps.live
    ∙ (ap (λ (x : Option Rival). stop_by (map_some (rival_by age_of) (greatest age_of (younger_takers start lines me))) x) (older_is kind by start lines is_kind begun right me)
    ∙ stop_by-late_or_wait (greatest age_of (younger_takers start lines me)) (greatest age_of (older_takers start lines me))))))

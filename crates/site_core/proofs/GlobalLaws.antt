-- A book counts no attempt of a global transaction, and sealing one keeps the book in order.
use Rattle.std.proofs.Common.{◌≡◌, ℕ, ◌==◌, ◌||◌, Bool, true, false, cond, is_some, IsSome, Option, Some, None, [], ◌∷◌, length, refl, sym, ap, ◌∙◌}
use Rattle.std.specs.Prelude.{nat_le}
use Rattle.std.specs.FinMap.{get}
use Rattle.std.proofs.lemmas.Bool.{cond-true, cond-false}
use Rattle.mdb_base.specs.declared.names.Tid.{Tid}
use Rattle.mdb_base.specs.declared.names.Tx.{Tx}
use Rattle.mdb_base.specs.Names.{same_tid}
use Rattle.mdb_base.proofs.ForCallers.{same_tid-equal}
use Rattle.fed_rules.specs.declared.answers.Answer.TheVariants as Say
use Rattle.fed_rules.specs.declared.events.SiteEvent.{SiteEvent}
use Rattle.fed_rules.specs.declared.events.SiteEvent.TheVariants as Ev
use Rattle.fed_rules.specs.declared.messages.ToSite.TheVariants as To
use Rattle.fed_rules.specs.Happenings.{Trip, is_down, stopped, tripped}
use Rattle.fed_rules.specs.Site as Site
use Rattle.fed_rules.specs.Site.{answered, of_abort, of_act, of_ask, of_back, of_begin, of_check, of_commit, of_decide, of_drop, of_fate, of_give, of_prepare, of_take, of_work, site_line, unless_tripped}
use Rattle.fed_rules.specs.SitePast.{SiteHappening, SitePast, attempts_of, begins_tx, disk, trip}
use Rattle.fed_rules.specs.SiteRecords.{Home, site_frame}
use Rattle.site_book.specs.declared.progress.Progress.{Progress}
use Rattle.site_book.specs.declared.progress.Progress.TheVariants as Is
use Rattle.site_book.specs.Book.{Book, begun_in, count_of, live_in, live_part, running_in, seals}
use Rattle.site_book.proofs.ForCallers.{get-put_tid}
use Rattle.site_core.specs.Made.{IsGoingOn, is_of_local, was_local}
use Rattle.site_core.specs.Order.{IsInOrder}
use Rattle.site_core.proofs.BegunLaws.{none_begun}

-- the book counts none of a transaction that no event of a local attempt named
pub none_counted : (book : Book) (home : Home) (past : SitePast) (tx : Tx) → IsGoingOn home past → ((t : Tx) → begun_in book t ≡ attempts_of past t) → was_local tx past ≡ false → get book.again tx ≡ None
none_counted book home past tx made begun e = from (get book.again tx) (begun tx ∙ none_begun home past tx made e) where
  from : (o : Option ℕ) → count_of o ≡ 0 → o ≡ None
  from None f = refl
  from (Some n) f = cc

-- the sealing of an attempt of such a transaction keeps a book in order
pub order_seals : (book : Book) (tid : Tid) → IsInOrder book → get book.again tid.tx ≡ None → IsInOrder (seals tid book)
order_seals book tid o none = record {
  own = o.own;
  live = (λ tx t e. lives tx t e (same_tid tid t) refl);
  running = (λ u there again. runs u (same_tid tid u) refl there again);
  counted = o.counted;
} where
  not_running : (tx : Tx) → running_in book tx ≡ Some tid → ⊥
  not_running tx e =
      let there : is_some (get book.again tid.tx) ≡ true = ap (λ (x : Tx). is_some (get book.again x)) (o.own tx tid e) ∙ o.counted tx tid e in
      let not_there : is_some (get book.again tid.tx) ≡ false = ap is_some none in
      cc

  lives : (tx : Tx) (t : Tid) → running_in book tx ≡ Some t → (b : Bool) → same_tid tid t ≡ b → IsSome (live_in (seals tid book) t)
  lives tx t e true same = absurd (not_running tx (e ∙ ap (λ (x : Tid). Some x) (sym (same_tid-equal tid t same))))
  lives tx t e false same = ap (λ (p : Option Progress). is_some (live_part p)) (get-put_tid book.attempts tid t Is.Sealed ∙ cond-false _ _ _ same) ∙ o.live tx t e

  runs : (u : Tid) (b : Bool) → same_tid tid u ≡ b → IsSome (live_in (seals tid book) u) → IsSome (get book.again u.tx) → running_in book u.tx ≡ Some u
  runs u true same there again =
      let dead : is_some (live_in (seals tid book) u) ≡ false = ap (λ (p : Option Progress). is_some (live_part p)) (get-put_tid book.attempts tid u Is.Sealed ∙ cond-true _ _ _ same) in
      absurd (differ (is_some (live_in (seals tid book) u)) there dead)
    where
      differ : (a : Bool) → a ≡ true → a ≡ false → ⊥
      differ a e f = cc
  runs u false same there again = o.running u (sym (ap (λ (p : Option Progress). is_some (live_part p)) (get-put_tid book.attempts tid u Is.Sealed ∙ cond-false _ _ _ same)) ∙ there) again

-- What a stop leaves in doubt makes a good start, and commits in the new epoch leave the table that they would have left before.
use Rattle.std.proofs.Common.{◌≡◌, ◌<◌, ◌≤◌, Bool, true, false, cond, ◌||◌, Some, List, [], ◌∷◌, refl, sym, ap, ◌∙◌, subst, inl, inr, arith}
use Rattle.std.specs.Prelude.{nat_lt}
use Rattle.mdb_base.specs.declared.names.Tid.{Tid}
use Rattle.mdb_base.specs.declared.names.Key.{Key}
use Rattle.mdb_base.specs.declared.names.Engine.{Engine}
use Rattle.mdb_base.specs.declared.rows.Put.{Put}
use Rattle.mdb_base.specs.Names.{same_tid, same_key}
use Rattle.mdb_base.specs.Rows.{with_row}
use Rattle.mdb_base.specs.Words.{Each}
use Rattle.mdb_base.proofs.ForCallers.{each_with_row, same_key-equal, same_tid-equal, same_tid-sym}
use Rattle.fed_rules.specs.declared.runs.Kept.{Kept}
use Rattle.fed_rules.specs.Runs.{Start, EngineLine, Access, Got, Wrote, Run, run_at, published, written, restored, restored_at, table, after, puts_of}
use Rattle.fed_rules.specs.Replies.{Drawn, rule}
use Rattle.fed_rules.specs.EngineLines.{IsRight, IsStart, IsNumbered, AreApart, AllApart, has_row}
use Rattle.engine_laws.specs.Unended.{has_write, IsClear}
use Rattle.engine_laws.specs.Laws.{AlwaysBy, with_commits, AreSealed, IsLeft, EachOnce, IsRestart, MayRestart}
use Rattle.engine_laws.proofs.Tables.{after_same}
use Rattle.engine_laws.proofs.Restored.{rows_apart}
use Rattle.engine_laws.proofs.Rows.{after_puts}
use Rattle.engine_laws.proofs.Runs.{number_is}
use Rattle.engine_laws.proofs.Counted.{IsCounted, counted}
use Rattle.engine_laws.proofs.Sound.{IsPlaced, IsSound, IsApart}
use Rattle.engine_laws.proofs.Tickets.{IsInOrder, Agrees}
use Rattle.engine_laws.proofs.Commits.{run_beside, commits_right, writes_last}

or_over : (x y z : Bool) → (y || (x || z)) ≡ (x || (y || z))
or_over true true z = refl
or_over true false z = refl
or_over false y z = refl

or_again : (x y z : Bool) → y ≡ x → (x || z) ≡ (x || (y || z))
or_again true y z e = refl
or_again false true z e = cc
or_again false false z e = refl

-- the keys of the rows with one more
has_row_with_row : (key : Key) (row : Put) (puts : List Put)
    → has_row key (with_row row puts) ≡ (same_key row.key key || has_row key puts)
has_row_with_row key row [] = refl
has_row_with_row key row (other ∷ puts) = by_same (same_key other.key row.key) refl (has_row_with_row key row puts)
  where
    by_less : (b : Bool) → has_row key (with_row row puts) ≡ (same_key row.key key || has_row key puts)
        → has_row key (cond b (other ∷ with_row row puts) (row ∷ other ∷ puts))
        ≡ (same_key row.key key || (same_key other.key key || has_row key puts))
    by_less true rest =
        ap (λ b. same_key other.key key || b) rest ∙ or_over (same_key row.key key) (same_key other.key key) (has_row key puts)
    by_less false rest = refl

    by_same : (b : Bool) → same_key other.key row.key ≡ b
        → has_row key (with_row row puts) ≡ (same_key row.key key || has_row key puts)
        → has_row key (cond b (row ∷ puts) (cond (nat_lt other.key.0 row.key.0) (other ∷ with_row row puts) (row ∷ other ∷ puts)))
        ≡ (same_key row.key key || (same_key other.key key || has_row key puts))
    by_same true same rest =
        or_again (same_key row.key key) (same_key other.key key) (has_row key puts)
        (ap (λ k. same_key k key) (same_key-equal other.key row.key same))
    by_same false apart rest = by_less (nat_lt other.key.0 row.key.0) rest

-- a key is among the last writes where it is written
pub has_row_puts : (key : Key) (acts : List Access) → has_row key (puts_of acts) ≡ has_write key acts
has_row_puts key [] = refl
has_row_puts key (Got k value ∷ acts) = has_row_puts key acts
has_row_puts key (Wrote k value ∷ acts) =
    has_row_with_row key (record { key = k; value = value }) (puts_of acts)
    ∙ ap (λ b. same_key k key || b) (has_row_puts key acts)

-- last writes of accesses that are clear of others have no key that those write
pub puts_clear : (first acts : List Access) → IsClear first acts
    → Each (λ put. has_row put.key (puts_of first) ≡ false) (puts_of acts)
puts_clear first [] clear = tt
puts_clear first (Got key value ∷ acts) clear = puts_clear first acts clear.1
puts_clear first (Wrote key value ∷ acts) clear =
    each_with_row (λ put. has_row put.key (puts_of first) ≡ false) (record { key = key; value = value }) (puts_of acts)
    (has_row_puts key first ∙ clear.0) (puts_clear first acts clear.1)

-- each kept one is numbered in the new epoch
left_numbered : (drawn : Drawn) (start : Start) (lines : List EngineLine) (next : Start) (kept : Kept) → IsCounted start lines
    → IsInOrder start lines
    → IsLeft start lines kept → kept.number ≤ next.counter → published start lines ≤ next.published → IsNumbered next kept
left_numbered drawn start lines next kept counts order left counted to_published =
    let number = (counts.unended kept.tid left.run left.sealed.0).sealed kept.number left.sealed.1 in
    let ticket = order.unended kept.tid left.run left.sealed.0 kept.number left.sealed.1 kept.ticket left.ticket in
    record {
      number_some = number.0;
      number_kept = counted;
      ticket_some = order.some kept.tid left.run left.sealed.0 kept.number left.sealed.1 kept.ticket left.ticket;
      ticket_kept = omega arith;
    }

-- each two kept ones are apart
left_apart : (drawn : Drawn) (start : Start) (lines : List EngineLine) (a b : Kept) → IsSound drawn start lines
    → IsInOrder start lines → IsPlaced drawn start lines
    → IsLeft start lines a → IsLeft start lines b → same_tid a.tid b.tid ≡ false → AreApart a b
left_apart drawn start lines a b sound order placed left_a left_b tids = by_place
    (sound.apart a.tid b.tid left_a.run left_b.run tids left_a.sealed.0 left_b.sealed.0 a.number b.number
    (placed a.tid left_a.run left_a.sealed.0 a.number left_a.sealed.1)
    (placed b.tid left_b.run left_b.sealed.0 b.number left_b.sealed.1))
  where
    pair : Agrees left_a.run left_b.run × Agrees left_b.run left_a.run
    pair = (
      order.apart a.tid b.tid left_a.run left_b.run tids left_a.sealed.0 left_b.sealed.0 a.number b.number left_a.sealed.1
          left_b.sealed.1,
      order.apart b.tid a.tid left_b.run left_a.run (same_tid-sym b.tid a.tid ∙ tids) left_b.sealed.0 left_a.sealed.0 b.number
          a.number left_b.sealed.1 left_a.sealed.1,
    )

    less : (x y : Kept) (left_x : IsLeft start lines x) (left_y : IsLeft start lines y) → x.number < y.number
        → Agrees left_x.run left_y.run → x.ticket < y.ticket
    less x y left_x left_y first agrees =
        let is_x = number_is left_x.run x.number left_x.sealed.1 in
        let is_y = number_is left_y.run y.number left_y.sealed.1 in
        agrees (omega arith) y.ticket x.ticket left_y.ticket left_x.ticket

    keys : Each (λ put. has_row put.key (puts_of left_b.run.acts) ≡ false) (puts_of left_a.run.acts)
        → Each (λ put. has_row put.key b.writes ≡ false) a.writes
    keys h =
        subst (Each (λ put. has_row put.key b.writes ≡ false)) (sym left_a.writes)
        (subst (λ puts. Each (λ put. has_row put.key puts ≡ false) (puts_of left_a.run.acts)) (sym left_b.writes) h)

    by_place : IsApart left_a.run.acts a.number left_b.run.acts b.number → AreApart a b
    by_place (inl (first, clear)) = record {
      tids = tids;
      keys = keys (rows_apart (puts_of left_b.run.acts) (puts_of left_a.run.acts)
          (puts_clear left_a.run.acts left_b.run.acts clear));
      order = inl (first, less a b left_a left_b first pair.0);
    }
    by_place (inr (first, clear)) = record {
      tids = tids;
      keys = keys (puts_clear left_b.run.acts left_a.run.acts clear);
      order = inr (first, less b a left_b left_a first pair.1);
    }

all_numbered : (drawn : Drawn) (start : Start) (lines : List EngineLine) (next : Start) (doubtful : List Kept)
    → IsCounted start lines → IsInOrder start lines
    → Each (IsLeft start lines) doubtful → Each (λ kept. kept.number ≤ next.counter) doubtful
    → published start lines ≤ next.published → Each (IsNumbered next) doubtful
all_numbered drawn start lines next [] counts order left most to_published = tt
all_numbered drawn start lines next (kept ∷ more) counts order left most to_published = (
  left_numbered drawn start lines next kept counts order left.0 most.0 to_published,
  all_numbered drawn start lines next more counts order left.1 most.1 to_published,
)

all_apart : (drawn : Drawn) (start : Start) (lines : List EngineLine) (doubtful : List Kept) → IsSound drawn start lines
    → IsInOrder start lines → IsPlaced drawn start lines
    → Each (IsLeft start lines) doubtful → EachOnce doubtful → AllApart doubtful
all_apart drawn start lines [] sound order placed left once = tt
all_apart drawn start lines (kept ∷ more) sound order placed left once =
    (with_more more left.1 once.0, all_apart drawn start lines more sound order placed left.1 once.1)
  where
    with_more : (others : List Kept) → Each (IsLeft start lines) others
        → Each (λ other. same_tid kept.tid other.tid ≡ false) others → Each (AreApart kept) others
    with_more [] left_others tids = tt
    with_more (other ∷ others) left_others tids = (
      left_apart drawn start lines kept other sound order placed left.0 left_others.0 tids.0,
      with_more others left_others.1
          tids.1,
    )

-- what a stop leaves in doubt makes a good start
good_restart : (drawn : Drawn) (start : Start) (lines : List EngineLine) (next : Start) → IsCounted start lines
    → IsSound drawn start lines → IsInOrder start lines → IsPlaced drawn start lines
    → IsRestart start lines next → IsStart next
good_restart drawn start lines next counts sound order placed restart = record {
  numbered = all_numbered drawn start lines next next.doubtful counts order restart.left restart.counter restart.published;
  apart = all_apart drawn start lines next.doubtful sound order placed restart.left restart.once;
}

-- which kept one a restored run is of
pub record IsRestoredOf (start : Start) (lines : List EngineLine) (tid : Tid) (run : Run) : Type 0 where
  pub kept : Kept
  pub left : IsLeft start lines kept
  pub tid_same : kept.tid ≡ tid
  pub is : restored kept ≡ run

pub restored_of : (start : Start) (lines : List EngineLine) (doubtful : List Kept) (tid : Tid) (run : Run)
    → Each (IsLeft start lines) doubtful
    → restored_at doubtful tid ≡ Some run → IsRestoredOf start lines tid run
restored_of start lines [] tid run left at = cc
restored_of start lines (kept ∷ more) tid run left at =
    by_test (same_tid kept.tid tid) refl at (restored_of start lines more tid run left.1)
  where
    by_test : (b : Bool) → same_tid kept.tid tid ≡ b → cond b (Some (restored kept)) (restored_at more tid) ≡ Some run
        → (restored_at more tid ≡ Some run → IsRestoredOf start lines tid run) → IsRestoredOf start lines tid run
    by_test true same at rest = record { kept = kept; left = left.0; tid_same = same_tid-equal kept.tid tid same; is = cc }
    by_test false apart at rest = rest at

-- the restored runs were sealed before the stop
sealed_before : (start : Start) (lines : List EngineLine) (next : Start) → Each (IsLeft start lines) next.doubtful
    → (tids : List Tid) → AreSealed next [] tids → AreSealed start lines tids
sealed_before start lines next left [] sealed = tt
sealed_before start lines next left (tid ∷ tids) (run, n, sealed, apart, more) =
    let it = restored_of start lines next.doubtful tid run left sealed.0 in (
      it.left.run,
      it.kept.number,
      (ap (run_at start lines) (sym it.tid_same) ∙ it.left.sealed.0, it.left.sealed.1),
      apart,
      sealed_before start lines next left tids more,
    )

same_table : (kind : Engine) (start : Start) (lines : List EngineLine) (next : Start) (key : Key) → AlwaysBy kind (IsSound (rule kind).drawn)
    → AlwaysBy kind (IsPlaced (rule kind).drawn)
    → start.kind ≡ kind → IsStart start → IsRight start lines → IsStart next → IsRestart start lines next
    → (tids : List Tid) → AreSealed next [] tids
    → table next (with_commits tids []) key ≡ table start (with_commits tids lines) key
same_table kind start lines next key sound placed by begun right good restart [] sealed =
    restart.rows key
same_table kind start lines next key sound placed by begun right good restart (tid ∷ tids) (run, n, sealed, apart, more) =
    let it = restored_of start lines next.doubtful tid run restart.left sealed.0 in
    let before = sealed_before start lines next restart.left tids more in
    let older = with_commits tids lines in
    let newer = with_commits tids [] in
    let older_right = commits_right start lines tids right before in
    let newer_right = commits_right next [] tids tt more in
    let next_by = restart.kind ∙ by in
    let at_newer : run_at next newer tid ≡ Some run = run_beside next [] tid tids apart ∙ sealed.0 in
    let at_older : run_at start older tid ≡ Some it.left.run =
    run_beside start lines tid tids apart ∙ ap (run_at start lines) (sym it.tid_same) ∙ it.left.sealed.0 in
    let new_table = writes_last (rule kind).drawn next newer tid run n key (sound next newer next_by good newer_right) at_newer sealed.1
    (placed next newer next_by good newer_right tid run at_newer n sealed.1) in
    let old_table = writes_last (rule kind).drawn start older tid it.left.run it.kept.number key (sound start older by begun older_right)
    at_older it.left.sealed.1
    (placed start older by begun older_right tid it.left.run at_older it.kept.number it.left.sealed.1) in
    let acts : run.acts ≡ written (puts_of it.left.run.acts) = ap (λ r. r.acts) (sym it.is) ∙ ap written it.left.writes in
    new_table
    ∙ ap (λ xs. after xs (table next newer) key) acts
    ∙ after_puts it.left.run.acts (table next newer) key
    ∙ after_same it.left.run.acts (table next newer) (table start older) key
    (same_table kind start lines next key sound placed by begun right good restart tids more)
    ∙ sym old_table

-- each restart is a good start, and commits as before
pub may_restart : (kind : Engine) → AlwaysBy kind (IsSound (rule kind).drawn) → AlwaysBy kind IsInOrder → AlwaysBy kind (IsPlaced (rule kind).drawn)
    → AlwaysBy kind MayRestart
may_restart kind sound order placed start lines by begun right next restart =
    let good = good_restart (rule kind).drawn start lines next (counted start lines begun right) (sound start lines by begun right)
    (order start lines by begun right)
    (placed start lines by begun right) restart in (
      good,
      λ tids sealed. (
        sealed_before start lines next restart.left tids sealed,
        λ key. same_table kind start lines next key sound placed by begun right good restart tids sealed,
      ),
    )

-- A validating engine through each line: its book, and its index of writers.
use Rattle.std.proofs.Common.{◌≡◌, ℕ, ◌+◌, ◌≤◌, Bool, true, false, ◌||◌, cond, Option, Some, None, IfSome, List, ◌∷◌, Result, Ok, Err, IfErr, refl, sym, ap, ◌∙◌, subst, arith}
use Rattle.std.proofs.lemmas.Option.{same_Some}
use Rattle.mdb_base.specs.declared.names.Engine.{Engine}
use Rattle.mdb_base.specs.declared.names.Engine.TheVariants.{Validation}
use Rattle.mdb_base.specs.declared.names.Key.{Key}
use Rattle.mdb_base.specs.declared.names.Tid.{Tid}
use Rattle.mdb_base.specs.declared.acts.PlainAct.{PlainAct}
use Rattle.mdb_base.specs.declared.acts.PlainAct.TheVariants.{Read, Write}
use Rattle.mdb_base.specs.declared.replies.Reply.{Reply}
use Rattle.mdb_base.specs.declared.replies.Reply.TheVariants.{Done, Value, Ticket}
use Rattle.mdb_base.specs.declared.replies.Why.{Why}
use Rattle.mdb_base.specs.Names.{same_key}
use Rattle.mdb_base.proofs.ForCallers.{cond_same, same_key-equal}
use Rattle.fed_rules.specs.Runs.{Start, EngineLine, Begins, Acts, Takes, Seals, Refuses, Commits, Aborts, Access, Got, Wrote, Run, tid_of, begun, changed, run_at, counter, number, published, after}
use Rattle.fed_rules.specs.Replies.{has_written, access_stop, ticket_stop, seal_stop, seal_number, granted, granted_by, rule, or_reply}
use Rattle.fed_rules.specs.EngineLines.{IsFree, IsRightLine}
use Rattle.engine_contract.specs.declared.seal_err.SealErr.{SealErr}
use Rattle.engine_contract.specs.declared.seal_err.SealErr.TheVariants as Err_is
use Rattle.engine_contract.specs.Calls.{HidesNone, PassesRule}
use Rattle.engine_contract.specs.Past.{EachPast}
use Rattle.engine_laws.proofs.ForCallers.{tid_is}
use Rattle.fed_rules.proofs.ForCallers.{run_at_other, run_at_own}
use Rattle.run_book.specs.declared.counters.Counters.{Counters}
use Rattle.run_book.specs.Held.{Held, held_in}
use Rattle.run_book.specs.Book.{Book, begins, unbegins, grants, tickets, seals, unseals, drops, commits, table_in, taken_by}
use Rattle.run_book.specs.Keeps.{Keeps, KeepsRoomy}
use Rattle.run_book.proofs.ForCallers.{after-table, calls_well, run_at-held, unbegins_well, unseals_well}
use Rattle.validation_engine.specs.declared.index.Ended.{Ended}
use Rattle.validation_engine.specs.declared.index.Change.TheVariants.{Sealed, Withdrawn, Committed}
use Rattle.validation_engine.specs.declared.engine.ValidationEngine.{ValidationEngine}
use Rattle.validation_engine.specs.Index.{Index, sealed_at, last_at, has_entry, with_key, IsChanged}
use Rattle.validation_engine.specs.Rule.{seal_stop_by}
use Rattle.validation_engine.specs.Stands.{last_writer, Stands}
use Rattle.validation_engine.proofs.Bad.{seal_stop-rule, passed_ticket}
use Rattle.validation_engine.proofs.Indexed.{IsUnsealed, IsKept, unsealed_live, unsealed_none, kept_added, added_has, sealed-changed, last-changed, entries-changed, sealed_idle, sealed_withdrawn, sealed_on, entries_on}
use Rattle.validation_engine.proofs.Past.{one_writer, last_committed}

-- an index that is kept, where the book is
pub stands_kept : (old new : ValidationEngine) (start : Start) (lines : List EngineLine) → Stands old start lines → new.book.book ≡ old.book.book → old.book.room ≤ new.book.room → IsKept old.index new.index → Stands new start lines
stands_kept old new start lines s book room kept =
    let had = s.keeps.room in
    record {
      keeps = record { keeps = subst (λ (b : Book). Keeps Validation b start lines) (sym book) s.keeps.keeps; room = omega arith };
      sealed = record {
        there = λ key tid n is. s.sealed.there key tid n (sym (kept.sealed key) ∙ is);
        back = λ key tid n w. kept.sealed key ∙ s.sealed.back key tid n w;
      };
      last = λ key. kept.last key ∙ s.last key;
      entries = λ u run key at done. kept.entries key (s.entries u run key at done);
    }

-- a line before and behind which its run isn't sealed
pub stands_idle : (old new : ValidationEngine) (start : Start) (older : List EngineLine) (line : EngineLine) → Stands old start older → IsUnsealed (run_at start older (tid_of line)) → IsUnsealed (run_at start (line ∷ older) (tid_of line)) →
    KeepsRoomy Validation new.book start (line ∷ older) → IsKept old.index new.index → ((key : Key) → last_writer start (line ∷ older) key ≡ last_writer start older key) →
    ((run : Run) (key : Key) → run_at start (line ∷ older) (tid_of line) ≡ Some run → has_written key run ≡ true → has_entry new.index key ≡ true) → Stands new start (line ∷ older)
stands_idle old new start older line s before after keeps kept still own = record {
  keeps = keeps;
  sealed = sealed_idle (run_at start older) (run_at start (line ∷ older)) (tid_of line) (λ u e. run_at_other start older line u e) old.index new.index s.sealed before after kept.sealed;
  last = λ key. kept.last key ∙ (s.last key ∙ sym (still key));
  entries = entries_on (run_at start older) (run_at start (line ∷ older)) (tid_of line) (λ u e. run_at_other start older line u e) old.index new.index s.entries kept.entries own;
}

-- a run begins, and its begin is taken back
pub stands_begins : (old new : ValidationEngine) (start : Start) (older : List EngineLine) (tid : Tid) (n : ℕ) → Stands old start older → IsFree start older tid → n ≡ old.book.book.counters.counter + 1 →
    new.book.book ≡ begins tid old.book.book → old.book.room ≤ new.book.room → IsKept old.index new.index → Stands new start (Begins tid n ∷ older)
stands_begins old new start older tid n s free number book room kept =
    let line = Begins tid n in
    let right : IsRightLine start older line = (free, number ∙ ap (λ (m : Counters). m.counter + 1) s.keeps.keeps.counters) in
    let own : run_at start (line ∷ older) tid ≡ Some (begun tid n) = run_at_own start older line None free in
    stands_idle old new start older line s (unsealed_none _ free) (unsealed_live _ (begun tid n) own refl) (calls_well Validation old.book new.book start older line s.keeps right (book, room)) kept (λ key. refl)
    (λ run key at done. let bad : false ≡ true = ap (λ (r : Run). has_written key r) (same_Some (begun tid n) run (sym own ∙ at)) ∙ done in cc)

pub stands_unbegins : (old new : ValidationEngine) (start : Start) (older : List EngineLine) (tid : Tid) (n : ℕ) → Stands old start (Begins tid n ∷ older) → new.book.book ≡ unbegins tid old.book.book → old.book.room ≤ new.book.room →
    IsKept old.index new.index → Stands new start older
stands_unbegins old new start older tid n s book room kept =
    let line = Begins tid n in
    let free : run_at start older tid ≡ None = s.keeps.keeps.right.0.0 in
    let own : run_at start (line ∷ older) tid ≡ Some (begun tid n) = run_at_own start older line None free in
    record {
      keeps = unbegins_well Validation old.book new.book start older tid n s.keeps book room;
      sealed = sealed_idle (run_at start (line ∷ older)) (run_at start older) tid (λ u e. sym (run_at_other start older line u e)) old.index new.index s.sealed (unsealed_live _ (begun tid n) own refl) (unsealed_none _ free) kept.sealed;
      last = λ key. kept.last key ∙ s.last key;
      entries = entries_on (run_at start (line ∷ older)) (run_at start older) tid (λ u e. sym (run_at_other start older line u e)) old.index new.index s.entries kept.entries
          (λ run key at done. let bad : None ≡ Some run = sym free ∙ at in cc);
    }

module _ (old : ValidationEngine) (start : Start) (older : List EngineLine) (s : Stands old start older) (tid : Tid) (held : Held) (found : held_in old.book.book.runs tid ≡ Some held) where
  pub at : run_at start older tid ≡ Some held.run
  at = run_at-held Validation old.book.book start older tid held s.keeps.keeps found

  named : held.run.tid ≡ tid
  named = tid_is start older s.keeps.keeps.right tid held.run at

  at_own : run_at start older held.run.tid ≡ Some held.run
  at_own = ap (λ (t : Tid). run_at start older t) named ∙ at

  -- an access is granted
  right_access : (act : PlainAct) (reply : Reply) → held.run.sealed ≡ None → reply ≡ granted start older held.run act → IsRightLine start older (Acts tid act reply)
  right_access act reply live is =
      (held.run, ((at, live), is ∙ sym (ap (λ (kind : Engine). or_reply (access_stop kind start older held.run act) (granted start older held.run act)) s.keeps.keeps.of_kind)))

  pub stands_read : (new : ValidationEngine) (key : Key) (value : ℕ) → held.run.sealed ≡ None → value ≡ after held.run.acts (table_in old.book.book) key → new.book.book ≡ grants tid (Got key value) old.book.book →
      IsKept old.index new.index → Stands new start (Acts tid (Read key) (Value value) ∷ older)
  stands_read new key value live is book kept =
      let k = s.keeps.keeps in
      let line = Acts tid (Read key) (Value value) in
      let now : Run = record held.run { acts = Got key value ∷ held.run.acts } in
      let own : run_at start (line ∷ older) tid ≡ Some now = run_at_own start older line (Some held.run) at in
      let right = right_access (Read key) (Value value) live
      (ap (λ (n : ℕ). Value n) (is ∙ after-table Validation old.book.book start older held.run.acts key k)
      ∙ sym (ap (λ (kind : Engine). granted_by (rule kind) start older held.run (Read key)) k.of_kind)) in
      stands_idle old new start older line s (unsealed_live _ held.run at live) (unsealed_live _ now own live) (calls_well Validation old.book new.book start older line s.keeps right book) kept (λ q. refl)
      (λ run q there done. kept.entries q (s.entries tid held.run q at (ap (λ (r : Run). has_written q r) (same_Some now run (sym own ∙ there)) ∙ done)))

  pub stands_wrote : (new : ValidationEngine) (key : Key) (value : ℕ) → held.run.sealed ≡ None → new.book.book ≡ grants tid (Wrote key value) old.book.book →
      new.index ≡ with_key key old.index → Stands new start (Acts tid (Write key value) Done ∷ older)
  stands_wrote new key value live book index =
      let line = Acts tid (Write key value) Done in
      let now : Run = record held.run { acts = Wrote key value ∷ held.run.acts } in
      let own : run_at start (line ∷ older) tid ≡ Some now = run_at_own start older line (Some held.run) at in
      let right = right_access (Write key value) Done live refl in
      let kept : IsKept old.index new.index = subst (λ (i : Index). IsKept old.index i) (sym index) (kept_added old.index key) in
      stands_idle old new start older line s (unsealed_live _ held.run at live) (unsealed_live _ now own live) (calls_well Validation old.book new.book start older line s.keeps right book) kept (λ q. refl)
      (λ run q there done. by_key q kept (same_key key q) refl (ap (λ (r : Run). has_written q r) (same_Some now run (sym own ∙ there)) ∙ done))
    where
      by_key : (q : Key) → IsKept old.index new.index → (b : Bool) → same_key key q ≡ b → (b || has_written q held.run) ≡ true → has_entry new.index q ≡ true
      by_key q kept true e done =
          ap (λ (i : Index). has_entry i q) index ∙ subst (λ (k : Key). has_entry (with_key key old.index) k ≡ true) (same_key-equal key q e) (added_has old.index key)
      by_key q kept false e done = kept.entries q (s.entries tid held.run q at done)

  pub stands_took : (new : ValidationEngine) (n : ℕ) → held.run.sealed ≡ None → held.run.ticket ≡ None → n ≡ old.book.book.counters.published + 1 → new.book.book ≡ tickets tid n old.book.book →
      IsKept old.index new.index → Stands new start (Takes tid (Ticket n) ∷ older)
  stands_took new n live ticketless is book kept =
      let k = s.keeps.keeps in
      let line = Takes tid (Ticket n) in
      let now : Run = record held.run { ticket = Some n } in
      let own : run_at start (line ∷ older) tid ≡ Some now = run_at_own start older line (Some held.run) at in
      let grant = Ticket (published start older + 1) in
      let next : Ticket n ≡ grant = ap (λ (m : ℕ). Ticket m) (is ∙ ap (λ (m : Counters). m.published + 1) k.counters) in
      let right : IsRightLine start older line =
      (held.run, ((at, live, ticketless), next ∙ sym (ap (λ (kind : Engine). or_reply (ticket_stop kind start older held.run) grant) k.of_kind))) in
      stands_idle old new start older line s (unsealed_live _ held.run at live) (unsealed_live _ now own live) (calls_well Validation old.book new.book start older line s.keeps right book) kept (λ q. refl)
      (λ run q there done. kept.entries q (s.entries tid held.run q at (ap (λ (r : Run). has_written q r) (same_Some now run (sym own ∙ there)) ∙ done)))

  -- what refuses the sealing by the index
  pub stop_is : held.run.sealed ≡ None → seal_stop_by old.index old.book.book.counters held.run ≡ seal_stop start.kind start older held.run
  stop_is live =
      let k = s.keeps.keeps in
      seal_stop-rule old.index start older k.of_kind k.starts k.right s.sealed s.last held.run at_own live old.book.book.counters k.counters

  -- who passes has the next ticket, where it has one
  pub next_ticket : held.run.sealed ≡ None → seal_stop_by old.index old.book.book.counters held.run ≡ None → IfSome held.run.ticket (λ t. t ≡ old.book.book.counters.published + 1)
  next_ticket live passed =
      let k = s.keeps.keeps in
      passed_ticket old.index start older k.of_kind k.starts k.right s.sealed s.last held.run at_own live old.book.book.counters k.counters passed

  -- a live run ends: its sealing is refused, or it is aborted
  pub stands_dropped : (new : ValidationEngine) (line : EngineLine) → tid_of line ≡ tid → held.run.sealed ≡ None → KeepsRoomy Validation new.book start (line ∷ older) → changed line (Some held.run) ≡ None →
      IsKept old.index new.index → ((key : Key) → last_writer start (line ∷ older) key ≡ last_writer start older key) → Stands new start (line ∷ older)
  stands_dropped new line is live keeps ends kept still =
      let here : run_at start older (tid_of line) ≡ Some held.run = ap (λ (t : Tid). run_at start older t) is ∙ at in
      let gone = run_at_own start older line (Some held.run) here ∙ ends in
      stands_idle old new start older line s (unsealed_live _ held.run here live) (unsealed_none _ gone) keeps kept still
      (λ run key there done. let bad : None ≡ Some run = sym gone ∙ there in cc)

  pub stands_refused : (new : ValidationEngine) (why : Why) → held.run.sealed ≡ None → seal_stop_by old.index old.book.book.counters held.run ≡ Some why → new.book.book ≡ drops tid old.book.book →
      IsKept old.index new.index → Stands new start (Refuses tid why ∷ older)
  stands_refused new why live refused book kept =
      let line = Refuses tid why in
      let right : IsRightLine start older line = (held.run, ((at, live), sym (stop_is live) ∙ refused)) in
      stands_dropped new line refl live (calls_well Validation old.book new.book start older line s.keeps right book) refl kept (λ key. refl)

  -- a run is sealed
  pub stands_sealed : (new : ValidationEngine) (n : ℕ) (acts : List Access) → held.run.sealed ≡ None → seal_stop_by old.index old.book.book.counters held.run ≡ None → n ≡ old.book.book.counters.counter + 1 →
      new.book.book ≡ seals tid n old.book.book → old.book.room + taken_by (held_in old.book.book.runs tid) ≤ new.book.room → acts ≡ held.run.acts →
      IsChanged (Sealed (record { tid = tid; rank = n })) acts old.index new.index → Stands new start (Seals tid n ∷ older)
  stands_sealed new n acts live passed is book room same_acts changed =
      let k = s.keeps.keeps in
      let line = Seals tid n in
      let now : Run = record held.run { sealed = Some n } in
      let own : run_at start (line ∷ older) tid ≡ Some now = run_at_own start older line (Some held.run) at in
      let drawn : counter start older + 1 ≡ seal_number start.kind start older held.run = sym (ap (λ (kind : Engine). seal_number kind start older held.run) k.of_kind) in
      let right : IsRightLine start older line = (held.run, ((at, live), sym (stop_is live) ∙ passed, is ∙ (ap (λ (m : Counters). m.counter + 1) k.counters ∙ drawn))) in
      let keeps = calls_well Validation old.book new.book start older line s.keeps right (book, room) in
      let change = Sealed (record { tid = tid; rank = n }) in
      let mine : IsChanged change held.run.acts old.index new.index = subst (λ (a : List Access). IsChanged change a old.index new.index) same_acts changed in
      let has = λ (key : Key) (done : has_written key held.run ≡ true). s.entries tid held.run key at done in
      record {
        keeps = keeps;
        sealed = sealed_on (run_at start older) (run_at start (line ∷ older)) tid (λ u e. run_at_other start older line u e) old.index new.index held.run now n s.sealed at live own refl (λ key. refl)
            (λ key u m mine other. one_writer start (line ∷ older) keeps.keeps.of_kind keeps.keeps.starts keeps.keeps.right key tid u n m mine other)
            (λ key. sealed-changed change held.run.acts old.index new.index key mine (has key));
        last = λ key. last-changed change held.run.acts old.index new.index key mine (has key) ∙ (cond_same (has_written key held.run) (last_at old.index key) ∙ s.last key);
        entries = entries_on (run_at start older) (run_at start (line ∷ older)) tid (λ u e. run_at_other start older line u e) old.index new.index s.entries
            (λ key. entries-changed change held.run.acts old.index new.index key mine)
            (λ run key there done. entries-changed change held.run.acts old.index new.index key mine (has key (ap (λ (r : Run). has_written key r) (same_Some now run (sym own ∙ there)) ∙ done)));
      }

  -- a sealed run ends
  stands_left : (new : ValidationEngine) (line : EngineLine) (n : ℕ) → tid_of line ≡ tid → held.run.sealed ≡ Some n → KeepsRoomy Validation new.book start (line ∷ older) → changed line (Some held.run) ≡ None →
      ((key : Key) → sealed_at new.index key ≡ cond (has_written key held.run) None (sealed_at old.index key)) → ((key : Key) → has_entry old.index key ≡ true → has_entry new.index key ≡ true) →
      ((key : Key) → last_at new.index key ≡ last_writer start (line ∷ older) key) → Stands new start (line ∷ older)
  stands_left new line n is sealed keeps ends left stays last =
      let here : run_at start older (tid_of line) ≡ Some held.run = ap (λ (t : Tid). run_at start older t) is ∙ at in
      let gone = run_at_own start older line (Some held.run) here ∙ ends in
      record {
        keeps = keeps;
        sealed = sealed_withdrawn (run_at start older) (run_at start (line ∷ older)) (tid_of line) (λ u e. run_at_other start older line u e) old.index new.index held.run n s.sealed here sealed (unsealed_none _ gone) left;
        last = last;
        entries = entries_on (run_at start older) (run_at start (line ∷ older)) (tid_of line) (λ u e. run_at_other start older line u e) old.index new.index s.entries stays
            (λ run key there done. let bad : None ≡ Some run = sym gone ∙ there in cc);
      }

  -- by commit
  pub stands_committed : (new : ValidationEngine) (n moment : ℕ) → held.run.sealed ≡ Some n → moment ≡ old.book.book.counters.counter → new.book.book ≡ commits tid old.book.book →
      IsChanged (Committed (record { tid = held.run.tid; number = number held.run; moment = moment })) held.run.acts old.index new.index → Stands new start (Commits tid ∷ older)
  stands_committed new n moment sealed is book changed =
      let k = s.keeps.keeps in
      let line = Commits tid in
      let right : IsRightLine start older line = (held.run, n, (at, sealed)) in
      let change = Committed (record { tid = held.run.tid; number = number held.run; moment = moment }) in
      let has = λ (key : Key) (done : has_written key held.run ≡ true). s.entries tid held.run key at done in
      let counted : moment ≡ counter start older = is ∙ ap (λ (m : Counters). m.counter) k.counters in
      stands_left new line n refl sealed (calls_well Validation old.book new.book start older line s.keeps right book) refl
      (λ key. sealed-changed change held.run.acts old.index new.index key changed (has key)) (λ key. entries-changed change held.run.acts old.index new.index key changed)
      (λ key. last-changed change held.run.acts old.index new.index key changed (has key)
      ∙ (ap (λ (o : Option Ended). cond (has_written key held.run) (Some (record { tid = held.run.tid; number = number held.run; moment = moment })) o) (s.last key)
      ∙ (ap (λ (m : ℕ). cond (has_written key held.run) (Some (record { tid = held.run.tid; number = number held.run; moment = m })) (last_writer start older key)) counted
      ∙ sym (last_committed start older tid held.run key at))))

  -- by abort, sealed or not
  pub stands_aborted : (new : ValidationEngine) (n : ℕ) → held.run.sealed ≡ Some n → new.book.book ≡ drops tid old.book.book → IsChanged Withdrawn held.run.acts old.index new.index → Stands new start (Aborts tid ∷ older)
  stands_aborted new n sealed book changed =
      let line = Aborts tid in
      let has = λ (key : Key) (done : has_written key held.run ≡ true). s.entries tid held.run key at done in
      stands_left new line n refl sealed (calls_well Validation old.book new.book start older line s.keeps (held.run, at) book) refl
      (λ key. sealed-changed Withdrawn held.run.acts old.index new.index key changed (has key)) (λ key. entries-changed Withdrawn held.run.acts old.index new.index key changed)
      (λ key. last-changed Withdrawn held.run.acts old.index new.index key changed (has key) ∙ (cond_same (has_written key held.run) (last_at old.index key) ∙ s.last key))

  pub stands_given_up : (new : ValidationEngine) → held.run.sealed ≡ None → new.book.book ≡ drops tid old.book.book → IsKept old.index new.index → Stands new start (Aborts tid ∷ older)
  stands_given_up new live book kept =
      let line = Aborts tid in
      stands_dropped new line refl live (calls_well Validation old.book new.book start older line s.keeps (held.run, at) book) refl kept (λ key. refl)

-- a sealing is taken back
pub stands_unsealed : (old new : ValidationEngine) (start : Start) (older : List EngineLine) (tid : Tid) (n : ℕ) (open_run : Run) → Stands old start (Seals tid n ∷ older) → new.book.book ≡ unseals tid old.book.book →
    old.book.room ≤ new.book.room + taken_by (held_in old.book.book.runs tid) → run_at start older tid ≡ Some open_run → IsChanged Withdrawn open_run.acts old.index new.index → Stands new start older
stands_unsealed old new start older tid n open_run s book room here changed =
    let line = Seals tid n in
    let right = s.keeps.keeps.right.0 in
    let live : open_run.sealed ≡ None = ap (λ (r : Run). r.sealed) (same_Some open_run right.0 (sym here ∙ right.1.0.0)) ∙ right.1.0.1 in
    let now : Run = record open_run { sealed = Some n } in
    let own : run_at start (line ∷ older) tid ≡ Some now = run_at_own start older line (Some open_run) here in
    let has = λ (key : Key) (done : has_written key open_run ≡ true). s.entries tid now key own done in
    record {
      keeps = unseals_well Validation old.book new.book start older tid n s.keeps book room;
      sealed = sealed_withdrawn (run_at start (line ∷ older)) (run_at start older) tid (λ u e. sym (run_at_other start older line u e)) old.index new.index now n s.sealed own refl (unsealed_live _ open_run here live)
          (λ key. sealed-changed Withdrawn open_run.acts old.index new.index key changed (has key));
      last = λ key. last-changed Withdrawn open_run.acts old.index new.index key changed (has key) ∙ (cond_same (has_written key open_run) (last_at old.index key) ∙ s.last key);
      entries = entries_on (run_at start (line ∷ older)) (run_at start older) tid (λ u e. sym (run_at_other start older line u e)) old.index new.index s.entries
          (λ key. entries-changed Withdrawn open_run.acts old.index new.index key changed)
          (λ run key there done. entries-changed Withdrawn open_run.acts old.index new.index key changed (has key (ap (λ (r : Run). has_written key r) (same_Some open_run run (sym here ∙ there)) ∙ done)));
    }

-- what the engine found to refuse a sealing, by the run that its book holds
pub stop_found : (index : Index) (book : Book) (tid : Tid) (held other : Held) (counters : Counters) (stop : Option Why) → held_in book.runs tid ≡ Some held → held_in book.runs tid ≡ Some other → counters ≡ book.counters →
    seal_stop_by index counters other.run ≡ stop → seal_stop_by index book.counters held.run ≡ stop
stop_found index book tid held other counters stop found also is stopped =
    ap (λ (h : Held). seal_stop_by index book.counters h.run) (same_Some held other (sym found ∙ also)) ∙ (ap (λ (m : Counters). seal_stop_by index m other.run) (sym is) ∙ stopped)

-- where the index lets the run pass, the rule does
pub passes_rule : (engine : ValidationEngine) (tid : Tid) (held : Held) → held_in engine.book.book.runs tid ≡ Some held → held.run.sealed ≡ None → seal_stop_by engine.index engine.book.book.counters held.run ≡ None →
    EachPast Stands engine (PassesRule tid)
passes_rule engine tid held found live passed start lines s run there =
    let is = same_Some held.run run (sym (at engine start lines s tid held found) ∙ there) in
    ap (λ (r : Run). seal_stop start.kind start lines r) (sym is) ∙ (sym (stop_is engine start lines s tid held found live) ∙ passed)

-- and then no failure hides a refusal
pub hides_none : {X : Type 0} (r : Result X SealErr) (engine : ValidationEngine) (tid : Tid) → EachPast Stands engine (PassesRule tid) → IfErr r (λ e. HidesNone Stands engine tid e)
hides_none (Ok x) engine tid passes = tt
hides_none (Err (Err_is.Refused why)) engine tid passes = tt
hides_none (Err Err_is.Memory) engine tid passes = passes

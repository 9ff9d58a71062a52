-- The writer of a key is the one unended run that wrote it.
use Rattle.std.proofs.Common.{◌≡◌, ℕ, ◌⊎◌, Bool, true, false, ◌&&◌, ◌||◌, cond, is_some, Option, Some, None, List, [], ◌∷◌, inl, inr, refl, sym, ap, ◌∙◌, subst, true≢false}
use Rattle.std.proofs.lemmas.Bool.{cond-true, cond-false, cases_Bool}
use Rattle.std.proofs.lemmas.Option.{same_Some}
use Rattle.mdb_base.specs.declared.names.Engine.{Engine}
use Rattle.mdb_base.specs.declared.names.Key.{Key}
use Rattle.mdb_base.specs.declared.names.Tid.{Tid}
use Rattle.mdb_base.specs.declared.acts.PlainAct.{PlainAct}
use Rattle.mdb_base.specs.declared.acts.PlainAct.TheVariants.{Read, Write}
use Rattle.mdb_base.specs.declared.replies.Reply.{Reply}
use Rattle.mdb_base.specs.declared.replies.Reply.TheVariants as Reply_is
use Rattle.mdb_base.specs.Names.{same_tid, same_key}
use Rattle.mdb_base.specs.Words.{Each, holds_of, map_some}
use Rattle.mdb_base.proofs.ForCallers.{same_tid-equal, same_tid-refl, some_among}
use Rattle.fed_rules.specs.declared.runs.Kept.{Kept}
use Rattle.fed_rules.specs.Runs.{Start, EngineLine, Begins, Acts, Takes, Seals, Refuses, Commits, Aborts, Wrote, Run, tid_of, restored, restored_at, run_at}
use Rattle.fed_rules.specs.Replies.{age_of, writes, has_written}
use Rattle.fed_rules.specs.EngineLines.{IsStart, IsRightLine, IsRight, AreApart, AllApart, has_row}
use Rattle.engine_laws.specs.Unended.{EachRun}
use Rattle.engine_laws.proofs.ForCallers.{IsByAge, Own, age_sound, begins, each_run, got, one_writer, own, seals, stays, takes, tid_is, written_rows, wrote}
use Rattle.fed_rules.proofs.ForCallers.{run_at_other, run_at_own}
use Rattle.run_book.specs.declared.rival.Rival.{Rival}
use Rattle.run_book.specs.Rivals.{rival_by}
use Rattle.run_book.specs.Ages.{rival_of, restored_writer}
use Rattle.run_book.specs.AgeLines.{rival_at, ends, written_by, written_at, writer}
use Rattle.run_book.proofs.Outcomes.{Outcome, outcome, left-going, ended_run, gives_up-ends}

-- the rival is an unended run that has written the key
pub record IsWriter (start : Start) (lines : List EngineLine) (key : Key) (rival : Rival) : Type 0 where
  pub run : Run
  pub at : run_at start lines rival.tid ≡ Some run
  pub wrote : has_written key run ≡ true
  pub age : run.age ≡ rival.rank

-- a transaction in doubt is the restored run of its attempt
pub restored_first : (kept : Kept) (more : List Kept) → restored_at (kept ∷ more) kept.tid ≡ Some (restored kept)
restored_first kept more = cond-true _ _ _ (same_tid-refl kept.tid)

pub restored_after : (kept : Kept) (more : List Kept) (t : Tid) → same_tid kept.tid t ≡ false → restored_at (kept ∷ more) t ≡ restored_at more t
restored_after kept more t e = cond-false _ _ _ e

-- an attempt of the list is none that is apart from it
pub restored_apart : (kept : Kept) (more : List Kept) (t : Tid) (run : Run) → Each (AreApart kept) more → restored_at more t ≡ Some run → same_tid kept.tid t ≡ false
restored_apart kept [] t run apart at = cc
restored_apart kept (other ∷ more) t run apart at = by_test (same_tid other.tid t) refl at (restored_apart kept more t run apart.1)
  where
    by_test : (b : Bool) → same_tid other.tid t ≡ b → cond b (Some (restored other)) (restored_at more t) ≡ Some run → (restored_at more t ≡ Some run → same_tid kept.tid t ≡ false) → same_tid kept.tid t ≡ false
    by_test true e at rest = ap (λ (x : Tid). same_tid kept.tid x) (sym (same_tid-equal other.tid t e)) ∙ apart.0.tids
    by_test false e at rest = rest at

pub record IsRestoredWriter (doubtful : List Kept) (key : Key) (rival : Rival) : Type 0 where
  pub run : Run
  pub at : restored_at doubtful rival.tid ≡ Some run
  pub wrote : has_written key run ≡ true
  pub age : run.age ≡ rival.rank

restored_writer_is : (doubtful : List Kept) (key : Key) (o : Option Rival) (rival : Rival) → AllApart doubtful → restored_writer doubtful key o ≡ Some rival → (o ≡ Some rival) ⊎ IsRestoredWriter doubtful key rival
restored_writer_is [] key o rival apart is = inl is
restored_writer_is (kept ∷ more) key o rival apart is = by_row (has_row key kept.writes) refl (restored_writer_is more key (cond (has_row key kept.writes) (Some (rival_of kept)) o) rival apart.1 is)
  where
    by_row : (b : Bool) → has_row key kept.writes ≡ b → (cond b (Some (rival_of kept)) o ≡ Some rival) ⊎ IsRestoredWriter more key rival → (o ≡ Some rival) ⊎ IsRestoredWriter (kept ∷ more) key rival
    by_row b has (inr later) = inr (record {
      run = later.run;
      at = restored_after kept more rival.tid (restored_apart kept more rival.tid later.run apart.0 later.at) ∙ later.at;
      wrote = later.wrote;
      age = later.age;
    })
    by_row true has (inl is) =
        let mine : rival_of kept ≡ rival = cc in
        inr (record {
          run = restored kept;
          at = ap (λ (r : Rival). restored_at (kept ∷ more) r.tid) (sym mine) ∙ restored_first kept more;
          wrote = written_rows key kept.writes ∙ has;
          age = ap (λ (r : Rival). r.rank) mine;
        })
    by_row false has (inl is) = inl is

-- a writer stays one to the end of the list
restored_writer_some : (doubtful : List Kept) (key : Key) (o : Option Rival) → is_some o ≡ true → is_some (restored_writer doubtful key o) ≡ true
restored_writer_some [] key o some = some
restored_writer_some (kept ∷ more) key o some = restored_writer_some more key _ (by_row (has_row key kept.writes))
  where
    by_row : (b : Bool) → is_some (cond b (Some (rival_of kept)) o) ≡ true
    by_row true = refl
    by_row false = some

restored_writer_there : (doubtful : List Kept) (key : Key) (o : Option Rival) (t : Tid) (run : Run) → restored_at doubtful t ≡ Some run → has_written key run ≡ true → is_some (restored_writer doubtful key o) ≡ true
restored_writer_there [] key o t run at has = cc
restored_writer_there (kept ∷ more) key o t run at has =
    by_tid (same_tid kept.tid t) at (λ later. restored_writer_there more key _ t run later has)
  where
    by_tid : (b : Bool) → cond b (Some (restored kept)) (restored_at more t) ≡ Some run → (restored_at more t ≡ Some run → is_some (restored_writer (kept ∷ more) key o) ≡ true) → is_some (restored_writer (kept ∷ more) key o) ≡ true
    by_tid true is rest =
        let one = same_Some (restored kept) run is in
        let row : has_row key kept.writes ≡ true = sym (written_rows key kept.writes) ∙ (ap (λ (r : Run). has_written key r) one ∙ has) in
        restored_writer_some more key _ (ap (λ (b : Bool). is_some (cond b (Some (rival_of kept)) o)) row)
    by_tid false is rest = rest is

-- whether the line's own run has written the key
abbrev own_wrote : Start → List EngineLine → EngineLine → Key → Bool
own_wrote start older line key = holds_of (has_written key) (run_at start older (tid_of line))

-- a writer whose run the line doesn't end
writer_on : (start : Start) (older : List EngineLine) (line : EngineLine) (key : Key) (rival : Rival) → IsRightLine start older line → (ends line && own_wrote start older line key) ≡ false →
    IsWriter start older key rival → IsWriter start (line ∷ older) key rival
writer_on start older line key rival right lasts h = elim (cases_Bool (same_tid (tid_of line) rival.tid)) [
  | inr other ↦ record { run = h.run; at = run_at_other start older line rival.tid other ∙ h.at; wrote = h.wrote; age = h.age }
  | inl same ↦ own_on (same_tid-equal (tid_of line) rival.tid same)
]
  where
    no_end : run_at start older (tid_of line) ≡ Some h.run → ends line ≡ true → ⊥
    no_end here e =
        let has : own_wrote start older line key ≡ true = ap (λ (o : Option Run). holds_of (has_written key) o) here ∙ h.wrote in
        let both : (ends line && own_wrote start older line key) ≡ true = ap (λ (b : Bool). b && own_wrote start older line key) e ∙ has in
        true≢false (sym both ∙ lasts)

    goes : run_at start older (tid_of line) ≡ Some h.run → tid_of line ≡ rival.tid → Outcome line h.run → IsWriter start (line ∷ older) key rival
    goes here is (inl on) =
        let a = on.as_it_was in
        record {
          run = on.now;
          at = ap (λ (t : Tid). run_at start (line ∷ older) t) (sym is) ∙ (run_at_own start older line (Some h.run) here ∙ on.is);
          wrote = a.writes key h.wrote;
          age = a.age ∙ h.age;
        }
    goes here is (inr (inl commits)) = absurd (no_end here (ap (λ (l : EngineLine). ends l) commits))
    goes here is (inr (inr gives)) = absurd (no_end here (gives_up-ends line gives))

    own_on : tid_of line ≡ rival.tid → IsWriter start (line ∷ older) key rival
    own_on is =
        let here = ap (λ (t : Tid). run_at start older t) is ∙ h.at in
        goes here is (outcome start older line h.run right here)

-- the run that writes
new_writer : (start : Start) (older : List EngineLine) (tid : Tid) (k key : Key) (value : ℕ) (rival : Rival) → IsRight start (Acts tid (Write k value) Reply_is.Done ∷ older) → same_key k key ≡ true →
    rival_at start older tid ≡ Some rival → IsWriter start (Acts tid (Write k value) Reply_is.Done ∷ older) key rival
new_writer start older tid k key value rival right same is =
    let line = Acts tid (Write k value) Reply_is.Done in
    let was = right.0.0 in
    let at = right.0.1.0.0 in
    let now : Run = record was { acts = Wrote k value ∷ was.acts } in
    let named = tid_is start older right.1 tid was at in
    let mine : rival_by age_of was ≡ rival = same_Some _ _ (sym (ap (λ (o : Option Run). map_some (rival_by age_of) o) at) ∙ is) in
    record {
      run = now;
      at = ap (λ (t : Tid). run_at start (line ∷ older) t) (sym (ap (λ (r : Rival). r.tid) mine) ∙ named) ∙ run_at_own start older line (Some was) at;
      wrote = ap (λ (b : Bool). b || has_written key was) same;
      age = ap (λ (r : Rival). r.rank) mine;
    }

pub writer_is : (start : Start) (lines : List EngineLine) (key : Key) (rival : Rival) → IsStart start → IsRight start lines → writer start lines key ≡ Some rival → IsWriter start lines key rival
writer_is start [] key rival begun right is = elim (restored_writer_is start.doubtful key None rival begun.apart is) [
  | inl none ↦ cc
  | inr h ↦ record { run = h.run; at = h.at; wrote = h.wrote; age = h.age }
]
writer_is start (line ∷ older) key rival begun right is = by_end (ends line && own_wrote start older line key) refl is (writer_is start older key rival begun right.1)
  where
    kept_on : (ends line && own_wrote start older line key) ≡ false → (writer start older key ≡ Some rival → IsWriter start older key rival) → writer start older key ≡ Some rival → IsWriter start (line ∷ older) key rival
    kept_on lasts rest was = writer_on start older line key rival right.0 lasts (rest was)

    by_line : (l : EngineLine) → l ≡ line → (ends line && own_wrote start older line key) ≡ false → written_at start l older key (writer start older key) ≡ Some rival →
        (writer start older key ≡ Some rival → IsWriter start older key rival) → IsWriter start (line ∷ older) key rival
    by_line (Acts tid act reply) l lasts is rest = by_reply reply act l is
      where
        by_reply : (reply : Reply) (act : PlainAct) → Acts tid act reply ≡ line → written_by reply act key (rival_at start older tid) (writer start older key) ≡ Some rival → IsWriter start (line ∷ older) key rival
        by_reply Reply_is.Done (Write k value) l is = by_key (same_key k key) refl is
          where
            by_key : (b : Bool) → same_key k key ≡ b → cond b (rival_at start older tid) (writer start older key) ≡ Some rival → IsWriter start (line ∷ older) key rival
            by_key true same is =
                subst (λ (x : EngineLine). IsWriter start (x ∷ older) key rival) l
                (new_writer start older tid k key value rival (subst (λ (x : EngineLine). IsRight start (x ∷ older)) (sym l) right) same is)
            by_key false apart is = kept_on lasts rest is
        by_reply Reply_is.Done (Read k) l is = kept_on lasts rest is
        by_reply (Reply_is.Value value) act l is = kept_on lasts rest is
        by_reply (Reply_is.Ticket n) act l is = kept_on lasts rest is
        by_reply (Reply_is.Wait by) act l is = kept_on lasts rest is
        by_reply (Reply_is.Refused why) act l is = kept_on lasts rest is
        by_reply Reply_is.Unknown act l is = kept_on lasts rest is
    by_line (Begins tid n) l lasts is rest = kept_on lasts rest is
    by_line (Takes tid reply) l lasts is rest = kept_on lasts rest is
    by_line (Seals tid n) l lasts is rest = kept_on lasts rest is
    by_line (Refuses tid why) l lasts is rest = kept_on lasts rest is
    by_line (Commits tid) l lasts is rest = kept_on lasts rest is
    by_line (Aborts tid) l lasts is rest = kept_on lasts rest is

    by_end : (b : Bool) → (ends line && own_wrote start older line key) ≡ b → cond b None (written_at start line older key (writer start older key)) ≡ Some rival →
        (writer start older key ≡ Some rival → IsWriter start older key rival) → IsWriter start (line ∷ older) key rival
    by_end true lasts is rest = cc
    by_end false lasts is rest = by_line line refl lasts is rest

-- where the run has written the key, the key has a writer
abbrev HasWriter : Key → Option Rival → Run → Type 0
HasWriter key o run = has_written key run ≡ true → is_some o ≡ true

written_some : (reply : Reply) (act : PlainAct) (key : Key) (run o : Option Rival) → is_some run ≡ true → is_some o ≡ true → is_some (written_by reply act key run o) ≡ true
written_some Reply_is.Done (Write k value) key run o there some = by_test (same_key k key)
  where
    by_test : (b : Bool) → is_some (cond b run o) ≡ true
    by_test true = there
    by_test false = some
written_some Reply_is.Done (Read k) key run o there some = some
written_some (Reply_is.Value value) act key run o there some = some
written_some (Reply_is.Ticket n) act key run o there some = some
written_some (Reply_is.Wait by) act key run o there some = some
written_some (Reply_is.Refused why) act key run o there some = some
written_some Reply_is.Unknown act key run o there some = some

line_some : (start : Start) (older : List EngineLine) (line : EngineLine) (key : Key) → IsRightLine start older line → is_some (writer start older key) ≡ true → is_some (written_at start line older key (writer start older key)) ≡ true
line_some start older (Acts tid act reply) key right some =
    written_some reply act key (rival_at start older tid) (writer start older key) (ap (λ (o : Option Run). is_some (map_some (rival_by age_of) o)) right.1.0.0) some
line_some start older (Begins tid n) key right some = some
line_some start older (Takes tid reply) key right some = some
line_some start older (Seals tid n) key right some = some
line_some start older (Refuses tid why) key right some = some
line_some start older (Commits tid) key right some = some
line_some start older (Aborts tid) key right some = some

-- a key whose writer isn't ended keeps one
some_on : (start : Start) (older : List EngineLine) (line : EngineLine) (key : Key) → IsRightLine start older line → (ends line && own_wrote start older line key) ≡ false → is_some (writer start older key) ≡ true → is_some (writer start (line ∷ older) key) ≡ true
some_on start older line key right lasts some =
    ap (λ (b : Bool). is_some (cond b None (written_at start line older key (writer start older key)))) lasts ∙ line_some start older line key right some

own_some : (start : Start) (older : List EngineLine) (line : EngineLine) (key : Key) (r : Run) → IsRightLine start older line → ends line ≡ false → EachRun start older (HasWriter key (writer start older key)) → Own start older line r →
    HasWriter key (writer start (line ∷ older) key) r
own_some start older line key r right going h (begins free next) has = cc
own_some start older line key r right going h (stays waits at) has =
    some_on start older line key right (ap (λ (b : Bool). b && own_wrote start older line key) going) (h _ r at has)
own_some start older line key r right going h (got run live is) has = h _ run live.0 has
own_some start older line key r right going h (wrote {tid = tid} {key = k} run live is) has = by_key (same_key k key) (h tid run live.0) has
  where
    by_key : (b : Bool) → HasWriter key (writer start older key) run → (b || has_written key run) ≡ true → is_some (cond b (rival_at start older tid) (writer start older key)) ≡ true
    by_key true was has = ap (λ (o : Option Run). is_some (map_some (rival_by age_of) o)) live.0
    by_key false was has = was has
own_some start older line key r right going h (takes run live is) has = h _ run live.0 has
own_some start older line key r right going h (seals run live stop next) has = h _ run live.0 has

-- two unended runs that have written a key are one
pub one_wrote : (kind : Engine) (start : Start) (lines : List EngineLine) (key : Key) (t u : Tid) (a b : Run) → IsByAge kind → start.kind ≡ kind → IsStart start → IsRight start lines →
    run_at start lines t ≡ Some a → run_at start lines u ≡ Some b → has_written key a ≡ true → has_written key b ≡ true → t ≡ u
one_wrote kind start lines key t u a b by is_kind begun right at_a at_b wrote_a wrote_b =
    let named_a = tid_is start lines right t a at_a in
    let named_b = tid_is start lines right u b at_b in
    sym named_a
    ∙ (one_writer start lines key a b (age_sound kind start lines by is_kind begun right) (ap (λ (x : Tid). run_at start lines x) named_a ∙ at_a) (ap (λ (x : Tid). run_at start lines x) named_b ∙ at_b)
    (some_among (writes key) a.acts wrote_a) (some_among (writes key) b.acts wrote_b) ∙ named_b)

pub has_writer : (kind : Engine) (start : Start) (lines : List EngineLine) (key : Key) → IsByAge kind → start.kind ≡ kind → IsStart start → IsRight start lines → EachRun start lines (λ run. has_written key run ≡ true → is_some (writer start lines key) ≡ true)
has_writer kind start [] key by is_kind begun right = λ t run at has. restored_writer_there start.doubtful key None t run at has
has_writer kind start (line ∷ older) key by is_kind begun right =
    let h = has_writer kind start older key by is_kind begun right.1 in
    each_run start older line (HasWriter key (writer start (line ∷ older) key))
    (λ t r other was has. some_on start older line key right.0 (apart t r other was has (ends line) refl) (h t r was has))
    (λ r now. own_some start older line key r right.0 (left-going line _ r now) h (own start older line r right.0 now))
  where
    apart : (t : Tid) (r : Run) → same_tid (tid_of line) t ≡ false → run_at start older t ≡ Some r → has_written key r ≡ true → (b : Bool) → ends line ≡ b → (b && own_wrote start older line key) ≡ false
    apart t r other was has false e = refl
    apart t r other was has true e = by_test (own_wrote start older line key) refl
      where
        mine : (run : Run) × (run_at start older (tid_of line) ≡ Some run)
        mine = ended_run start older line right.0 e

        by_test : (b : Bool) → own_wrote start older line key ≡ b → b ≡ false
        by_test false f = refl
        by_test true f =
            let own_has : has_written key mine.0 ≡ true = sym (ap (λ (o : Option Run). holds_of (has_written key) o) mine.1) ∙ f in
            let one = one_wrote kind start older key (tid_of line) t mine.0 r by is_kind begun right.1 mine.1 was own_has has in
            absurd (true≢false (sym (ap (λ (x : Tid). same_tid (tid_of line) x) (sym one) ∙ same_tid-refl (tid_of line)) ∙ other))

-- an unended run that has written a key is its writer
pub writer_of : (kind : Engine) (start : Start) (lines : List EngineLine) (key : Key) (t : Tid) (run : Run) → IsByAge kind → start.kind ≡ kind → IsStart start → IsRight start lines → run_at start lines t ≡ Some run → has_written key run ≡ true →
    writer start lines key ≡ Some (record { tid = t; rank = run.age })
writer_of kind start lines key t run by is_kind begun right at has = by_writer (writer start lines key) refl (has_writer kind start lines key by is_kind begun right t run at has)
  where
    by_writer : (o : Option Rival) → writer start lines key ≡ o → is_some o ≡ true → o ≡ Some (record { tid = t; rank = run.age })
    by_writer None is some = cc
    by_writer (Some rival) is some =
        let h = writer_is start lines key rival begun right is in
        let one : rival.tid ≡ t = one_wrote kind start lines key rival.tid t h.run run by is_kind begun right h.at at h.wrote has in
        let same : h.run ≡ run = same_Some h.run run (sym h.at ∙ (ap (λ (x : Tid). run_at start lines x) one ∙ at)) in
        ap (λ (x : Tid). let r : Rival = record { tid = x; rank = rival.rank } in Some r) one
        ∙ ap (λ (n : ℕ). let r : Rival = record { tid = t; rank = n } in Some r) (sym h.age ∙ ap (λ (r : Run). r.age) same)

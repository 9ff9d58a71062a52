-- What a line leaves of its unended run: the run goes on, or it ends by commit or otherwise.
use Rattle.std.proofs.Common.{◌≡◌, ◌⊎◌, Bool, true, false, Option, Some, None, List, ◌∷◌, inl, inr, refl, sym, ◌∙◌}
use Rattle.std.proofs.lemmas.Bool.{or_right}
use Rattle.mdb_base.specs.declared.names.Key.{Key}
use Rattle.mdb_base.specs.declared.names.Tid.{Tid}
use Rattle.mdb_base.specs.declared.acts.PlainAct.{PlainAct}
use Rattle.mdb_base.specs.declared.acts.PlainAct.TheVariants.{Read, Write}
use Rattle.mdb_base.specs.declared.replies.Reply.{Reply}
use Rattle.mdb_base.specs.declared.replies.Reply.TheVariants as Reply_is
use Rattle.mdb_base.specs.Names.{same_key}
use Rattle.fed_rules.specs.Runs.{Start, EngineLine, Begins, Acts, Takes, Seals, Refuses, Commits, Aborts, Got, Wrote, Run, tid_of, changed, run_at, gives_up, has_ticket}
use Rattle.fed_rules.specs.Replies.{has_read, has_written}
use Rattle.fed_rules.specs.EngineLines.{IsRightLine}
use Rattle.run_book.specs.AgeLines.{ends}

-- a run goes on as the one that it was: of its attempt and age, with its accesses and its ticket
pub record GoesOnAs (run now : Run) : Type 0 where
  pub tid : now.tid ≡ run.tid
  pub age : now.age ≡ run.age
  pub reads : (key : Key) → has_read key run ≡ true → has_read key now ≡ true
  pub writes : (key : Key) → has_written key run ≡ true → has_written key now ≡ true
  pub takes : has_ticket run ≡ true → has_ticket now ≡ true

abbrev pub is_sealing : EngineLine → Bool
is_sealing (Seals tid n) = true
is_sealing line = false

-- the line's run goes on
pub record Continues (line : EngineLine) (run : Run) : Type 0 where
  pub now : Run
  pub is : changed line (Some run) ≡ Some now
  pub going : ends line ≡ false
  pub open_still : is_sealing line ≡ false → now.sealed ≡ run.sealed
  pub as_it_was : GoesOnAs run now

abbrev pub Outcome : EngineLine → Run → Type 0
Outcome line run = Continues line run ⊎ (line ≡ Commits (tid_of line)) ⊎ (gives_up line ≡ true)

same_run : (run : Run) → GoesOnAs run run
same_run run = record { tid = refl; age = refl; reads = λ key h. h; writes = λ key h. h; takes = λ h. h }

stays : (line : EngineLine) (run : Run) → changed line (Some run) ≡ Some run → ends line ≡ false → Outcome line run
stays line run is going = inl (record { now = run; is = is; going = going; open_still = λ e. refl; as_it_was = same_run run })

acted_out : (tid : Tid) (reply : Reply) (act : PlainAct) (run : Run) → Outcome (Acts tid act reply) run
acted_out tid (Reply_is.Refused why) act run = inr (inr refl)
acted_out tid (Reply_is.Wait by) act run = stays _ run refl refl
acted_out tid (Reply_is.Ticket n) act run = stays _ run refl refl
acted_out tid Reply_is.Unknown act run = stays _ run refl refl
acted_out tid (Reply_is.Value value) (Read key) run =
    inl (record {
      now = record run { acts = Got key value ∷ run.acts };
      is = refl;
      going = refl;
      open_still = λ e. refl;
      as_it_was = record { tid = refl; age = refl; reads = λ q h. or_right (same_key key q) (has_read q run) h; writes = λ q h. h; takes = λ h. h };
    })
acted_out tid (Reply_is.Value value) (Write key v) run = stays _ run refl refl
acted_out tid Reply_is.Done (Read key) run = stays _ run refl refl
acted_out tid Reply_is.Done (Write key value) run =
    inl (record {
      now = record run { acts = Wrote key value ∷ run.acts };
      is = refl;
      going = refl;
      open_still = λ e. refl;
      as_it_was = record { tid = refl; age = refl; reads = λ q h. h; writes = λ q h. or_right (same_key key q) (has_written q run) h; takes = λ h. h };
    })

took_out : (tid : Tid) (reply : Reply) (run : Run) → Outcome (Takes tid reply) run
took_out tid (Reply_is.Refused why) run = inr (inr refl)
took_out tid (Reply_is.Wait by) run = stays _ run refl refl
took_out tid (Reply_is.Ticket n) run =
    inl (record {
      now = record run { ticket = Some n };
      is = refl;
      going = refl;
      open_still = λ e. refl;
      as_it_was = record { tid = refl; age = refl; reads = λ q h. h; writes = λ q h. h; takes = λ h. refl };
    })
took_out tid Reply_is.Unknown run = stays _ run refl refl
took_out tid (Reply_is.Value value) run = stays _ run refl refl
took_out tid Reply_is.Done run = stays _ run refl refl

pub outcome : (start : Start) (older : List EngineLine) (line : EngineLine) (run : Run) → IsRightLine start older line → run_at start older (tid_of line) ≡ Some run → Outcome line run
outcome start older (Begins tid n) run right at = let bad : None ≡ Some run = sym right.0 ∙ at in cc
outcome start older (Acts tid act reply) run right at = acted_out tid reply act run
outcome start older (Takes tid reply) run right at = took_out tid reply run
outcome start older (Seals tid n) run right at =
    inl (record {
      now = record run { sealed = Some n };
      is = refl;
      going = refl;
      open_still = λ e. cc;
      as_it_was = record { tid = refl; age = refl; reads = λ q h. h; writes = λ q h. h; takes = λ h. h };
    })
outcome start older (Refuses tid why) run right at = inr (inr refl)
outcome start older (Commits tid) run right at = inr (inl refl)
outcome start older (Aborts tid) run right at = inr (inr refl)

-- who gives up ends
pub gives_up-ends : (line : EngineLine) → gives_up line ≡ true → ends line ≡ true
gives_up-ends (Begins tid n) h = cc
gives_up-ends (Acts tid act reply) h = h
gives_up-ends (Takes tid reply) h = h
gives_up-ends (Seals tid n) h = cc
gives_up-ends (Refuses tid why) h = refl
gives_up-ends (Commits tid) h = cc
gives_up-ends (Aborts tid) h = refl

pub ends-none : (line : EngineLine) (o : Option Run) → ends line ≡ true → changed line o ≡ None
ends-none (Begins tid n) o h = cc
ends-none (Acts tid act (Reply_is.Refused why)) None h = refl
ends-none (Acts tid act (Reply_is.Refused why)) (Some run) h = refl
ends-none (Acts tid act (Reply_is.Wait by)) o h = cc
ends-none (Acts tid act (Reply_is.Ticket n)) o h = cc
ends-none (Acts tid act (Reply_is.Value v)) o h = cc
ends-none (Acts tid act Reply_is.Done) o h = cc
ends-none (Acts tid act Reply_is.Unknown) o h = cc
ends-none (Takes tid (Reply_is.Refused why)) None h = refl
ends-none (Takes tid (Reply_is.Refused why)) (Some run) h = refl
ends-none (Takes tid (Reply_is.Wait by)) o h = cc
ends-none (Takes tid (Reply_is.Ticket n)) o h = cc
ends-none (Takes tid (Reply_is.Value v)) o h = cc
ends-none (Takes tid Reply_is.Done) o h = cc
ends-none (Takes tid Reply_is.Unknown) o h = cc
ends-none (Seals tid n) o h = cc
ends-none (Refuses tid why) None h = refl
ends-none (Refuses tid why) (Some run) h = refl
ends-none (Commits tid) None h = refl
ends-none (Commits tid) (Some run) h = refl
ends-none (Aborts tid) None h = refl
ends-none (Aborts tid) (Some run) h = refl

-- a run that is left is none that ended
pub left-going : (line : EngineLine) (o : Option Run) (run : Run) → changed line o ≡ Some run → ends line ≡ false
left-going line o run h = by_test (ends line) refl
  where
    by_test : (b : Bool) → ends line ≡ b → ends line ≡ false
    by_test true e = let bad : None ≡ Some run = sym (ends-none line o e) ∙ h in cc
    by_test false e = e

-- the line's run is there, unless it begins
pub ended_run : (start : Start) (older : List EngineLine) (line : EngineLine) → IsRightLine start older line → ends line ≡ true → (run : Run) × (run_at start older (tid_of line) ≡ Some run)
ended_run start older (Begins tid n) right h = cc
ended_run start older (Acts tid act reply) right h = (right.0, right.1.0.0)
ended_run start older (Takes tid reply) right h = (right.0, right.1.0.0)
ended_run start older (Seals tid n) right h = cc
ended_run start older (Refuses tid why) right h = (right.0, right.1.0.0)
ended_run start older (Commits tid) right h = (right.0, right.2.0)
ended_run start older (Aborts tid) right h = (right.0, right.1)

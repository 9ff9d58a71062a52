-- The book of each call that draws a number.
use Rattle.std.proofs.Common.{◌≡◌, ℕ, ◌+◌, ◌-◌, Bool, true, false, cond, is_some, nat_lt, max, Option, Some, None, List, ◌∷◌, inl, inr, refl, sym, ap, ◌∙◌, subst, arith}
use Rattle.std.proofs.lemmas.Bool.{cond-true, cond-false, cases_Bool, le-ltb}
use Rattle.std.proofs.lemmas.Option.{same_Some}
use Rattle.mdb_base.specs.declared.names.Engine.{Engine}
use Rattle.mdb_base.specs.declared.names.Tid.{Tid}
use Rattle.mdb_base.specs.Names.{same_tid}
use Rattle.mdb_base.specs.Words.{or_else, map_some}
use Rattle.fed_rules.specs.Runs.{Start, EngineLine, Begins, Seals, Run, begun, changed, run_at, counter, published, owner, ticket_of, has_ticket}
use Rattle.fed_rules.specs.EngineLines.{IsFree, IsRightLine}
use Rattle.mdb_base.proofs.ForCallers.{none_from, same_tid-equal, same_tid-refl}
use Rattle.fed_rules.proofs.ForCallers.{run_at_other, run_at_own}
use Rattle.run_book.specs.declared.counters.Counters.{Counters}
use Rattle.run_book.specs.Held.{Held, held_in, with_run, changed_in, without}
use Rattle.run_book.specs.Book.{Book, begins, unbegins, sealed_with, sealed_counters, ticket_in, seals, not_sealed, counters_without, unseals}
use Rattle.run_book.specs.Keeps.{Keeps, run_in, counters_after, counters_before}
use Rattle.run_book.proofs.RunMaps.{held_in-changed_own, held_in-changed_other, held_in-without_own, held_in-without_other, held_in-put_own, held_in-put_other}
use Rattle.run_book.proofs.Steps.{runs-step}
use Rattle.run_book.proofs.Calls.{is_held}

-- a run begins with the next number
pub keeps_begins : (kind : Engine) (book : Book) (start : Start) (older : List EngineLine) (tid : Tid) → Keeps kind book start older → IsFree start older tid →
    Keeps kind (begins tid book) start (Begins tid (book.counters.counter + 1) ∷ older)
keeps_begins kind book start older tid k free =
    let n = book.counters.counter + 1 in
    let line = Begins tid n in
    let held : Held = record { run = begun tid n; counters = book.counters } in
    let counted : book.counters.counter ≡ counter start older = ap (λ (m : Counters). m.counter) k.counters in
    let none : held_in book.runs tid ≡ None = none_from (λ (h : Held). h.run) (held_in book.runs tid) (k.runs tid ∙ free) in
    let pushed = held_in-put_own book.runs tid held in
    record {
      of_kind = k.of_kind;
      starts = k.starts;
      right = ((free, ap (λ (c : ℕ). c + 1) counted), k.right);
      rising = k.rising;
      versions = k.versions;
      runs = runs-step start older line book.runs (with_run tid held book.runs) k.runs (ap (λ (o : Option Held). map_some (λ h. h.run) o) pushed) (λ u e. held_in-put_other book.runs tid u held e);
      counters =
          (let grows : n ≡ max n (counter start older) = omega arith in
          ap (λ (m : Counters). let x : Counters = record m { counter = n } in x) k.counters
          ∙ ap (λ (c : ℕ). let x : Counters = record (counters_after start older) { counter = c } in x) grows);
      before = λ u h m counters found sealed noted. elim (cases_Bool (same_tid tid u)) [
        | inl e ↦
            let at : held_in (with_run tid held book.runs) tid ≡ Some h = ap (λ (t : Tid). held_in (with_run tid held book.runs) t) (same_tid-equal tid u e) ∙ found in
            let is : held ≡ h = same_Some held h (sym pushed ∙ at) in
            let bad : None ≡ Some m = ap (λ (x : Held). x.run.sealed) is ∙ sealed in
            cc
        | inr e ↦ k.before u h m counters (sym (held_in-put_other book.runs tid u held e) ∙ found) sealed noted
      ];
    }

-- its begin is taken back
pub keeps_unbegins : (kind : Engine) (book : Book) (start : Start) (older : List EngineLine) (tid : Tid) (n : ℕ) → Keeps kind book start (Begins tid n ∷ older) →
    Keeps kind (unbegins tid book) start older
keeps_unbegins kind book start older tid n k =
    let line = Begins tid n in
    let free : run_at start older tid ≡ None = k.right.0.0 in
    let drawn : n ≡ counter start older + 1 = k.right.0.1 in
    let here = is_held kind book start (line ∷ older) tid (begun tid n) k (run_at_own start older line (run_at start older tid) refl) in
    let gone = held_in-without_own book.runs tid in
    let other : (u : Tid) (run : Run) → run_at start older u ≡ Some run → same_tid tid u ≡ false = λ u run h.
    elim (cases_Bool (same_tid tid u)) [
      | inl e ↦ let bad : None ≡ Some run = sym free ∙ (ap (λ (t : Tid). run_at start older t) (same_tid-equal tid u e) ∙ h) in cc
      | inr e ↦ e
    ] in
    record {
      of_kind = k.of_kind;
      starts = k.starts;
      right = k.right.1;
      rising = k.rising;
      versions = k.versions;
      runs = λ u. elim (cases_Bool (same_tid tid u)) [
        | inl e ↦
            let at : run_in (without tid book.runs) tid ≡ run_at start older tid = ap (λ (o : Option Held). map_some (λ h. h.run) o) gone ∙ sym free in
            subst (λ (t : Tid). run_in (without tid book.runs) t ≡ run_at start older t) (same_tid-equal tid u e) at
        | inr e ↦ ap (λ (o : Option Held). map_some (λ h. h.run) o) (held_in-without_other book.runs tid u e) ∙ (k.runs u ∙ run_at_other start older line u e)
      ];
      counters =
          (let age : or_else (map_some (λ h. h.run.age - 1) (held_in book.runs tid)) 0 ≡ n - 1 =
          ap (λ (o : Option Held). or_else (map_some (λ h. h.run.age - 1) o) 0) here.found ∙ ap (λ (r : Run). r.age - 1) here.run_is in
          let back : n - 1 ≡ counter start older = omega arith in
          ap (λ (m : Counters). let x : Counters = record m { counter = or_else (map_some (λ h. h.run.age - 1) (held_in book.runs tid)) 0 } in x) k.counters
          ∙ ap (λ (c : ℕ). let x : Counters = record (counters_after start older) { counter = c } in x) (age ∙ back));
      before = λ u h m counters found sealed noted. elim (cases_Bool (same_tid tid u)) [
        | inl e ↦
            let bad : None ≡ Some h = sym gone ∙ (ap (λ (t : Tid). held_in (without tid book.runs) t) (same_tid-equal tid u e) ∙ found) in
            cc
        | inr e ↦ k.before u h m counters (sym (held_in-without_other book.runs tid u e) ∙ found) sealed noted
      ];
    }

ticket_found : (o : Option Held) → or_else (map_some (λ h. or_else h.run.ticket 0) o) 0 ≡ ticket_of (map_some (λ h. h.run) o)
ticket_found None = refl
ticket_found (Some held) = refl

-- a run is sealed
pub keeps_seals : (kind : Engine) (book : Book) (start : Start) (older : List EngineLine) (tid : Tid) (n : ℕ) → Keeps kind book start older →
    IsRightLine start older (Seals tid n) → Keeps kind (seals tid n book) start (Seals tid n ∷ older)
keeps_seals kind book start older tid n k right =
    let line = Seals tid n in
    let change = sealed_with n book.counters in
    let here = is_held kind book start older tid right.0 k right.1.0.0 in
    let own = held_in-changed_own book.runs tid change in
    let found = own ∙ ap (λ (o : Option Held). map_some change o) here.found in
    record {
      of_kind = k.of_kind;
      starts = k.starts;
      right = (right, k.right);
      rising = k.rising;
      versions = k.versions;
      runs = runs-step start older line book.runs (changed_in tid change book.runs) k.runs
          (ap (λ (o : Option Held). map_some (λ h. h.run) o) found ∙ sym (ap (λ (o : Option Held). changed line (map_some (λ h. h.run) o)) here.found))
          (λ u e. held_in-changed_other book.runs tid u change e);
      counters =
          (let ticket : ticket_in book.runs tid ≡ ticket_of (run_at start older tid) = ticket_found (held_in book.runs tid) ∙ ap (λ (o : Option Run). ticket_of o) (k.runs tid) in
          ap (λ (t : ℕ). sealed_counters tid n t book.counters) ticket ∙ ap (λ (m : Counters). sealed_counters tid n (ticket_of (run_at start older tid)) m) k.counters);
      before = λ u h m counters is sealed noted. elim (cases_Bool (same_tid tid u)) [
        | inl e ↦
            let at : held_in (changed_in tid change book.runs) tid ≡ Some h = ap (λ (t : Tid). held_in (changed_in tid change book.runs) t) (same_tid-equal tid u e) ∙ is in
            let same : change here.held ≡ h = same_Some (change here.held) h (sym found ∙ at) in
            let then : Some (counters_after start older) ≡ Some counters = sym (cond-true _ _ (counters_before start older u) e) ∙ noted in
            ap (λ (x : Held). x.counters) (sym same) ∙ (k.counters ∙ same_Some (counters_after start older) counters then)
        | inr e ↦ k.before u h m counters (sym (held_in-changed_other book.runs tid u change e) ∙ is) sealed (sym (cond-false _ _ (counters_before start older u) e) ∙ noted)
      ];
    }

no_ticket : (o : Option ℕ) → is_some o ≡ false → or_else o 0 ≡ 0
no_ticket None e = refl
no_ticket (Some t) e = cc

-- a sealing without a ticket publishes nothing
nothing_published : (start : Start) (older : List EngineLine) (tid : Tid) (n : ℕ) (run : Run) → run_at start older tid ≡ Some run → has_ticket run ≡ false →
    (published start (Seals tid n ∷ older) ≡ published start older) × (owner start (Seals tid n ∷ older) ≡ owner start older)
nothing_published start older tid n run at none =
    let zero : ticket_of (run_at start older tid) ≡ 0 = ap (λ (o : Option Run). ticket_of o) at ∙ no_ticket run.ticket none in
    let p = published start older in
    let same : max 0 p ≡ p = omega arith in (
      ap (λ (t : ℕ). max t p) zero ∙ same,
      ap (λ (t : ℕ). cond (nat_lt p t) (Some tid) (owner start older)) zero ∙ cond-false _ _ _ (le-ltb p 0 (omega arith)),
    )

-- the counters before a sealing, from those after it
counters_back : (after before : Counters) (held : Held) → held.counters ≡ before → (has_ticket held.run ≡ false → (after.published ≡ before.published) × (after.owner ≡ before.owner)) →
    counters_without held after ≡ before
counters_back after before held noted still = by_ticket (has_ticket held.run) refl
  where
    counters : ℕ → ℕ → Option Tid → Counters
    counters c p o = record { counter = c; published = p; owner = o }

    by_ticket : (b : Bool) → has_ticket held.run ≡ b → cond b held.counters (counters held.counters.counter after.published after.owner) ≡ before
    by_ticket true e = noted
    by_ticket false e =
        let s = still e in
        ap (λ (c : ℕ). counters c after.published after.owner) (ap (λ (m : Counters). m.counter) noted)
        ∙ (ap (λ (p : ℕ). counters before.counter p after.owner) s.0 ∙ ap (λ (o : Option Tid). counters before.counter before.published o) s.1)

unsealed_is : (run : Run) (n : ℕ) → run.sealed ≡ None → ◌≡◌ {A = Run} (record (record run { sealed = Some n }) { sealed = None }) run
unsealed_is run n live = ap (λ (s : Option ℕ). let r : Run = record run { sealed = s } in r) (sym live)

-- its sealing is taken back
pub keeps_unseals : (kind : Engine) (book : Book) (start : Start) (older : List EngineLine) (tid : Tid) (n : ℕ) → Keeps kind book start (Seals tid n ∷ older) →
    Keeps kind (unseals tid book) start older
keeps_unseals kind book start older tid n k =
    let line = Seals tid n in
    let run = k.right.0.0 in
    let at : run_at start older tid ≡ Some run = k.right.0.1.0.0 in
    let live : run.sealed ≡ None = k.right.0.1.0.1 in
    let sealed_run : Run = record run { sealed = Some n } in
    let here = is_held kind book start (line ∷ older) tid sealed_run k (run_at_own start older line (Some run) at) in
    let own = held_in-changed_own book.runs tid not_sealed in
    let found = own ∙ ap (λ (o : Option Held). map_some not_sealed o) here.found in
    record {
      of_kind = k.of_kind;
      starts = k.starts;
      right = k.right.1;
      rising = k.rising;
      versions = k.versions;
      runs = λ u. elim (cases_Bool (same_tid tid u)) [
        | inl e ↦
            let open_run : (not_sealed here.held).run ≡ run = ap (λ (r : Run). let x : Run = record r { sealed = None } in x) here.run_is ∙ unsealed_is run n live in
            let now : run_in (changed_in tid not_sealed book.runs) tid ≡ run_at start older tid =
            ap (λ (o : Option Held). map_some (λ h. h.run) o) found ∙ (ap (λ (r : Run). Some r) open_run ∙ sym at) in
            subst (λ (t : Tid). run_in (changed_in tid not_sealed book.runs) t ≡ run_at start older t) (same_tid-equal tid u e) now
        | inr e ↦ ap (λ (o : Option Held). map_some (λ h. h.run) o) (held_in-changed_other book.runs tid u not_sealed e) ∙ (k.runs u ∙ run_at_other start older line u e)
      ];
      counters =
          (let sealed_here : here.held.run.sealed ≡ Some n = ap (λ (r : Run). r.sealed) here.run_is in
          let noted = k.before tid here.held n (counters_after start older) here.found sealed_here (cond-true _ _ _ (same_tid-refl tid)) in
          let ticket : has_ticket here.held.run ≡ has_ticket run = ap (λ (r : Run). has_ticket r) here.run_is in
          ap (λ (o : Option Held). or_else (map_some (λ h. counters_without h book.counters) o) book.counters) here.found
          ∙ counters_back book.counters (counters_after start older) here.held noted
          (λ none. let still = nothing_published start older tid n run at (sym ticket ∙ none) in
          (ap (λ (m : Counters). m.published) k.counters ∙ still.0, ap (λ (m : Counters). m.owner) k.counters ∙ still.1)));
      before = λ u h m counters is sealed noted. elim (cases_Bool (same_tid tid u)) [
        | inl e ↦
            let now : held_in (changed_in tid not_sealed book.runs) tid ≡ Some h = ap (λ (t : Tid). held_in (changed_in tid not_sealed book.runs) t) (same_tid-equal tid u e) ∙ is in
            let same : not_sealed here.held ≡ h = same_Some (not_sealed here.held) h (sym found ∙ now) in
            let bad : None ≡ Some m = ap (λ (x : Held). x.run.sealed) same ∙ sealed in
            cc
        | inr e ↦ k.before u h m counters (sym (held_in-changed_other book.runs tid u not_sealed e) ∙ is) sealed (cond-false _ _ (counters_before start older u) e ∙ noted)
      ];
    }

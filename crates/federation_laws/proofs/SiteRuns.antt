-- The operations that a site finished for an attempt, epoch by epoch: in each epoch it has one run at most, which only grows.
use Rattle.std.proofs.Common.{◌≡◌, ◌⊎◌, ℕ, ◌≤◌, ◌<◌, ◌==◌, Bool, true, false, cond, ◌||◌, is_some, Option, Some, None, List, [], ◌∷◌, ◌++◌, length, inl, inr, refl, sym, ap, subst, ◌∙◌, eqb-true, eq-eqb, arith}
use Rattle.std.proofs.lemmas.Bool.{or_left, or_right, or_cases}
use Rattle.mdb_base.specs.declared.names.Tid.{Tid}
use Rattle.mdb_base.specs.Names.{same_tid}
use Rattle.mdb_base.specs.Words.{Each, some_of}
use Rattle.mdb_base.proofs.ForCallers.{not_same_after, same_tid-refl}
use Rattle.presumptions.specs.declared.Protocol.{Protocol}
use Rattle.fed_rules.specs.declared.events.SiteEvent.{SiteEvent}
use Rattle.fed_rules.specs.declared.records.SiteRecord.{SiteRecord}
use Rattle.fed_rules.specs.declared.records.SiteRecord.TheVariants as Rec
use Rattle.fed_rules.specs.Happenings.{stops, comes_up, is_down}
use Rattle.fed_rules.specs.Runs.{Access, Run, run_at}
use Rattle.fed_rules.specs.Site.{is_over}
use Rattle.fed_rules.specs.SitePast.{SiteHappening, SitePast, disk, records, epoch, epoch_start, engine_lines, live, live_one, decides_on, ends, is_closed}
use Rattle.fed_rules.specs.SiteRecords.{Home, site_frame, epoch_of, doubt_of, start_of}
use Rattle.fed_rules.specs.Durable.{IsFirm}
use Rattle.commit_laws.specs.Records.{IsLooseEnded}
use Rattle.commit_laws.proofs.ForCallers.{Kept, Line, Wrote, epoch-grows, restored-sealed}
use Rattle.federation_laws.proofs.SiteMoves.{run_ops, ops_of, IsFrom, Grown, Goes, Move, Same, Going, Ending, Moves}

abbrev pub ops_or : Option Run → List (Option Access) → List (Option Access)
ops_or None old = old
ops_or (Some run) old = run_ops run

-- the operations that the attempt's run finished in this epoch, the last one first
abbrev pub site_ops : Home → SitePast → Tid → ℕ → List (Option Access)
site_ops home [] g e = []
site_ops home (x ∷ past) g e = cond (e == epoch home (x ∷ past)) (ops_or (live home (x ∷ past) g) (site_ops home past g e)) (site_ops home past g e)

-- what holds of the runs of an attempt
pub record RunsHold (home : Home) (past : SitePast) (g : Tid) : Type 0 where
  pub firm : IsFirm site_frame (IsLooseEnded home.protocol) (disk home past)
  pub some : 0 < epoch home past
  pub zeroth : site_ops home past g 0 ≡ []
  pub future : (e : ℕ) → epoch home past < e → site_ops home past g e ≡ []
  pub quiet : live home past g ≡ None → is_over home past g ≡ false → is_down past ≡ false → site_ops home past g (epoch home past) ≡ []
  pub now : (run : Run) → live home past g ≡ Some run → site_ops home past g (epoch home past) ≡ run_ops run

wrote-epoch : (home : Home) (g : Tid) (past : SitePast) (event : SiteEvent) (r : SiteRecord) → Wrote home g past event r → epoch home past ≤ epoch_of (r ∷ records home past)
wrote-epoch home g past event (Rec.Start e) w = omega (arith, w)
wrote-epoch home g past event (Rec.Setup site engine p items) w = omega arith
wrote-epoch home g past event (Rec.Checkpoint sum) w = omega arith
wrote-epoch home g past event (Rec.Prepared tid e number ticket writes) w = omega arith
wrote-epoch home g past event (Rec.Ended tid decision) w = omega arith
wrote-epoch home g past event (Rec.Local tid number writes) w = omega arith

-- a doubt stays, but where the attempt is decided on
ended-doubt : (protocol : Protocol) (newer now : List SiteRecord) (g : Tid) → Each (IsLooseEnded protocol) newer → is_some (doubt_of (newer ++ now) g) ≡ true → is_some (doubt_of now g) ≡ true
ended-doubt protocol [] now g h d = d
ended-doubt protocol (Rec.Ended tid decision ∷ newer) now g h d = by_test (same_tid tid g) d (ended-doubt protocol newer now g h.1)
  where
    by_test : (t : Bool) → is_some (cond t None (doubt_of (newer ++ now) g)) ≡ true → (is_some (doubt_of (newer ++ now) g) ≡ true → is_some (doubt_of now g) ≡ true) → is_some (doubt_of now g) ≡ true
    by_test true d k = cc
    by_test false d k = k d
ended-doubt protocol (Rec.Setup site engine p items ∷ newer) now g h d = absurd h.0
ended-doubt protocol (Rec.Checkpoint sum ∷ newer) now g h d = absurd h.0
ended-doubt protocol (Rec.Start e ∷ newer) now g h d = absurd h.0
ended-doubt protocol (Rec.Prepared tid e number ticket writes ∷ newer) now g h d = absurd h.0
ended-doubt protocol (Rec.Local tid number writes ∷ newer) now g h d = absurd h.0

wrote-doubt : (home : Home) (g : Tid) (past : SitePast) (event : SiteEvent) (r : SiteRecord) → Wrote home g past event r → is_some (doubt_of (records home past) g) ≡ true → (is_some (doubt_of (r ∷ records home past) g) ≡ true) ⊎ (decides_on g event ≡ true)
wrote-doubt home g past event (Rec.Start e) w d = inl d
wrote-doubt home g past event (Rec.Setup site engine p items) w d = inl d
wrote-doubt home g past event (Rec.Checkpoint sum) w d = inl d
wrote-doubt home g past event (Rec.Local tid number writes) w d = inl d
wrote-doubt home g past event (Rec.Prepared tid e number ticket writes) w d = inl (by_test (same_tid tid g))
  where
    by_test : (t : Bool) → is_some (cond t (Some (record { tid = tid; epoch = e; number = number; ticket = ticket; writes = writes })) (doubt_of (records home past) g)) ≡ true
    by_test true = refl
    by_test false = d
wrote-doubt home g past event (Rec.Ended tid decision) w d = by_test (same_tid tid g) refl
  where
    by_test : (t : Bool) → same_tid tid g ≡ t → (is_some (cond (same_tid tid g) None (doubt_of (records home past) g)) ≡ true) ⊎ (decides_on g event ≡ true)
    by_test true q = inr (let settling = w q in ap (decides_on g) settling.taken ∙ same_tid-refl g)
    by_test false q = inl (ap (λ b. is_some (cond b None (doubt_of (records home past) g))) q ∙ d)

kept-doubt : (home : Home) (g : Tid) (past : SitePast) (event : SiteEvent) (now : List SiteRecord) → Kept home g past event now → is_some (doubt_of (records home past) g) ≡ true → (is_some (doubt_of now g) ≡ true) ⊎ (decides_on g event ≡ true)
kept-doubt home g past event now (inl (r, w, e)) d = subst (λ rs. (is_some (doubt_of rs g) ≡ true) ⊎ (decides_on g event ≡ true)) (sym e) (wrote-doubt home g past event r w d)
kept-doubt home g past event now (inr (newer, loose, e)) d = inl (ended-doubt home.protocol newer now g loose (sym (ap (λ rs. is_some (doubt_of rs g)) e) ∙ d))

closed-next : (past : SitePast) (g : Tid) (x : SiteHappening) → comes_up x.answer ≡ false → (decides_on g x.event ≡ true) ⊎ (is_closed past g ≡ true) → is_closed (x ∷ past) g ≡ true
closed-next past g x up h = ap (λ t. cond t false ((decides_on g x.event || some_of (ends g) x.lines) || is_closed past g)) up ∙ of_case h
  where
    of_case : (decides_on g x.event ≡ true) ⊎ (is_closed past g ≡ true) → ((decides_on g x.event || some_of (ends g) x.lines) || is_closed past g) ≡ true
    of_case (inl d) = or_left (decides_on g x.event || some_of (ends g) x.lines) (is_closed past g) (or_left (decides_on g x.event) (some_of (ends g) x.lines) d)
    of_case (inr c) = or_right (decides_on g x.event || some_of (ends g) x.lines) (is_closed past g) c

-- an attempt that takes no operation takes none in this epoch
over-stays : (home : Home) (g : Tid) (past : SitePast) (event : SiteEvent) (x : SiteHappening) → Line home g past event x → comes_up x.answer ≡ false → is_over home past g ≡ true → is_over home (x ∷ past) g ≡ true
over-stays home g past event x line up over = of_case (or_cases (is_closed past g) (is_some (doubt_of (records home past) g)) over)
  where
    closed : (decides_on g x.event ≡ true) ⊎ (is_closed past g ≡ true) → is_over home (x ∷ past) g ≡ true
    closed h = or_left (is_closed (x ∷ past) g) (is_some (doubt_of (records home (x ∷ past)) g)) (closed-next past g x up h)

    of_case : (is_closed past g ≡ true) ⊎ (is_some (doubt_of (records home past) g) ≡ true) → is_over home (x ∷ past) g ≡ true
    of_case (inl c) = closed (inr c)
    of_case (inr d) = elim (kept-doubt home g past event (records home (x ∷ past)) line.kept d) [
      | inl still ↦ or_right (is_closed (x ∷ past) g) (is_some (doubt_of (records home (x ∷ past)) g)) still
      | inr decided ↦ closed (inl (ap (decides_on g) line.is ∙ decided))
    ]

-- where a run is live after a line, the line neither stopped the site nor started it
pub live-plain : (home : Home) (past : SitePast) (x : SiteHappening) (g : Tid) (run : Run) → live home (x ∷ past) g ≡ Some run → (stops x.answer || comes_up x.answer) ≡ false
live-plain home past x g run e = by_test (stops x.answer || comes_up x.answer) refl e
  where
    by_test : (t : Bool) → (stops x.answer || comes_up x.answer) ≡ t → live_one (run_at (cond t (start_of home (records home (x ∷ past))) (epoch_start home past)) (cond t [] (x.lines ++ engine_lines past)) g) ≡ Some run → (stops x.answer || comes_up x.answer) ≡ false
    by_test true q e = (let none = restored-sealed (start_of home (records home (x ∷ past))).doubtful g in let clash = sym none ∙ e in cc)
    by_test false q e = q

-- of another epoch nothing changes
ops-elsewhere : (home : Home) (past : SitePast) (x : SiteHappening) (g : Tid) (e : ℕ) → (e == epoch home (x ∷ past)) ≡ false → site_ops home (x ∷ past) g e ≡ site_ops home past g e
ops-elsewhere home past x g e q = ap (λ t. cond t (ops_or (live home (x ∷ past) g) (site_ops home past g e)) (site_ops home past g e)) q

ops-here : (home : Home) (past : SitePast) (x : SiteHappening) (g : Tid) → site_ops home (x ∷ past) g (epoch home (x ∷ past)) ≡ ops_or (live home (x ∷ past) g) (site_ops home past g (epoch home (x ∷ past)))
ops-here home past x g = ap (λ t. cond t (ops_or (live home (x ∷ past) g) (site_ops home past g (epoch home (x ∷ past)))) (site_ops home past g (epoch home (x ∷ past)))) (eq-eqb (epoch home (x ∷ past)) (epoch home (x ∷ past)) refl)

ops-none : (home : Home) (past : SitePast) (x : SiteHappening) (g : Tid) (e : ℕ) → live home (x ∷ past) g ≡ None → site_ops home (x ∷ past) g e ≡ site_ops home past g e
ops-none home past x g e none = by_test (e == epoch home (x ∷ past))
  where
    by_test : (t : Bool) → cond t (ops_or (live home (x ∷ past) g) (site_ops home past g e)) (site_ops home past g e) ≡ site_ops home past g e
    by_test true = ap (λ o. ops_or o (site_ops home past g e)) none
    by_test false = refl

-- in each epoch the operations stay, or in this one there is one more
pub data Growth (home : Home) (past : SitePast) (g : Tid) (event : SiteEvent) (x : SiteHappening) (e : ℕ) : Type 0 where
  Stays : site_ops home (x ∷ past) g e ≡ site_ops home past g e → Growth home past g event x e
  Grows : (op : Option Access) → e ≡ epoch home past → site_ops home (x ∷ past) g e ≡ op ∷ site_ops home past g e → IsFrom g event op (length (site_ops home past g e)) → Growth home past g event x e

-- what was done in this epoch is what the live run did, or nothing where none was live and one begins
before-ops : (home : Home) (past : SitePast) (g : Tid) (event : SiteEvent) (x : SiteHappening) → RunsHold home past g → Goes home g past event x → ops_of (live home past g) ≡ site_ops home past g (epoch home past)
before-ops home past g event x h goes = of_live (live home past g) refl
  where
    of_live : (o : Option Run) → live home past g ≡ o → ops_of (live home past g) ≡ site_ops home past g (epoch home past)
    of_live None e = let open_ = goes.opens e in ap ops_of e ∙ sym (h.quiet e open_.0 open_.1)
    of_live (Some run) e = ap ops_of e ∙ sym (h.now run e)

growth-here : (home : Home) (past : SitePast) (g : Tid) (event : SiteEvent) (x : SiteHappening) → RunsHold home past g → Moves home g past event x → (run : Run) → live home (x ∷ past) g ≡ Some run → Growth home past g event x (epoch home (x ∷ past))
growth-here home past g event x h m run alive = of_move m.move
  where
    plain : (stops x.answer || comes_up x.answer) ≡ false
    plain = live-plain home past x g run alive

    same : epoch home (x ∷ past) ≡ epoch home past
    same = m.calm plain

    ops : site_ops home (x ∷ past) g (epoch home (x ∷ past)) ≡ run_ops run
    ops = ops-here home past x g ∙ ap (λ o. ops_or o (site_ops home past g (epoch home (x ∷ past)))) alive

    of_move : Move home g past event x → Growth home past g event x (epoch home (x ∷ past))
    of_move (Same s) =
        Stays (ops ∙ (sym (h.now run (sym s ∙ alive)) ∙ ap (site_ops home past g) (sym same)))
    of_move (Ending e) = (let none = e.none in let clash = sym none ∙ alive in cc)
    of_move (Going goes) = grown goes.grown
      where
        before : ops_of (live home past g) ≡ site_ops home past g (epoch home (x ∷ past))
        before = before-ops home past g event x h goes ∙ ap (site_ops home past g) (sym same)

        now : site_ops home (x ∷ past) g (epoch home (x ∷ past)) ≡ ops_of (live home (x ∷ past) g)
        now = ops ∙ sym (ap ops_of alive)

        grown : Grown g event (ops_of (live home past g)) (ops_of (live home (x ∷ past) g)) → Growth home past g event x (epoch home (x ∷ past))
        grown (inl e) = Stays (now ∙ (e ∙ before))
        grown (inr (op, e, from)) = Grows op same (now ∙ (e ∙ ap (λ ops. op ∷ ops) before)) (subst (λ ops. IsFrom g event op (length ops)) before from)

pub growth : (home : Home) (past : SitePast) (g : Tid) (event : SiteEvent) (x : SiteHappening) → RunsHold home past g → Moves home g past event x → (e : ℕ) → Growth home past g event x e
growth home past g event x h m e = by_test (e == epoch home (x ∷ past)) refl
  where
    by_live : (o : Option Run) → live home (x ∷ past) g ≡ o → e ≡ epoch home (x ∷ past) → Growth home past g event x e
    by_live None none q = Stays (ops-none home past x g e none)
    by_live (Some run) alive q = subst (Growth home past g event x) (sym q) (growth-here home past g event x h m run alive)

    by_test : (t : Bool) → (e == epoch home (x ∷ past)) ≡ t → Growth home past g event x e
    by_test true q = by_live (live home (x ∷ past) g) refl (eqb-true e (epoch home (x ∷ past)) q)
    by_test false q = Stays (ops-elsewhere home past x g e q)

-- what holds of the runs holds after each line
quiet-next : (home : Home) (past : SitePast) (g : Tid) (event : SiteEvent) (x : SiteHappening) → RunsHold home past g → Moves home g past event x → Line home g past event x
    → live home (x ∷ past) g ≡ None → is_over home (x ∷ past) g ≡ false → is_down (x ∷ past) ≡ false → site_ops home (x ∷ past) g (epoch home (x ∷ past)) ≡ []
quiet-next home past g event x h m line none over up = ops-none home past x g (epoch home (x ∷ past)) none ∙ by_test (comes_up x.answer) refl
  where
    stopped : (t : Bool) → stops x.answer ≡ t → stops x.answer ≡ false
    stopped true e = (let down : is_down (x ∷ past) ≡ true = ap (λ t. cond t true (cond (comes_up x.answer) false (is_down past))) e in let clash = sym down ∙ up in cc)
    stopped false e = e

    going : stops x.answer ≡ false
    going = stopped (stops x.answer) refl

    was_up : comes_up x.answer ≡ false → is_down past ≡ false
    was_up c = sym (ap (λ t. cond t true (cond (comes_up x.answer) false (is_down past))) going ∙ ap (λ t. cond t false (is_down past)) c) ∙ up

    was_open : comes_up x.answer ≡ false → (t : Bool) → is_over home past g ≡ t → is_over home past g ≡ false
    was_open c true e = (let still = over-stays home g past event x line c e in let clash = sym still ∙ over in cc)
    was_open c false e = e

    of_move : comes_up x.answer ≡ false → Move home g past event x → site_ops home past g (epoch home past) ≡ []
    of_move c (Same s) = h.quiet (sym s ∙ none) (was_open c (is_over home past g) refl) (was_up c)
    of_move c (Ending e) = elim (e.shut) [
      | inl shut ↦ (let clash = sym shut ∙ over in cc)
      | inr (inl down) ↦ (let clash = sym down ∙ up in cc)
      | inr (inr ups) ↦ (let clash = sym ups ∙ c in cc)
    ]
    of_move c (Going goes) = grown goes.grown
      where
        grown : Grown g event (ops_of (live home past g)) (ops_of (live home (x ∷ past) g)) → site_ops home past g (epoch home past) ≡ []
        grown (inl e) = sym (before-ops home past g event x h goes) ∙ (sym e ∙ ap ops_of none)
        grown (inr (op, e, from)) = (let clash : [] ≡ op ∷ ops_of (live home past g) = sym (ap ops_of none) ∙ e in cc)

    plain : (a b : Bool) → a ≡ false → b ≡ false → (a || b) ≡ false
    plain a b e f = ap (λ t. t || b) e ∙ f

    by_test : (t : Bool) → comes_up x.answer ≡ t → site_ops home past g (epoch home (x ∷ past)) ≡ []
    by_test true c = h.future (epoch home (x ∷ past)) (line.rises c)
    by_test false c = ap (site_ops home past g) (m.calm (plain (stops x.answer) (comes_up x.answer) going c)) ∙ of_move c m.move

pub runs-next : (home : Home) (past : SitePast) (g : Tid) (event : SiteEvent) (x : SiteHappening) → Moves home g past event x → Line home g past event x → RunsHold home past g → RunsHold home (x ∷ past) g
runs-next home past g event x m line h =
    let rises = epoch-grows home g past event (records home (x ∷ past)) line.kept in
    let first = h.some in
    record {
      firm = line.firm;
      some = omega (arith, rises, first);
      zeroth = ops-elsewhere home past x g 0 (by_test (0 == epoch home (x ∷ past)) refl (omega (arith, rises, first))) ∙ h.zeroth;
      future = λ e less. ops-elsewhere home past x g e (not_same_after e (epoch home (x ∷ past)) less) ∙ h.future e (omega (arith, less, rises));
      quiet = quiet-next home past g event x h m line;
      now = λ run alive. ops-here home past x g ∙ ap (λ o. ops_or o (site_ops home past g (epoch home (x ∷ past)))) alive;
    }
  where
    by_test : (t : Bool) → (0 == epoch home (x ∷ past)) ≡ t → 0 < epoch home (x ∷ past) → (0 == epoch home (x ∷ past)) ≡ false
    by_test true q less = (let same = eqb-true 0 (epoch home (x ∷ past)) q in absurd (omega (arith, less, same)))
    by_test false q less = q

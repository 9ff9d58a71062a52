-- The records of a coordinator stand in order: of each attempt an Initiation first, then one decision, then one End.
use Rattle.std.proofs.Common.{◌≡◌, ◌≤◌, ◌⊎◌, suc, Bool, true, false, cond, not, ◌&&◌, is_some, Some, None, List, [], ◌∷◌, ◌++◌, length, refl, sym, ap, subst, ◌∙◌, inl, inr, arith}
use Rattle.mdb_base.specs.declared.names.Tid.{Tid}
use Rattle.mdb_base.specs.Names.{same_tid}
use Rattle.mdb_base.specs.Words.{Among, or_else, those}
use Rattle.mdb_base.proofs.ForCallers.{among_split}
use Rattle.order_laws.proofs.ForCallers.{each_not, same_of}
use Rattle.presumptions.specs.declared.Decision.{Decision}
use Rattle.presumptions.specs.declared.Decision.TheVariants as Decided
use Rattle.presumptions.specs.declared.Participant.{Participant}
use Rattle.fed_rules.specs.declared.events.CoordEvent.{CoordEvent}
use Rattle.fed_rules.specs.declared.records.CoordRecord.{CoordRecord}
use Rattle.fed_rules.specs.declared.records.CoordRecord.TheVariants.{Initiation, Commit, Abort, End, Checkpoint}
use Rattle.fed_rules.specs.Coord.{missing}
use Rattle.fed_rules.specs.CoordPast.{CoordHappening, CoordPast, records, standing, standing_of, Undecided, Decided, Gone, has_acked}
use Rattle.fed_rules.specs.CoordRecords.{acking, class_of, ends_at_once, has_commit, has_end, is_kept, is_nobody, named, outcome, required, required_of, ticketed}
use Rattle.fed_rules.specs.Policies.{Policy}
use Rattle.fed_rules.specs.Usable.{IsAnyOf, IsDecidedOf, IsEndOf}
use Rattle.fed_rules.proofs.ForCallers.{appended}
use Rattle.fed_rules.specs.Found.{Journal}
use Rattle.fed_rules.specs.Reopened.{opened_coordinator}
use Rattle.coord_laws.specs.Pasts.{IsGoingOn, IsMadeByEvents, IsNextLine}
use Rattle.coord_laws.proofs.ForCallers.{CoordSound, Decides, Forgets, IsMark, IsOpen, IsUnmarked, Kept, Restarts, Same, Starts, Stood, Stopped, Through, Turn, Wrote, WroteAll, among_end, any_member, decided_not_open, end_mark, fresh, going_on, is_undecided, kept_from, kept_not_open, kept_standing, line_fine, named_more, named_some, next_turn, none_required, past_sound}

-- an Abort of the attempt
abbrev pub IsAbortOf : Tid → CoordRecord → Type 0
IsAbortOf g (Abort t ms) = t ≡ g
IsAbortOf g kept = ⊥

-- no record of the attempt stands before its Initiation, none but an Initiation before its decision, and no End before its End, where a commit isn't
-- forgotten at once
abbrev pub IsOrderly : List Participant → Tid → List CoordRecord → Type 0
IsOrderly protocols g [] = Unit {0}
IsOrderly protocols g (Initiation t ms ∷ rs) = (same_tid t g ≡ true → Among (IsAnyOf g) rs → ⊥) × IsOrderly protocols g rs
IsOrderly protocols g (Commit t ks ∷ rs) = (same_tid t g ≡ true → Among (IsDecidedOf g) rs → ⊥) × IsOrderly protocols g rs
IsOrderly protocols g (Abort t ms ∷ rs) = (same_tid t g ≡ true → Among (IsDecidedOf g) rs → ⊥) × IsOrderly protocols g rs
IsOrderly protocols g (End t ∷ rs) =
    (same_tid t g ≡ true → (Among (IsEndOf g) rs → ⊥)
    × (has_commit rs g ≡ true → (ms : List Participant) → named protocols rs g ≡ Some ms → ends_at_once (class_of ms) ≡ false))
    × IsOrderly protocols g rs
IsOrderly protocols g (Checkpoint sum ∷ rs) = IsOrderly protocols g rs

-- what is known of a past: an attempt with an Abort isn't open, the decision of one with an End isn't known, and its records stand in order
pub record IsSettled (protocols : List Participant) (g : Tid) (past : CoordPast) : Type 0 where
  pub aborted : Among (IsAbortOf g) (records past) → IsOpen protocols past g → ⊥
  pub ended : Among (IsEndOf g) (records past) → (d : Decision) → standing protocols past g ≡ Decided d → ⊥
  pub order : IsOrderly protocols g (records past)

-- ---- lists of records

named_by : (protocols : List Participant) (g : Tid) (r : CoordRecord) (rs : List CoordRecord) → IsAnyOf g r
    → (is_some (named protocols (r ∷ rs) g) ≡ true) ⊎ Among (IsEndOf g) (r ∷ rs)
named_by protocols g (Initiation t ms) rs e = inl (ap (λ b. is_some (cond b (Some ms) (named protocols rs g))) (same_of t g e))
named_by protocols g (Commit t ks) rs e =
    inl (ap (λ b. is_some (cond b (Some (or_else (named protocols rs g) (ticketed protocols ks))) (named protocols rs g))) (same_of t g e))
named_by protocols g (Abort t ms) rs e = inl (ap (λ b. is_some (cond b (Some (or_else (named protocols rs g) ms)) (named protocols rs g))) (same_of t g e))
named_by protocols g (End t) rs e = inr (inl e)
named_by protocols g (Checkpoint sum) rs e = absurd e

-- an attempt with a record is named, or has an End
any_named : (protocols : List Participant) (g : Tid) (rs : List CoordRecord) → Among (IsAnyOf g) rs
    → (is_some (named protocols rs g) ≡ true) ⊎ Among (IsEndOf g) rs
any_named protocols g [] m = absurd m
any_named protocols g (r ∷ rs) (inl e) = named_by protocols g r rs e
any_named protocols g (r ∷ rs) (inr m) = elim (any_named protocols g rs m) [
  | inl some ↦ inl (named_more protocols g (r ∷ []) rs some)
  | inr ended ↦ inr (inr ended)
]

abort_any : (g : Tid) (r : CoordRecord) → IsAbortOf g r → IsAnyOf g r
abort_any g (Abort t ms) e = e
abort_any g (Initiation t ms) e = absurd e
abort_any g (Commit t ks) e = absurd e
abort_any g (End t) e = absurd e
abort_any g (Checkpoint sum) e = absurd e

abort_named : (protocols : List Participant) (g : Tid) (rs : List CoordRecord) → Among (IsAbortOf g) rs → is_some (named protocols rs g) ≡ true
abort_named protocols g [] m = absurd m
abort_named protocols g (Abort t ms ∷ rs) (inl e) = ap (λ b. is_some (cond b (Some (or_else (named protocols rs g) ms)) (named protocols rs g))) (same_of t g e)
abort_named protocols g (Initiation t ms ∷ rs) (inl e) = absurd e
abort_named protocols g (Commit t ks ∷ rs) (inl e) = absurd e
abort_named protocols g (End t ∷ rs) (inl e) = absurd e
abort_named protocols g (Checkpoint sum ∷ rs) (inl e) = absurd e
abort_named protocols g (r ∷ rs) (inr m) = named_more protocols g (r ∷ []) rs (abort_named protocols g rs m)

-- who is decided or ended has a mark or an Abort
decided_marks : (g : Tid) (rs : List CoordRecord) → Among (IsDecidedOf g) rs → Among (IsMark g) rs ⊎ Among (IsAbortOf g) rs
decided_marks g [] m = absurd m
decided_marks g (Initiation t ms ∷ rs) (inl e) = absurd e
decided_marks g (Commit t ks ∷ rs) (inl e) = inl (inl e)
decided_marks g (Abort t ms ∷ rs) (inl e) = inr (inl e)
decided_marks g (End t ∷ rs) (inl e) = inl (inl e)
decided_marks g (Checkpoint sum ∷ rs) (inl e) = absurd e
decided_marks g (r ∷ rs) (inr m) = elim (decided_marks g rs m) [ inl i ↦ inl (inr i) | inr i ↦ inr (inr i) ]

-- ---- the next line

abort_unmarked : (g : Tid) (r : CoordRecord) → IsUnmarked g r → IsAbortOf g r → ⊥
abort_unmarked g (Abort t ms) u m = let s = same_of t g m in let clash : true ≡ false = sym s ∙ u in cc
abort_unmarked g (Commit t ks) u m = m
abort_unmarked g (End t) u m = m
abort_unmarked g (Initiation t ms) u m = m
abort_unmarked g (Checkpoint sum) u m = m

end_unmarked : (g : Tid) (r : CoordRecord) → IsUnmarked g r → IsEndOf g r → ⊥
end_unmarked g (End t) u m = let s = same_of t g m in let clash : true ≡ false = sym s ∙ u in cc
end_unmarked g (Abort t ms) u m = m
end_unmarked g (Commit t ks) u m = m
end_unmarked g (Initiation t ms) u m = m
end_unmarked g (Checkpoint sum) u m = m

-- an End that a line appends is of a decided attempt
written_end : (protocols : List Participant) (g : Tid) (past : CoordPast) (event : CoordEvent) (kept : List CoordRecord)
    → WroteAll protocols g past event kept → Among (IsEndOf g) kept → (d : Decision) × (standing protocols past g ≡ Decided d)
written_end protocols g past event [] w m = absurd m
written_end protocols g past event (End t ∷ kept) w (inl e) = let r = w.0 (same_of t g e) in (r.decision, r.known)
written_end protocols g past event (Initiation t ms ∷ kept) w (inl e) = absurd e
written_end protocols g past event (Commit t ks ∷ kept) w (inl e) = absurd e
written_end protocols g past event (Abort t ms ∷ kept) w (inl e) = absurd e
written_end protocols g past event (Checkpoint sum ∷ kept) w (inl e) = absurd e
written_end protocols g past event (r ∷ kept) w (inr m) = written_end protocols g past event kept w.1 m

known_closed : (protocols : List Participant) (g : Tid) (past : CoordPast) (d : Decision) → standing protocols past g ≡ Decided d
    → IsOpen protocols past g → ⊥
known_closed protocols g past d e o = let no : is_undecided (Decided d) ≡ true = ap is_undecided (sym e) ∙ o in cc

next_aborted : (protocols : List Participant) (g : Tid) (past : CoordPast) (event : CoordEvent) (x : CoordHappening)
    → Turn protocols any_member g past event x → IsSettled protocols g past
    → Among (IsAbortOf g) (records (x ∷ past)) → IsOpen protocols (x ∷ past) g → ⊥
next_aborted protocols g past event x t s m h = by_stood t.line.stood
  where
    by_stood : Stood protocols g past x → ⊥
    by_stood (Stopped b e a stop) = kept_not_open protocols (records (x ∷ past)) g (ap is_undecided (sym e) ∙ h)
    by_stood (Through (Same e b u a) r) = elim
        (among_split (IsAbortOf g) (appended x.calls []) (records past) (subst (Among (IsAbortOf g)) r m)) [
          | inl i ↦ each_not (IsUnmarked g) (IsAbortOf g) (abort_unmarked g) (appended x.calls []) u i
          | inr i ↦ s.aborted i (ap is_undecided (sym e) ∙ h)
        ]
    by_stood (Through (Starts b e n steps v) r) =
        let old : Among (IsAbortOf g) (records past) = subst (Among (IsAbortOf g)) (r ∙ ap (λ news. news ++ records past) n) m in
        let some = named_some (named protocols (records past) g) (abort_named protocols g (records past) old) in
        let f = fresh protocols any_member g past event x t (t.sound.names some.0 some.1).0 in
        let no : true ≡ false = sym b ∙ f in cc
    by_stood (Through (Decides d f o b e n by a) r) = decided_not_open f d (ap is_undecided (sym e) ∙ h)
    by_stood (Through (Forgets d o b e n ends a) r) = let no : is_undecided Gone ≡ true = ap is_undecided (sym e) ∙ h in cc
    by_stood (Through (Restarts b e a stop) r) = kept_not_open protocols (records (x ∷ past)) g (ap is_undecided (sym e) ∙ h)

-- behind a stop or a start an attempt with an End isn't known
kept_ended : (protocols : List Participant) (g : Tid) (rs : List CoordRecord) (d : Decision) → has_end rs g ≡ true → kept_standing protocols rs g ≡ Decided d → ⊥
kept_ended protocols g rs d e h =
    let none : is_kept protocols rs g ≡ false = ap (λ c. not c && not (is_nobody (required protocols rs g (outcome rs g)))) e in
    let no : Gone ≡ Decided d = sym (ap (λ k. standing_of false (cond k (Some (outcome rs g)) None)) none) ∙ h in cc

next_ended : (protocols : List Participant) (g : Tid) (past : CoordPast) (event : CoordEvent) (x : CoordHappening)
    → Turn protocols any_member g past event x → (Among (IsEndOf g) (records past) → (d : Decision) → standing protocols past g ≡ Decided d → ⊥)
    → Among (IsEndOf g) (records (x ∷ past)) → (d : Decision) → standing protocols (x ∷ past) g ≡ Decided d → ⊥
next_ended protocols g past event x t old m d is = by_stood t.line.stood
  where
    ended : has_end (records (x ∷ past)) g ≡ true
    ended = among_end g (records (x ∷ past)) m

    by_stood : Stood protocols g past x → ⊥
    by_stood (Stopped b e a stop) = kept_ended protocols g (records (x ∷ past)) d ended (sym e ∙ is)
    by_stood (Through (Same e b u a) r) = elim
        (among_split (IsEndOf g) (appended x.calls []) (records past) (subst (Among (IsEndOf g)) r m)) [
          | inl i ↦ each_not (IsUnmarked g) (IsEndOf g) (end_unmarked g) (appended x.calls []) u i
          | inr i ↦ old i d (sym e ∙ is)
        ]
    by_stood (Through (Starts b e n steps v) r) = let no : Undecided ≡ Decided d = sym e ∙ is in cc
    by_stood (Through (Decides made f o b e n by a) r) = elim (kept_from protocols g past event (records (x ∷ past)) (IsEndOf g) t.line.kept m) [
      | inl i ↦ (t.sound.marked (end_mark g (records past) i)).1 o
      | inr (kept, w, q, i) ↦ (let known = written_end protocols g past event kept w i in known_closed protocols g past known.0 known.1 o)
    ]
    by_stood (Through (Forgets made k b e n ends a) r) = let no : Gone ≡ Decided d = sym e ∙ is in cc
    by_stood (Through (Restarts b e a stop) r) = kept_ended protocols g (records (x ∷ past)) d ended (sym e ∙ is)

order_behind : (protocols : List Participant) (g : Tid) (r : CoordRecord) (rs : List CoordRecord) → IsOrderly protocols g (r ∷ rs) → IsOrderly protocols g rs
order_behind protocols g (Initiation t ms) rs o = o.1
order_behind protocols g (Commit t ks) rs o = o.1
order_behind protocols g (Abort t ms) rs o = o.1
order_behind protocols g (End t) rs o = o.1
order_behind protocols g (Checkpoint sum) rs o = o

pub order_front : (protocols : List Participant) (g : Tid) (newer rs : List CoordRecord) → IsOrderly protocols g (newer ++ rs) → IsOrderly protocols g rs
order_front protocols g [] rs o = o
order_front protocols g (r ∷ newer) rs o = order_front protocols g newer rs (order_behind protocols g r (newer ++ rs) o)

-- an undecided attempt has no decision and no End
open_free : (protocols : List Participant) (g : Tid) (past : CoordPast) → CoordSound protocols any_member g past → IsSettled protocols g past
    → IsOpen protocols past g → Among (IsDecidedOf g) (records past) → ⊥
open_free protocols g past sound s o m = elim (decided_marks g (records past) m) [
  | inl i ↦ (sound.marked i).1 o
  | inr i ↦ s.aborted i o
]

-- where a decided attempt committed, some acknowledgement of the commit is required
awaited : (protocols : List Participant) (g : Tid) (past : CoordPast) → CoordSound protocols any_member g past → (d : Decision)
    → standing protocols past g ≡ Decided d → has_commit (records past) g ≡ true → (ms : List Participant) → named protocols (records past) g ≡ Some ms
    → ends_at_once (class_of ms) ≡ false
awaited protocols g past sound d known c ms e = by_test (ends_at_once (class_of ms)) refl
  where
    is_commit : d ≡ Decided.Commit
    is_commit = (sound.decided d known).1 ∙ ap (λ b. cond b Decided.Commit Decided.Abort) c

    by_test : (b : Bool) → ends_at_once (class_of ms) ≡ b → ends_at_once (class_of ms) ≡ false
    by_test false q = q
    by_test true q =
        let all : required protocols (records past) g d ≡ [] = ap (required_of d) e ∙ ap (λ k. acking k ms) is_commit ∙ none_required ms q in
        let none : is_nobody (missing protocols past g d) ≡ true = ap (λ ns. is_nobody (those (λ member. not (has_acked past g member.site)) ns)) all in
        let no : true ≡ false = sym none ∙ sound.waits d known in cc

-- one more record
order_more : (protocols : List Participant) (g : Tid) (past : CoordPast) (event : CoordEvent) (r : CoordRecord) → CoordSound protocols any_member g past
    → IsSettled protocols g past → Wrote protocols g past event [] r → IsOrderly protocols g (r ∷ records past)
order_more protocols g past event (Initiation t ms) sound s w = (
  (λ own m.
      let (open_now, is, none) = w own in
      elim (any_named protocols g (records past) m) [
        | inl some ↦ (let no : false ≡ true = sym (ap is_some none) ∙ some in cc)
        | inr ended ↦ (sound.marked (end_mark g (records past) ended)).1 open_now
      ]),
  s.order,
)
order_more protocols g past event (Commit t ks) sound s w = ((λ own m. open_free protocols g past sound s (w own).0.undecided m), s.order)
order_more protocols g past event (Abort t ms) sound s w = ((λ own m. open_free protocols g past sound s (w own).0 m), s.order)
order_more protocols g past event (End t) sound s w = (
  (λ own.
      let ending = w own in
      ((λ m. s.ended m ending.decision ending.known), (λ c ms e. awaited protocols g past sound ending.decision ending.known c ms e))),
  s.order,
)
order_more protocols g past event (Checkpoint sum) sound s w = s.order

order_kept : (protocols : List Participant) (g : Tid) (past : CoordPast) (event : CoordEvent) (now : List CoordRecord) → CoordSound protocols any_member g past
    → IsSettled protocols g past → Kept protocols g past event now → length now ≤ suc (length (records past)) → IsOrderly protocols g now
order_kept protocols g past event now sound s (inr (newer, each, e)) few = order_front protocols g newer now (subst (IsOrderly protocols g) e s.order)
order_kept protocols g past event now sound s (inl ([], w, e)) few = subst (IsOrderly protocols g) (sym e) s.order
order_kept protocols g past event now sound s (inl (r ∷ [], w, e)) few =
    subst (IsOrderly protocols g) (sym e) (order_more protocols g past event r sound s w.0)
order_kept protocols g past event now sound s (inl (r ∷ q ∷ more, w, e)) few =
    let long = subst (λ rs. length rs ≤ suc (length (records past))) e few in
    let adds = longer more (records past) in absurd (omega (arith, long, adds))
  where
    longer : (xs ys : List CoordRecord) → length ys ≤ length (xs ++ ys)
    longer [] ys = omega arith
    longer (x ∷ xs) ys = let h = longer xs ys in omega (arith, h)

pub past_settled : (protocols : List Participant) (policy : Policy) (g : Tid) (past : CoordPast) → IsMadeByEvents protocols policy past
    → IsSettled protocols g past
past_settled protocols policy g [] made = record { aborted = λ m o. absurd m; ended = λ m d e. absurd m; order = tt }
past_settled protocols policy g (x ∷ past) made =
    let next : IsNextLine protocols policy past x = record { event = made.0; is = made.1; numbered = made.2 } in
    let sound = past_sound protocols policy any_member g past (going_on protocols policy past made.3) in
    let t = next_turn protocols policy any_member g past x next sound in
    let s = past_settled protocols policy g past made.3 in
    let few = subst (λ y. length (records (y ∷ past)) ≤ suc (length (records past))) (sym made.1) (line_fine protocols policy past made.0).one in
    record {
      aborted = next_aborted protocols g past made.0 x t s;
      ended = next_ended protocols g past made.0 x t s.ended;
      order = order_kept protocols g past made.0 (records (x ∷ past)) sound s t.line.kept few;
    }

opened_ended : (protocols : List Participant) (g : Tid) (journal : Journal CoordRecord) → Among (IsEndOf g) (records (opened_coordinator protocols journal)) → (d : Decision)
    → standing protocols (opened_coordinator protocols journal) g ≡ Decided d → ⊥
opened_ended protocols g journal m d e =
    kept_ended protocols g (records (opened_coordinator protocols journal)) d (among_end g (records (opened_coordinator protocols journal)) m) e

-- so it is where the coordinator goes on from a journal that was found
pub past_ended : (protocols : List Participant) (policy : Policy) (g : Tid) (past : CoordPast) → IsGoingOn protocols policy past → Among (IsEndOf g) (records past)
    → (d : Decision) → standing protocols past g ≡ Decided d → ⊥
past_ended protocols policy g [] made m = absurd m
past_ended protocols policy g (x ∷ past) (inl opened) m =
    subst (λ p. Among (IsEndOf g) (records p) → (d : Decision) → standing protocols p g ≡ Decided d → ⊥) (sym opened.is) (opened_ended protocols g opened.journal) m
past_ended protocols policy g (x ∷ past) (inr (next, made)) m =
    next_ended protocols g past next.event x (next_turn protocols policy any_member g past x next (past_sound protocols policy any_member g past made))
    (past_ended protocols policy g past made) m

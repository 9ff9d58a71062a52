-- A line of the coordinator keeps its part of the invariant: what is ended or forgotten has its required acknowledgements.
use Rattle.std.proofs.Common.{◌≡◌, inl, inr, Bool, true, false, cond, not, ◌&&◌, is_some, Some, None, List, [], ◌∷◌, ◌++◌, refl, sym, ap, ap₂, subst, ◌∙◌}
use Rattle.std.proofs.lemmas.Bool.{and_parts, not-true}
use Rattle.mdb_base.specs.declared.names.SiteId.{SiteId}
use Rattle.mdb_base.specs.declared.names.Tid.{Tid}
use Rattle.mdb_base.specs.Names.{same_tid}
use Rattle.mdb_base.specs.Words.{Each, Among, those}
use Rattle.presumptions.specs.declared.Decision.{Decision}
use Rattle.presumptions.specs.declared.Decision.TheVariants as Decided
use Rattle.presumptions.specs.declared.Participant.{Participant}
use Rattle.presumptions.specs.Table.{acks}
use Rattle.fed_rules.specs.declared.answers.Answer.TheVariants as Say
use Rattle.fed_rules.specs.declared.events.CoordEvent.{CoordEvent}
use Rattle.fed_rules.specs.declared.records.CoordRecord.{CoordRecord}
use Rattle.fed_rules.specs.declared.records.CoordRecord.TheVariants as Rec
use Rattle.fed_rules.specs.Coord.{missing}
use Rattle.fed_rules.specs.CoordPast.{CoordHappening, CoordPast, records, Undecided, Decided, Gone, standing_of, standing, participants, program, visits, has_acked}
use Rattle.fed_rules.specs.CoordRecords.{named, has_commit, has_end, outcome, required_of, required, is_nobody, is_kept}
use Rattle.fed_rules.proofs.ForCallers.{appended}
use Rattle.order_laws.proofs.ForCallers.{same_of, those_same}
use Rattle.coord_laws.proofs.Facts.{is_undecided, kept_standing, IsOpen, IsEnding, WroteAll, Same, Starts, Decides, Forgets, Restarts}
use Rattle.coord_laws.proofs.Lines.{Kept, Stood, Stopped, Through}
use Rattle.coord_laws.proofs.RecordLists.{IsSilent, end_among, named_behind, named_some, ends_silent, decided_outcome, those_among, nobody_none, is_required}
use Rattle.fed_rules.specs.Happenings.{quiet}
use Rattle.coord_laws.proofs.Sound.{IsBegun, IsAcked, IsClear, CoordSound, kept_from, end_mark}
use Rattle.coord_laws.proofs.Taken.{acked_taken}
use Rattle.mdb_base.proofs.ForCallers.{each_all, those_all}
use Rattle.coord_laws.proofs.Turns.{Turn, same_program, same_outcome, turn_numbered, turn_undecided, turn_named, turn_marked, turn_decided, turn_voted, is_participant, uncommitted_of}
use Rattle.fed_rules.specs.Usable.{IsEndOf}

-- what is required of the site, where the records name the participants
pub required_here : (protocols : List Participant) (member : Participant) (g : Tid) (past : CoordPast) (d : Decision)
    → ((ms : List Participant) → named protocols (records past) g ≡ Some ms → ms ≡ participants protocols past g)
    → Among (λ m. (m.site ≡ member.site) × (m.protocol ≡ member.protocol)) protocols
    → is_some (named protocols (records past) g) ≡ true
    → acks member.protocol d ≡ true → visits member.site (program past g) ≡ true
    → Among (λ m. (m.site ≡ member.site) × (m.protocol ≡ member.protocol)) (required protocols (records past) g d)
required_here protocols member g past d names declared m a v =
    let found = named_some (named protocols (records past) g) m in
    let same = names found.0 found.1 in
    is_required protocols g d member.site member.protocol (records past) found.0 found.1 a
    (subst (Among (λ k. (k.site ≡ member.site) × (k.protocol ≡ member.protocol))) (sym same)
    (is_participant protocols member past g declared v))

-- where no acknowledgement is missing, a required one was taken
pub none_missing : (protocols : List Participant) (g : Tid) (past : CoordPast) (d : Decision) (member : Participant)
    → is_nobody (missing protocols past g d) ≡ true
    → Among (λ m. (m.site ≡ member.site) × (m.protocol ≡ member.protocol)) (required protocols (records past) g d)
    → IsAcked past g member.site
none_missing protocols g past d member nobody m = by_test (has_acked past g member.site) refl where
  by_test : (b : Bool) → has_acked past g member.site ≡ b → IsAcked past g member.site
  by_test true e = acked_taken past g member.site e
  by_test false e = absurd (nobody_none (λ k. (k.site ≡ member.site) × (k.protocol ≡ member.protocol)) (missing protocols past g d) nobody
      (those_among (λ k. (k.site ≡ member.site) × (k.protocol ≡ member.protocol)) (λ k. not (has_acked past g k.site))
      (λ k is. ap not (ap (has_acked past g) is.0 ∙ e)) (required protocols (records past) g d) m))

-- what an End record that a line appends says of the outcome
pub record EndsFor (protocols : List Participant) (g : Tid) (past : CoordPast) (event : CoordEvent)
    (kept : List CoordRecord) : Type 0 where
  pub ends : IsEnding protocols g past event []
  pub outcome : outcome (kept ++ records past) g ≡ ends.decision

end_behind : (g : Tid) (rs : List CoordRecord) → rs ≡ [] → Among (IsEndOf g) rs → ⊥
end_behind g rs e m = subst (Among (IsEndOf g)) e m

pub ends_for : (protocols : List Participant) (member : Participant) (g : Tid) (past : CoordPast) (event : CoordEvent) (kept : List CoordRecord)
    → CoordSound protocols member g past → WroteAll protocols g past event kept → Among (IsEndOf g) kept
    → EndsFor protocols g past event kept
ends_for protocols member g past event [] s w m = absurd m
ends_for protocols member g past event (Rec.Initiation t ms ∷ kept) s w (inl c) = absurd c
ends_for protocols member g past event (Rec.Commit t ks ∷ kept) s w (inl c) = absurd c
ends_for protocols member g past event (Rec.Abort t ms ∷ kept) s w (inl c) = absurd c
ends_for protocols member g past event (Rec.Initiation t ms ∷ kept) s w (inr m) =
    let r = ends_for protocols member g past event kept s w.1 m in record { ends = r.ends; outcome = r.outcome }
ends_for protocols member g past event (Rec.Abort t ms ∷ kept) s w (inr m) =
    let r = ends_for protocols member g past event kept s w.1 m in record { ends = r.ends; outcome = r.outcome }
ends_for protocols member g past event (Rec.Checkpoint sum ∷ kept) s w (inl c) = absurd c
ends_for protocols member g past event (Rec.Checkpoint sum ∷ kept) s w (inr m) =
    let r = ends_for protocols member g past event kept s w.1 m in record { ends = r.ends; outcome = r.outcome }
ends_for protocols member g past event (Rec.End t ∷ kept) s w (inr m) =
    let r = ends_for protocols member g past event kept s w.1 m in record { ends = r.ends; outcome = r.outcome }
ends_for protocols member g past event (Rec.Commit t ks ∷ kept) s w (inr m) =
    let r = ends_for protocols member g past event kept s w.1 m in
    record { ends = r.ends; outcome = by_test (same_tid t g) refl r.outcome }
  where
    by_test : {d : Decision} (b : Bool) → same_tid t g ≡ b → outcome (kept ++ records past) g ≡ d
        → cond (cond b true (has_commit (kept ++ records past) g)) Decided.Commit Decided.Abort ≡ d
    by_test true q o = absurd (end_behind g kept (w.0 q).1 m)
    by_test false q o = o
ends_for protocols member g past event (Rec.End t ∷ kept) s w (inl c) =
    let r = w.0 (same_of t g c) in
    record {
      ends = record { decision = r.decision; known = r.known; alone = refl; none = r.none; recorded = r.recorded };
      outcome = ap (λ rs. outcome (rs ++ records past) g) r.alone ∙ sym (s.decided r.decision r.known).1;
    }

old_names : (protocols : List Participant) (member : Participant) (g : Tid) (past : CoordPast) → CoordSound protocols member g past
    → (ms : List Participant) → named protocols (records past) g ≡ Some ms → ms ≡ participants protocols past g
old_names protocols member g past s ms m = (s.names ms m).1

named_begun : (protocols : List Participant) (member : Participant) (g : Tid) (past : CoordPast) → CoordSound protocols member g past
    → is_some (named protocols (records past) g) ≡ true → IsBegun past g
named_begun protocols member g past s m =
    let found = named_some (named protocols (records past) g) m in (s.names found.0 found.1).0

-- what was clear stays so
clear_stays : (protocols : List Participant) (member : Participant) (g : Tid) (past : CoordPast) (event : CoordEvent) (x : CoordHappening)
    → Turn protocols member g past event x → IsBegun past g → (IsOpen protocols past g → ⊥) → IsClear protocols member g past
    → IsClear protocols member g (x ∷ past)
clear_stays protocols member g past event x t begun closed clear declared a v =
    inr (clear declared (ap (acks member.protocol) (sym (same_outcome protocols member g past event x t closed)) ∙ a)
    (ap (visits member.site) (sym (same_program protocols member g past event x t begun)) ∙ v))

acked_later : (g : Tid) (past : CoordPast) (event : CoordEvent) (x : CoordHappening) (site : SiteId) → x.event ≡ event
    → IsAcked (quiet event Say.Acked ∷ past) g site → IsAcked (x ∷ past) g site
acked_later g past event x site e (inl y) = inl (e ∙ y)
acked_later g past event x site e (inr m) = inr m

-- an attempt that has an End record has its required acknowledgements
pub turn_ended : (protocols : List Participant) (member : Participant) (g : Tid) (past : CoordPast) (event : CoordEvent) (x : CoordHappening)
    → Turn protocols member g past event x → Among (IsEndOf g) (records (x ∷ past)) → IsClear protocols member g (x ∷ past)
turn_ended protocols member g past event x t m = elim
    (kept_from protocols g past event (records (x ∷ past)) (IsEndOf g) t.line.kept m) [
      | inl i ↦ let r = t.sound.marked (end_mark g (records past) i) in clear_stays protocols member g past event x t r.0 r.1
          (t.sound.ended i)
      | inr (kept, w, e, i) ↦ by_end kept e (ends_for protocols member g past event kept t.sound w i)
    ] where
      by_end : (kept : List CoordRecord) → records (x ∷ past) ≡ kept ++ records past
          → EndsFor protocols g past event kept → IsClear protocols member g (x ∷ past)
      by_end kept e r declared a v =
          let begun = named_begun protocols member g past t.sound r.ends.recorded in
          let visited = ap (visits member.site) (sym (same_program protocols member g past event x t begun)) ∙ v in
          let acking = ap (acks member.protocol) (sym (ap (λ rs. outcome rs g) e ∙ r.outcome)) ∙ a in
          let needed = required_here protocols member g past r.ends.decision
          (old_names protocols member g past t.sound) declared r.ends.recorded acking visited in
          acked_later g past event x member.site t.line.is
          (none_missing protocols g (quiet event Say.Acked ∷ past) r.ends.decision member r.ends.none needed)

-- who is named by an attempt that isn't open stays
pub named_stays : (protocols : List Participant) (member : Participant) (g : Tid) (past : CoordPast) (event : CoordEvent) (x : CoordHappening)
    → Turn protocols member g past event x → (IsOpen protocols past g → ⊥)
    → named protocols (records (x ∷ past)) g ≡ named protocols (records past) g
named_stays protocols member g past event x t closed = by_kept t.line.kept where
  not-here : (b : Bool) → (b ≡ true → IsOpen protocols past g) → b ≡ false
  not-here true o = absurd (closed (o refl))
  not-here false o = refl

  silent : (kept : List CoordRecord) → WroteAll protocols g past event kept → Each (IsSilent g) kept
  silent [] w = tt
  silent (Rec.Initiation u ms ∷ kept) w = (not-here (same_tid u g) (λ q. (w.0 q).0), silent kept w.1)
  silent (Rec.Commit u ks ∷ kept) w = (not-here (same_tid u g) (λ q. (w.0 q).0.undecided), silent kept w.1)
  silent (Rec.Abort u ms ∷ kept) w = (not-here (same_tid u g) (λ q. (w.0 q).0), silent kept w.1)
  silent (Rec.End u ∷ kept) w = (tt, silent kept w.1)
  silent (Rec.Checkpoint sum ∷ kept) w = (tt, silent kept w.1)

  by_kept : Kept protocols g past event (records (x ∷ past))
      → named protocols (records (x ∷ past)) g ≡ named protocols (records past) g
  by_kept (inl (kept, w, e)) =
      ap (λ rs. named protocols rs g) e ∙ named_behind protocols g kept (records past) (silent kept w)
  by_kept (inr (newer, each, e)) = sym
      (ap (λ rs. named protocols rs g) e
      ∙ named_behind protocols g newer (records (x ∷ past)) (ends_silent g newer each))

-- and so has one that is forgotten
pub turn_gone : (protocols : List Participant) (member : Participant) (g : Tid) (past : CoordPast) (event : CoordEvent) (x : CoordHappening)
    → Turn protocols member g past event x → standing protocols (x ∷ past) g ≡ Gone
    → is_some (named protocols (records (x ∷ past)) g) ≡ true → IsClear protocols member g (x ∷ past)
turn_gone protocols member g past event x t is m = by_stood t.line.stood where
  now : List CoordRecord
  now = records (x ∷ past)

  -- a record of an attempt that wasn't open was kept before
  old : (IsOpen protocols past g → ⊥) → is_some (named protocols (records past) g) ≡ true
  old closed = sym (ap is_some (named_stays protocols member g past event x t closed)) ∙ m

  -- behind this line nobody is required for its outcome
  nobody : (d : Decision) → d ≡ outcome now g → is_nobody (required protocols now g d) ≡ true
      → IsClear protocols member g (x ∷ past)
  nobody d o n = λ declared a v.
      absurd (nobody_none (λ k. (k.site ≡ member.site) × (k.protocol ≡ member.protocol)) (required protocols now g d) n
      (required_here protocols member g (x ∷ past) d (λ ms i. (turn_named protocols member g past event x t ms i).1) declared m
      (ap (acks member.protocol) o ∙ a) v))

  by_kept : (b c : Bool) → has_end now g ≡ b
      → is_nobody (required protocols now g (outcome now g)) ≡ c → kept_standing protocols now g ≡ Gone
      → IsClear protocols member g (x ∷ past)
  by_kept true c e n h = turn_ended protocols member g past event x t (end_among g now e)
  by_kept false true e n h = nobody (outcome now g) refl n
  by_kept false false e n h =
      let kept : is_kept protocols now g ≡ true = ap₂ (λ u w. not u && not w) e n in
      let no : Decided (outcome now g) ≡ Gone = sym (ap (λ k. standing_of false (cond k (Some (outcome now g)) None)) kept) ∙ h in cc

  by_stood : Stood protocols g past x → IsClear protocols member g (x ∷ past)
  by_stood (Stopped b e a stop) = by_kept (has_end now g)
      (is_nobody (required protocols now g (outcome now g))) refl refl (sym e ∙ is)
  by_stood (Through (Same e b u a) r) =
      let gone : standing protocols past g ≡ Gone = sym e ∙ is in
      let closed : IsOpen protocols past g → ⊥ = λ o.
      (let no : is_undecided Gone ≡ true = ap is_undecided (sym gone) ∙ o in cc) in
      let i = old closed in
      clear_stays protocols member g past event x t (named_begun protocols member g past t.sound i) closed (t.sound.gone gone i)
  by_stood (Through (Starts b e n steps v) r) = let no : Undecided ≡ Gone = sym e ∙ is in cc
  by_stood (Through (Decides made f o b e n by a) r) = by_forgets f refl where
    by_forgets : (c : Bool) → f ≡ c → IsClear protocols member g (x ∷ past)
    by_forgets false q = let no : Decided made ≡ Gone = sym (ap (λ c. cond c Gone (Decided made)) q) ∙ (sym e ∙ is) in cc
    by_forgets true q =
        nobody made
        (sym (ap (λ rs. outcome rs g) r ∙ decided_outcome g made (appended x.calls []) (records past)
        (uncommitted_of protocols member g past t.sound o) by))
        (ap (λ rs. is_nobody (required protocols rs g made)) r ∙ (n ∙ q))
  by_stood (Through (Forgets made k b e n ends a) r) = λ declared acking v.
      let closed : IsOpen protocols past g → ⊥ = λ o.
      (let no : is_undecided (Decided made) ≡ true = ap is_undecided (sym k) ∙ o in cc) in
      let i = old closed in
      let begun = named_begun protocols member g past t.sound i in
      let known = (t.sound.decided made k).1 in
      let needed = required_here protocols member g past made (old_names protocols member g past t.sound) declared i
      (ap (acks member.protocol) (known ∙ sym (same_outcome protocols member g past event x t closed)) ∙ acking)
      (ap (visits member.site) (sym (same_program protocols member g past event x t begun)) ∙ v) in
      acked_later g past x.event x member.site refl
      (none_missing protocols g (quiet x.event Say.Acked ∷ past) made member n needed)
  by_stood (Through (Restarts b e a stop) r) = by_kept (has_end now g)
      (is_nobody (required protocols now g (outcome now g))) refl refl (sym e ∙ is)

-- after a stop, a start or a decision all that is required is missing
pub all_missing : (protocols : List Participant) (g : Tid) (past : CoordPast) (d : Decision)
    → ((site : SiteId) → has_acked past g site ≡ false) → missing protocols past g d ≡ required protocols (records past) g d
all_missing protocols g past d a = those_all (λ m. not (has_acked past g m.site)) (required protocols (records past) g d)
    (each_all (λ m. not (has_acked past g m.site) ≡ true) (λ m. ap not (a m.site)) (required protocols (records past) g d))

-- the coordinator knows a decided attempt only while a required acknowledgement is missing
pub turn_waits : (protocols : List Participant) (member : Participant) (g : Tid) (past : CoordPast) (event : CoordEvent) (x : CoordHappening)
    → Turn protocols member g past event x → (d : Decision) → standing protocols (x ∷ past) g ≡ Decided d
    → is_nobody (missing protocols (x ∷ past) g d) ≡ false
turn_waits protocols member g past event x t d is = by_stood t.line.stood where
  now : List CoordRecord
  now = records (x ∷ past)

  by_kept : (b : Bool) → is_kept protocols now g ≡ b
      → standing_of false (cond b (Some (outcome now g)) None) ≡ Decided d
      → ((site : SiteId) → has_acked (x ∷ past) g site ≡ false) → is_nobody (missing protocols (x ∷ past) g d) ≡ false
  by_kept false k h a = cc
  by_kept true k h a =
      let same : outcome now g ≡ d = cc in
      ap is_nobody (all_missing protocols g (x ∷ past) d a)
      ∙ ap (λ made. is_nobody (required protocols now g made)) (sym same)
      ∙ not-true (is_nobody (required protocols now g (outcome now g))) (and_parts
      (not (has_end now g)) (not (is_nobody (required protocols now g (outcome now g)))) k).1

  by_stood : Stood protocols g past x → is_nobody (missing protocols (x ∷ past) g d) ≡ false
  by_stood (Stopped b e a stop) = by_kept (is_kept protocols now g) refl (sym e ∙ is) a
  by_stood (Through (Same e b u (inr k)) r) = k d (sym e ∙ is)
  by_stood (Through (Same e b u (inl k)) r) =
      let known : standing protocols past g ≡ Decided d = sym e ∙ is in
      let closed : IsOpen protocols past g → ⊥ = λ o.
      (let no : is_undecided (Decided d) ≡ true = ap is_undecided (sym known) ∙ o in cc) in
      ap (λ o. is_nobody (those (λ m. not (has_acked (x ∷ past) g m.site)) (required_of d o)))
      (named_stays protocols member g past event x t closed)
      ∙ ap is_nobody (those_same (λ m. not (has_acked (x ∷ past) g m.site)) (λ m. not (has_acked past g m.site))
      (required protocols (records past) g d) (λ m i. ap not (k m.site)))
      ∙ t.sound.waits d known
  by_stood (Through (Starts b e n steps v) r) = let no : Undecided ≡ Decided d = sym e ∙ is in cc
  by_stood (Through (Decides made f o b e n by a) r) = by_forgets f refl where
    by_forgets : (c : Bool) → f ≡ c → is_nobody (missing protocols (x ∷ past) g d) ≡ false
    by_forgets true q = let no : Gone ≡ Decided d = sym (ap (λ c. cond c Gone (Decided made)) q) ∙ (sym e ∙ is) in cc
    by_forgets false q =
        let here : Decided made ≡ Decided d = sym (ap (λ c. cond c Gone (Decided made)) q) ∙ (sym e ∙ is) in
        let same : made ≡ d = cc in
        ap is_nobody (all_missing protocols g (x ∷ past) d a)
        ∙ ap (λ rs. is_nobody (required protocols rs g d)) r
        ∙ ap (λ made. is_nobody (required protocols (appended x.calls [] ++ records past) g made)) (sym same)
        ∙ (n ∙ q)
  by_stood (Through (Forgets made k b e n ends a) r) = let no : Gone ≡ Decided d = sym e ∙ is in cc
  by_stood (Through (Restarts b e a stop) r) = by_kept (is_kept protocols now g) refl (sym e ∙ is) a

-- all of it
pub coord_turn : (protocols : List Participant) (member : Participant) (g : Tid) (past : CoordPast) (event : CoordEvent) (x : CoordHappening)
    → Turn protocols member g past event x → CoordSound protocols member g (x ∷ past)
coord_turn protocols member g past event x t = record {
  firm = t.line.firm;
  numbered = turn_numbered protocols member g past event x t;
  undecided = turn_undecided protocols member g past event x t;
  marked = turn_marked protocols member g past event x t;
  names = turn_named protocols member g past event x t;
  decided = turn_decided protocols member g past event x t;
  voted = turn_voted protocols member g past event x t;
  ended = turn_ended protocols member g past event x t;
  gone = turn_gone protocols member g past event x t;
  waits = turn_waits protocols member g past event x t;
}

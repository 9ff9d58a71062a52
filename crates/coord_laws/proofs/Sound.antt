-- What holds of one attempt in the coordinator's past, with respect to one member: a site with its protocol, declared or not.
use Rattle.std.proofs.Common.{◌≡◌, ℕ, ◌<◌, ◌⊎◌, inl, inr, Bool, true, false, cond, is_some, Option, Some, None, List, [], ◌∷◌, ◌++◌, refl, sym, ap, subst, ◌∙◌}
use Rattle.mdb_base.specs.declared.acts.Step.{Step}
use Rattle.mdb_base.specs.declared.names.SiteId.{SiteId}
use Rattle.mdb_base.specs.declared.names.Tid.{Tid}
use Rattle.mdb_base.specs.Names.{same_tid}
use Rattle.mdb_base.specs.Words.{Among, or_else}
use Rattle.mdb_base.proofs.ForCallers.{among_behind, among_split, some_parts}
use Rattle.presumptions.specs.declared.Decision.{Decision}
use Rattle.presumptions.specs.declared.Participant.{Participant}
use Rattle.presumptions.specs.Table.{acks}
use Rattle.fed_rules.specs.declared.events.CoordEvent.{CoordEvent}
use Rattle.fed_rules.specs.declared.events.CoordEvent.TheVariants as Ev
use Rattle.fed_rules.specs.declared.messages.FromSite.TheVariants as From
use Rattle.fed_rules.specs.declared.records.CoordRecord.{CoordRecord}
use Rattle.fed_rules.specs.declared.records.CoordRecord.TheVariants as Rec
use Rattle.fed_rules.specs.Coord.{missing}
use Rattle.fed_rules.specs.CoordPast.{CoordHappening, CoordPast, disk, records, Decided, Gone, standing_of, standing, begins, participants, program, program_in, or_steps, visits, attempts_of}
use Rattle.fed_rules.specs.CoordRecords.{coord_frame, ticketed, named, outcome, is_nobody, is_kept}
use Rattle.fed_rules.specs.Durable.{IsFirm}
use Rattle.coord_laws.specs.Records.{IsCommit, IsEnd}
use Rattle.fed_rules.proofs.ForCallers.{cut_old, cut_stays}
use Rattle.coord_laws.proofs.Facts.{is_undecided, kept_standing, IsOpen, IsCommitting, WroteAll, Same, Starts, Decides, Forgets, Restarts}
use Rattle.coord_laws.proofs.Lines.{Kept, Stood, Stopped, Through}
use Rattle.coord_laws.proofs.RecordLists.{named_behind, named_more, ends_silent}
use Rattle.order_laws.proofs.ForCallers.{same_of}
use Rattle.fed_rules.specs.Usable.{IsEndOf}

-- the attempt was begun
abbrev pub IsBegun : CoordPast → Tid → Type 0
IsBegun past g = Among (λ x. begins g x.answer ≡ true) past

-- a yes vote of this site
abbrev pub IsYes : Tid → SiteId → CoordEvent → Type 0
IsYes g site event = (ticket : ℕ) × (event ≡ Ev.Take site (From.Vote g (Some ticket)))

-- an acknowledgement of this site was taken
abbrev pub IsAcked : CoordPast → Tid → SiteId → Type 0
IsAcked past g site = Among (λ x. x.event ≡ Ev.Take site (From.Ack g)) past

-- a Commit or an End record of the attempt
abbrev pub IsMark : Tid → CoordRecord → Type 0
IsMark g (Rec.Commit tid tickets) = tid ≡ g
IsMark g (Rec.End tid) = tid ≡ g
IsMark g kept = ⊥

-- the site is declared, with its protocol
abbrev pub Declared : List Participant → Participant → Type 0
Declared protocols member = Among (λ m. (m.site ≡ member.site) × (m.protocol ≡ member.protocol)) protocols

-- where the site is a participant that acknowledges the outcome, its acknowledgement was taken
abbrev pub IsClear : List Participant → Participant → Tid → CoordPast → Type 0
IsClear protocols member g past = Declared protocols member → acks member.protocol (outcome (records past) g) ≡ true → visits member.site
    (program past g) ≡ true → IsAcked past g member.site

pub record CoordSound (protocols : List Participant) (member : Participant) (g : Tid) (past : CoordPast) : Type 0 where
  pub firm : IsFirm coord_frame IsEnd (disk past)
  pub numbered : IsBegun past g → g.attempt < attempts_of past g.tx
  pub undecided : IsOpen protocols past g → IsBegun past g
  pub marked : Among (IsMark g) (records past) → IsBegun past g × (IsOpen protocols past g → ⊥)
  pub names : (ms : List Participant) → named protocols (records past) g ≡ Some ms
      → IsBegun past g × (ms ≡ participants protocols past g)
  pub decided : (d : Decision) → standing protocols past g ≡ Decided d → IsBegun past g × (d ≡ outcome (records past) g)
  pub voted : Declared protocols member → Among (IsCommit g) (records past) → visits member.site (program past g) ≡ true
      → Among (λ x. IsYes g member.site x.event) past
  pub ended : Among (IsEndOf g) (records past) → IsClear protocols member g past
  pub gone : standing protocols past g ≡ Gone → is_some (named protocols (records past) g) ≡ true
      → IsClear protocols member g past
  pub waits : (d : Decision) → standing protocols past g ≡ Decided d
      → is_nobody (missing protocols past g d) ≡ false

-- what holds of a kept record holds of an old one, or of one that the line appended
pub kept_from : (protocols : List Participant) (g : Tid) (past : CoordPast) (event : CoordEvent) (now : List CoordRecord)
    (P : CoordRecord → Type 0) → Kept protocols g past event now → Among P now
    → Among P (records past) ⊎
    ((kept : List CoordRecord) × WroteAll protocols g past event kept × (now ≡ kept ++ records past) × Among P kept)
kept_from protocols g past event now P (inl (kept, w, e)) m = elim (among_split P kept (records past) (subst (Among P) e m)) [
  | inl i ↦ inr (kept, w, e, i)
  | inr i ↦ inl i
]
kept_from protocols g past event now P (inr c) m = inl (cut_old IsEnd P (records past) now c m)

-- a record that isn't an End is kept
pub kept_stays : (protocols : List Participant) (g : Tid) (past : CoordPast) (event : CoordEvent) (now : List CoordRecord)
    (P : CoordRecord → Type 0) → ((r : CoordRecord) → IsEnd r → P r → ⊥) → Kept protocols g past event now → Among P (records past)
    → Among P now
kept_stays protocols g past event now P no-end (inl (kept, w, e)) m = subst (Among P) (sym e) (among_behind P kept (records past) m)
kept_stays protocols g past event now P no-end (inr c) m = cut_stays IsEnd P no-end (records past) now c m

pub end_commit : (g : Tid) (r : CoordRecord) → IsEnd r → IsCommit g r → ⊥
end_commit g (Rec.End t) e c = c
end_commit g (Rec.Checkpoint sum) e c = c
end_commit g (Rec.Commit t ks) e c = e
end_commit g (Rec.Initiation t ms) e c = c
end_commit g (Rec.Abort t ms) e c = c

-- who is named stays so
pub named_stays_some : (protocols : List Participant) (g : Tid) (past : CoordPast) (event : CoordEvent) (now : List CoordRecord)
    → Kept protocols g past event now → is_some (named protocols (records past) g) ≡ true → is_some (named protocols now g) ≡ true
named_stays_some protocols g past event now (inl (kept, w, e)) i =
    ap (λ rs. is_some (named protocols rs g)) e ∙ named_more protocols g kept (records past) i
named_stays_some protocols g past event now (inr (newer, each, e)) i =
    sym (ap (λ rs. is_some (named protocols rs g)) e ∙ ap is_some (named_behind protocols g newer now (ends_silent g newer each))) ∙ i

pub commit_mark : (g : Tid) (rs : List CoordRecord) → Among (IsCommit g) rs → Among (IsMark g) rs
commit_mark g [] m = m
commit_mark g (Rec.Commit t ks ∷ rs) (inl c) = inl c
commit_mark g (Rec.End t ∷ rs) (inl c) = absurd c
commit_mark g (Rec.Checkpoint sum ∷ rs) (inl c) = absurd c
commit_mark g (Rec.Initiation t ms ∷ rs) (inl c) = absurd c
commit_mark g (Rec.Abort t ms ∷ rs) (inl c) = absurd c
commit_mark g (r ∷ rs) (inr m) = inr (commit_mark g rs m)

pub end_mark : (g : Tid) (rs : List CoordRecord) → Among (IsEndOf g) rs → Among (IsMark g) rs
end_mark g [] m = m
end_mark g (Rec.Commit t ks ∷ rs) (inl c) = absurd c
end_mark g (Rec.End t ∷ rs) (inl c) = inl c
end_mark g (Rec.Checkpoint sum ∷ rs) (inl c) = inl c
end_mark g (Rec.Initiation t ms ∷ rs) (inl c) = absurd c
end_mark g (Rec.Abort t ms ∷ rs) (inl c) = absurd c
end_mark g (r ∷ rs) (inr m) = inr (end_mark g rs m)

-- a Commit that a line appends was open
pub written_commit : (protocols : List Participant) (g : Tid) (past : CoordPast) (event : CoordEvent) (kept : List CoordRecord)
    → WroteAll protocols g past event kept → Among (IsCommit g) kept → IsCommitting protocols g past event
written_commit protocols g past event [] w m = absurd m
written_commit protocols g past event (Rec.Commit t ks ∷ kept) w (inl c) = (w.0 (same_of t g c)).0
written_commit protocols g past event (Rec.End t ∷ kept) w (inl c) = absurd c
written_commit protocols g past event (Rec.Checkpoint sum ∷ kept) w (inl c) = absurd c
written_commit protocols g past event (Rec.Initiation t ms ∷ kept) w (inl c) = absurd c
written_commit protocols g past event (Rec.Abort t ms ∷ kept) w (inl c) = absurd c
written_commit protocols g past event (r ∷ kept) w (inr m) = written_commit protocols g past event kept w.1 m

-- who is named behind the records of a line was named before, or the attempt was open, and they are its participants
pub written_named : (protocols : List Participant) (g : Tid) (past : CoordPast) (event : CoordEvent) (ms : List Participant)
    (kept : List CoordRecord) → WroteAll protocols g past event kept → named protocols (kept ++ records past) g ≡ Some ms
    → (named protocols (records past) g ≡ Some ms) ⊎ (IsOpen protocols past g × (ms ≡ participants protocols past g))
written_named protocols g past event ms [] w e = inl e
written_named protocols g past event ms (Rec.End t ∷ kept) w e = written_named protocols g past event ms kept w.1 e
written_named protocols g past event ms (Rec.Checkpoint sum ∷ kept) w e = written_named protocols g past event ms kept w.1 e
written_named protocols g past event ms (Rec.Initiation t ns ∷ kept) w e =
    by_test (same_tid t g) refl e (written_named protocols g past event ms kept w.1)
  where
    by_test : (b : Bool) → same_tid t g ≡ b → cond b (Some ns) (named protocols (kept ++ records past) g) ≡ Some ms
        → (named protocols (kept ++ records past) g ≡ Some ms
        → (named protocols (records past) g ≡ Some ms) ⊎ (IsOpen protocols past g × (ms ≡ participants protocols past g)))
        → (named protocols (records past) g ≡ Some ms) ⊎ (IsOpen protocols past g × (ms ≡ participants protocols past g))
    by_test true q e k = let r = w.0 q in inr (r.0, sym (some_parts e) ∙ r.1)
    by_test false q e k = k e
written_named protocols g past event ms (Rec.Abort t ns ∷ kept) w e =
    by_test (same_tid t g) refl (named protocols (kept ++ records past) g) refl e (written_named protocols g past event ms kept w.1)
  where
    by_test : (b : Bool) → same_tid t g ≡ b → (o : Option (List Participant)) → named protocols (kept ++ records past) g ≡ o
        → cond b (Some (or_else o ns)) o ≡ Some ms
        → (named protocols (kept ++ records past) g ≡ Some ms
        → (named protocols (records past) g ≡ Some ms) ⊎ (IsOpen protocols past g × (ms ≡ participants protocols past g)))
        → (named protocols (records past) g ≡ Some ms) ⊎ (IsOpen protocols past g × (ms ≡ participants protocols past g))
    by_test true q None f e k = let r = w.0 q in inr (r.0, sym (some_parts e) ∙ r.1)
    by_test true q (Some os) f e k = k (f ∙ e)
    by_test false q o f e k = k (f ∙ e)
written_named protocols g past event ms (Rec.Commit t ks ∷ kept) w e =
    by_test (same_tid t g) refl (named protocols (kept ++ records past) g) refl e (written_named protocols g past event ms kept w.1)
  where
    by_test : (b : Bool) → same_tid t g ≡ b → (o : Option (List Participant)) → named protocols (kept ++ records past) g ≡ o
        → cond b (Some (or_else o (ticketed protocols ks))) o ≡ Some ms
        → (named protocols (kept ++ records past) g ≡ Some ms
        → (named protocols (records past) g ≡ Some ms) ⊎ (IsOpen protocols past g × (ms ≡ participants protocols past g)))
        → (named protocols (records past) g ≡ Some ms) ⊎ (IsOpen protocols past g × (ms ≡ participants protocols past g))
    by_test true q None f e k = let r = w.0 q in inr (r.0.undecided, sym (some_parts e) ∙ r.2)
    by_test true q (Some os) f e k = k (f ∙ e)
    by_test false q o f e k = k (f ∙ e)

pub kept_not_open : (protocols : List Participant) (rs : List CoordRecord) (g : Tid)
    → is_undecided (kept_standing protocols rs g) ≡ true → ⊥
kept_not_open protocols rs g h = by_test (is_kept protocols rs g) h where
  by_test : (b : Bool) → is_undecided (standing_of false (cond b (Some (outcome rs g)) None)) ≡ true → ⊥
  by_test true h = cc
  by_test false h = cc

pub decided_not_open : (f : Bool) (d : Decision) → is_undecided (cond f Gone (Decided d)) ≡ true → ⊥
decided_not_open true d h = cc
decided_not_open false d h = cc

-- an attempt that is open behind a line begins in it, or was open before
pub still_open : (protocols : List Participant) (g : Tid) (past : CoordPast) (x : CoordHappening) → Stood protocols g past x → IsOpen protocols (x ∷ past) g
    → (begins g x.answer ≡ true) ⊎ IsOpen protocols past g
still_open protocols g past x (Stopped b e a s) h = absurd (kept_not_open protocols (records (x ∷ past)) g (ap is_undecided (sym e) ∙ h))
still_open protocols g past x (Through (Same e b u a) r) h = inr (ap is_undecided (sym e) ∙ h)
still_open protocols g past x (Through (Starts b e n steps v) r) h = inl b
still_open protocols g past x (Through (Decides d f o b e n by a) r) h = absurd (decided_not_open f d (ap is_undecided (sym e) ∙ h))
still_open protocols g past x (Through (Forgets d o b e n ends a) r) h = let t : is_undecided Gone ≡ true = ap is_undecided (sym e) ∙ h in cc
still_open protocols g past x (Through (Restarts b e a s) r) h = absurd (kept_not_open protocols (records (x ∷ past)) g (ap is_undecided (sym e) ∙ h))

-- a line that begins the attempt is its `go`
pub begins_go : (protocols : List Participant) (g : Tid) (past : CoordPast) (x : CoordHappening) → Stood protocols g past x → begins g x.answer ≡ true
    → (steps : List Step) × (x.event ≡ Ev.Go g steps)
begins_go protocols g past x (Stopped b e a s) h = cc
begins_go protocols g past x (Through (Same e b u a) r) h = cc
begins_go protocols g past x (Through (Starts b e n steps v) r) h = (steps, v)
begins_go protocols g past x (Through (Decides d f o b e n by a) r) h = cc
begins_go protocols g past x (Through (Forgets d o b e n ends a) r) h = cc
begins_go protocols g past x (Through (Restarts b e a s) r) h = cc

-- a line about an attempt that was begun before
pub program_stays : (g : Tid) (past : CoordPast) (x : CoordHappening) → begins g x.answer ≡ false
    → program (x ∷ past) g ≡ program past g
program_stays g past x e = ap (λ b. cond b (or_steps (program_in g x.event) []) (program past g)) e

-- When an attempt is undecided, and what a new Commit record comes from.
use Rattle.std.proofs.Common.{◌≡◌, ◌⊎◌, ℕ, Bool, true, false, cond, ◌||◌, nat_le, List, [], ◌∷◌, inl, inr, refl, ap, subst, ◌∙◌}
use Rattle.mdb_base.specs.declared.names.SiteTicket.{SiteTicket}
use Rattle.mdb_base.specs.declared.names.Tid.{Tid}
use Rattle.mdb_base.specs.Words.{Each, Among}
use Rattle.mdb_base.specs.Names.{same_tid}
use Rattle.mdb_base.proofs.ForCallers.{same_tid-equal}
use Rattle.presumptions.specs.declared.Participant.{Participant}
use Rattle.fed_rules.specs.declared.events.CoordEvent.{CoordEvent}
use Rattle.fed_rules.specs.declared.answers.Answer.{Answer}
use Rattle.fed_rules.specs.declared.answers.Answer.TheVariants as Say
use Rattle.fed_rules.specs.declared.records.CoordRecord.{CoordRecord}
use Rattle.fed_rules.specs.declared.records.CoordRecord.TheVariants as Rec
use Rattle.fed_rules.specs.CoordPast.{CoordHappening, CoordPast, opened, is_open, is_about, begins, decides}
use Rattle.fed_rules.specs.CoordRecords.{coord_frame, has_commit}
use Rattle.fed_rules.specs.Disk.{Disk, Call, Append, Sync, CutBack, TrimFront, Stops, bytes_of, whole, after_calls}
use Rattle.fed_rules.specs.Happenings.{stops, comes_up}
use Rattle.coord_laws.proofs.Made.{IsLastVote, Writes, Begins}

-- an answer leaves an attempt undecided where it begins it, or where it was so and isn't decided
opened_from : (answer : Answer) (old : Bool) → opened answer old ≡ true → ((tid : Tid) × (answer ≡ Say.Begun tid)) ⊎ ((old ≡ true) × (decides answer ≡ false))
opened_from (Say.Begun tid) old e = inl (tid, refl)
opened_from (Say.Decides decision cause forgets) old e = cc
opened_from Say.Forgets old e = cc
opened_from answer old e = inr (e, refl)

-- who is undecided after a line began at it, or was undecided and isn't decided by it
pub undecided_from : (past : CoordPast) (g : Tid) (x : CoordHappening) → Begins x.event x.answer → is_open (x ∷ past) g ≡ true
    → (begins g x.answer ≡ true) ⊎ ((is_open past g ≡ true) × (is_about g x.event ≡ true → decides x.answer ≡ false) × ((stops x.answer || comes_up x.answer) ≡ false))
undecided_from past g x b e = by_tests (stops x.answer || comes_up x.answer) (is_about g x.event) refl refl e
  where
    begun : (tid : Tid) → x.answer ≡ Say.Begun tid → is_about g x.event ≡ true → begins g x.answer ≡ true
    begun tid is about =
        let go = subst (Begins x.event) is b in
        let own : same_tid tid g ≡ true = subst (λ ev. is_about g ev ≡ true) go.1 about in
        ap (begins g) is ∙ own

    by_tests : (s a : Bool) → (stops x.answer || comes_up x.answer) ≡ s → is_about g x.event ≡ a → cond s false (cond a (opened x.answer (is_open past g)) (is_open past g)) ≡ true
        → (begins g x.answer ≡ true) ⊎ ((is_open past g ≡ true) × (is_about g x.event ≡ true → decides x.answer ≡ false) × ((stops x.answer || comes_up x.answer) ≡ false))
    by_tests true a r q e = cc
    by_tests false true r q e = elim (opened_from x.answer (is_open past g) e) [
      | inl h ↦ inl (begun h.0 h.1 q)
      | inr h ↦ inr (h.0, (λ about. h.1), r)
    ]
    by_tests false false r q e = inr (e, (λ about. cc), r)

-- the call appends a Commit of the attempt
abbrev pub AppendsCommit : Tid → Call CoordRecord → Type 0
AppendsCommit g (Append (Rec.Commit tid tickets)) = tid ≡ g
AppendsCommit g call = ⊥

commit_whole : (g : Tid) (b : ℕ) (rs : List CoordRecord) → has_commit (whole coord_frame b rs) g ≡ true → has_commit rs g ≡ true
commit_whole g b [] e = e
commit_whole g b (r ∷ rs) e = by_test (nat_le (bytes_of coord_frame (r ∷ rs)) b) e (commit_whole g b rs)
  where
    behind : (r : CoordRecord) → has_commit rs g ≡ true → has_commit (r ∷ rs) g ≡ true
    behind (Rec.Commit tid tickets) h = by_own (same_tid tid g) h
      where
        by_own : (t : Bool) → has_commit rs g ≡ true → cond t true (has_commit rs g) ≡ true
        by_own true h = refl
        by_own false h = h
    behind (Rec.Initiation tid members) h = h
    behind (Rec.Abort tid members) h = h
    behind (Rec.End tid) h = h
    behind (Rec.Checkpoint sum) h = h

    by_test : (t : Bool) → has_commit (cond t (r ∷ rs) (whole coord_frame b rs)) g ≡ true → (has_commit (whole coord_frame b rs) g ≡ true → has_commit rs g ≡ true) → has_commit (r ∷ rs) g ≡ true
    by_test true e h = e
    by_test false e h = behind r (h e)

commit_more : (g tid : Tid) (tickets : List SiteTicket) (rs : List CoordRecord) → has_commit (Rec.Commit tid tickets ∷ rs) g ≡ true → (tid ≡ g) ⊎ (has_commit rs g ≡ true)
commit_more g tid tickets rs e = by_own (same_tid tid g) refl e
  where
    by_own : (t : Bool) → same_tid tid g ≡ t → cond t true (has_commit rs g) ≡ true → (tid ≡ g) ⊎ (has_commit rs g ≡ true)
    by_own true q e = inl (same_tid-equal tid g q)
    by_own false q e = inr e

-- a Commit that is kept after some calls was kept before, or one of them appended it
pub commit_from : (calls : List (Call CoordRecord)) (d : Disk CoordRecord) (g : Tid) → has_commit (after_calls coord_frame d calls).records g ≡ true → (has_commit d.records g ≡ true) ⊎ Among (AppendsCommit g) calls
commit_from [] d g e = inl e
commit_from (Append (Rec.Commit tid tickets) ∷ calls) d g e = elim (commit_from calls _ g e) [
  | inl h ↦ elim (commit_more g tid tickets d.records h) [ inl own ↦ inr (inl own) | inr old ↦ inl old ]
  | inr i ↦ inr (inr i)
]
commit_from (Append (Rec.Initiation tid members) ∷ calls) d g e = elim (commit_from calls _ g e) [ inl h ↦ inl h | inr i ↦ inr (inr i) ]
commit_from (Append (Rec.Abort tid members) ∷ calls) d g e = elim (commit_from calls _ g e) [ inl h ↦ inl h | inr i ↦ inr (inr i) ]
commit_from (Append (Rec.End tid) ∷ calls) d g e = elim (commit_from calls _ g e) [ inl h ↦ inl h | inr i ↦ inr (inr i) ]
commit_from (Append (Rec.Checkpoint sum) ∷ calls) d g e = elim (commit_from calls _ g e) [ inl h ↦ inl h | inr i ↦ inr (inr i) ]
commit_from (Sync ∷ calls) d g e = elim (commit_from calls _ g e) [ inl h ↦ inl h | inr i ↦ inr (inr i) ]
commit_from (CutBack ∷ calls) d g e = elim (commit_from calls _ g e) [ inl h ↦ inl h | inr i ↦ inr (inr i) ]
commit_from (TrimFront ∷ calls) d g e = elim (commit_from calls _ g e) [ inl h ↦ inl h | inr i ↦ inr (inr i) ]
commit_from (Stops cut ∷ calls) d g e = elim (commit_from calls _ g e) [ inl h ↦ inl (commit_whole g _ d.records h) | inr i ↦ inr (inr i) ]

-- the vote that an appended Commit comes from
pub last_vote_of : (protocols : List Participant) (past : CoordPast) (event : CoordEvent) (g : Tid) (calls : List (Call CoordRecord)) → Each (Writes protocols past event) calls → Among (AppendsCommit g) calls
    → (tickets : List SiteTicket) × IsLastVote protocols past event g tickets
last_vote_of protocols past event g [] w i = absurd i
last_vote_of protocols past event g (Append (Rec.Commit tid tickets) ∷ calls) w (inl own) = (tickets, subst (λ t. IsLastVote protocols past event t tickets) own w.0)
last_vote_of protocols past event g (Append (Rec.Initiation tid members) ∷ calls) w (inl own) = absurd own
last_vote_of protocols past event g (Append (Rec.Abort tid members) ∷ calls) w (inl own) = absurd own
last_vote_of protocols past event g (Append (Rec.End tid) ∷ calls) w (inl own) = absurd own
last_vote_of protocols past event g (Append (Rec.Checkpoint sum) ∷ calls) w (inl own) = absurd own
last_vote_of protocols past event g (Sync ∷ calls) w (inl own) = absurd own
last_vote_of protocols past event g (CutBack ∷ calls) w (inl own) = absurd own
last_vote_of protocols past event g (TrimFront ∷ calls) w (inl own) = absurd own
last_vote_of protocols past event g (Stops cut ∷ calls) w (inl own) = absurd own
last_vote_of protocols past event g (call ∷ calls) w (inr i) = last_vote_of protocols past event g calls w.1 i

-- A coordinator on whose disk a journal is found: what holds of every past that events make holds of the past that is made up for it, if only the
-- participants that its records name are declared ones, by rising site.
use Rattle.std.proofs.Common.{◌≡◌, ◌⊎◌, ℕ, zero, suc, ◌+◌, ◌-◌, ◌<◌, ◌≤◌, Bool, true, false, cond, ◌||◌, ◌&&◌, not, Option, Some, None, List, [], ◌∷◌, ◌++◌, map, inl, inr, refl, sym, ap, subst, ◌∙◌, arith, is_some}
use Rattle.std.proofs.lemmas.Bool.{not-true}
use Rattle.mdb_base.specs.declared.acts.Step.{Step}
use Rattle.mdb_base.specs.declared.names.SiteId.{SiteId}
use Rattle.mdb_base.specs.declared.names.Tid.{Tid}
use Rattle.mdb_base.specs.declared.names.Tx.{Tx}
use Rattle.mdb_base.specs.Names.{same_tid, same_tx}
use Rattle.mdb_base.specs.Words.{Among, how_many, or_else, some_of, those, with_some}
use Rattle.mdb_base.proofs.ForCallers.{same_tid-equal, same_tid-refl}
use Rattle.order_laws.specs.Chains.{In}
use Rattle.presumptions.specs.declared.Decision.{Decision}
use Rattle.presumptions.specs.declared.Participant.{Participant}
use Rattle.fed_rules.specs.declared.answers.Answer.{Answer}
use Rattle.fed_rules.specs.declared.answers.Answer.TheVariants as Say
use Rattle.fed_rules.specs.declared.messages.Sent.{Sent}
use Rattle.fed_rules.specs.declared.records.CoordRecord.{CoordRecord}
use Rattle.fed_rules.specs.declared.records.CoordRecord.TheVariants as Rec
use Rattle.fed_rules.specs.Attempts.{with_attempt}
use Rattle.fed_rules.specs.CoordPast.{CoordPast, Decided, attempts_of, begins, begun_by, begun_tids, disk, has_sent, kept_decision, or_steps, participants, participants_of, program, records, standing, standing_of}
use Rattle.fed_rules.specs.Coord.{missing}
use Rattle.fed_rules.specs.CoordRecords.{commits, coord_frame, has_end, is_kept, is_nobody, named, outcome, recorded, required, required_of, ticketed}
use Rattle.fed_rules.specs.Disk.{Append, Sync, after_calls, empty_disk}
use Rattle.fed_rules.specs.Found.{Journal}
use Rattle.fed_rules.specs.Reopened.{all_gone, all_heard, coord_opening, coord_read, coord_reads_as, go_on, goes, heard_of, long_coord, opened_coordinator, rewritten, visit}
use Rattle.fed_rules.specs.Durable.{IsFirm, IsSound}
use Rattle.fed_rules.proofs.ForCallers.{calls_split, firm_stop, sound_calls}
use Rattle.order_laws.specs.Tickets.{HasNoCycle, OneEach}
use Rattle.fed_rules.specs.Usable.{IsEndOf}
use Rattle.coord_laws.specs.Pasts.{IsOpened, NameDeclared}
use Rattle.coord_laws.specs.Records.{IsCommit, IsEnd}
use Rattle.coord_laws.proofs.Begun.{AreNumbered, below_listed, begun_in, more_attempts, numbered_below, one_attempt}
use Rattle.coord_laws.proofs.Facts.{IsOpen, is_undecided}
use Rattle.coord_laws.proofs.Sound.{CoordSound, Declared, IsAcked, IsBegun, IsClear, IsMark, IsYes}

-- ---- who is recorded

pub with_own : (t : Tid) (ts : List Tid) → In t (with_attempt t ts)
with_own t ts = by_test (some_of (same_tid t) ts) refl
  where
    there : (us : List Tid) → some_of (same_tid t) us ≡ true → In t us
    there [] e = cc
    there (u ∷ us) e = by_own (same_tid t u) refl e (there us)
      where
        by_own : (b : Bool) → same_tid t u ≡ b → (b || some_of (same_tid t) us) ≡ true → (some_of (same_tid t) us ≡ true → In t us) → In t (u ∷ us)
        by_own true q e k = inl (sym (same_tid-equal t u q))
        by_own false q e k = inr (k e)

    by_test : (b : Bool) → some_of (same_tid t) ts ≡ b → In t (cond b ts (t ∷ ts))
    by_test true e = there ts e
    by_test false e = inl refl

pub with_more : (t g : Tid) (ts : List Tid) → In g ts → In g (with_attempt t ts)
with_more t g ts i = by_test (some_of (same_tid t) ts)
  where
    by_test : (b : Bool) → In g (cond b ts (t ∷ ts))
    by_test true = i
    by_test false = inr i

own_recorded : (t g : Tid) (ts : List Tid) → same_tid t g ≡ true → In g (with_attempt t ts)
own_recorded t g ts q = subst (λ u. In u (with_attempt t ts)) (same_tid-equal t g q) (with_own t ts)

named_recorded : (protocols : List Participant) (rs : List CoordRecord) (g : Tid) (ms : List Participant) → named protocols rs g ≡ Some ms → In g (recorded rs)
named_recorded protocols [] g ms e = cc
named_recorded protocols (Rec.Initiation t ps ∷ rs) g ms e = by_test (same_tid t g) refl e (named_recorded protocols rs g ms)
  where
    by_test : (b : Bool) → same_tid t g ≡ b → cond b (Some ps) (named protocols rs g) ≡ Some ms → (named protocols rs g ≡ Some ms → In g (recorded rs)) → In g (with_attempt t (recorded rs))
    by_test true q e k = own_recorded t g (recorded rs) q
    by_test false q e k = with_more t g (recorded rs) (k e)
named_recorded protocols (Rec.Commit t ks ∷ rs) g ms e = by_test (same_tid t g) refl e (named_recorded protocols rs g ms)
  where
    by_test : (b : Bool) → same_tid t g ≡ b → cond b (Some (or_else (named protocols rs g) (ticketed protocols ks))) (named protocols rs g) ≡ Some ms → (named protocols rs g ≡ Some ms → In g (recorded rs)) → In g (with_attempt t (recorded rs))
    by_test true q e k = own_recorded t g (recorded rs) q
    by_test false q e k = with_more t g (recorded rs) (k e)
named_recorded protocols (Rec.Abort t ps ∷ rs) g ms e = by_test (same_tid t g) refl e (named_recorded protocols rs g ms)
  where
    by_test : (b : Bool) → same_tid t g ≡ b → cond b (Some (or_else (named protocols rs g) ps)) (named protocols rs g) ≡ Some ms → (named protocols rs g ≡ Some ms → In g (recorded rs)) → In g (with_attempt t (recorded rs))
    by_test true q e k = own_recorded t g (recorded rs) q
    by_test false q e k = with_more t g (recorded rs) (k e)
named_recorded protocols (Rec.End t ∷ rs) g ms e = with_more t g (recorded rs) (named_recorded protocols rs g ms e)
named_recorded protocols (Rec.Checkpoint sum ∷ rs) g ms e = named_recorded protocols rs g ms e

mark_recorded : (rs : List CoordRecord) (g : Tid) → Among (IsMark g) rs → In g (recorded rs)
mark_recorded [] g m = absurd m
mark_recorded (Rec.Initiation t ps ∷ rs) g (inl m) = absurd m
mark_recorded (Rec.Initiation t ps ∷ rs) g (inr m) = with_more t g (recorded rs) (mark_recorded rs g m)
mark_recorded (Rec.Commit t ks ∷ rs) g (inl m) = subst (λ u. In u (with_attempt t (recorded rs))) m (with_own t (recorded rs))
mark_recorded (Rec.Commit t ks ∷ rs) g (inr m) = with_more t g (recorded rs) (mark_recorded rs g m)
mark_recorded (Rec.Abort t ps ∷ rs) g (inl m) = absurd m
mark_recorded (Rec.Abort t ps ∷ rs) g (inr m) = with_more t g (recorded rs) (mark_recorded rs g m)
mark_recorded (Rec.End t ∷ rs) g (inl m) = subst (λ u. In u (with_attempt t (recorded rs))) m (with_own t (recorded rs))
mark_recorded (Rec.End t ∷ rs) g (inr m) = with_more t g (recorded rs) (mark_recorded rs g m)
mark_recorded (Rec.Checkpoint sum ∷ rs) g (inl m) = absurd m
mark_recorded (Rec.Checkpoint sum ∷ rs) g (inr m) = mark_recorded rs g m

commit_mark : (rs : List CoordRecord) (g : Tid) → Among (IsCommit g) rs → Among (IsMark g) rs
commit_mark [] g m = m
commit_mark (Rec.Commit t ks ∷ rs) g (inl c) = inl c
commit_mark (Rec.End t ∷ rs) g (inl c) = absurd c
commit_mark (Rec.Checkpoint sum ∷ rs) g (inl c) = absurd c
commit_mark (Rec.Initiation t ms ∷ rs) g (inl c) = absurd c
commit_mark (Rec.Abort t ms ∷ rs) g (inl c) = absurd c
commit_mark (r ∷ rs) g (inr m) = inr (commit_mark rs g m)

end_mark : (rs : List CoordRecord) (g : Tid) → Among (IsEndOf g) rs → Among (IsMark g) rs
end_mark [] g m = m
end_mark (Rec.End t ∷ rs) g (inl c) = inl c
end_mark (Rec.Commit t ks ∷ rs) g (inl c) = absurd c
end_mark (Rec.Checkpoint sum ∷ rs) g (inl c) = absurd c
end_mark (Rec.Initiation t ms ∷ rs) g (inl c) = absurd c
end_mark (Rec.Abort t ms ∷ rs) g (inl c) = absurd c
end_mark (r ∷ rs) g (inr m) = inr (end_mark rs g m)

-- ---- what the made-up lines say

-- each attempt that was begun has the program that visits whom the records name; attempts are numbered; and nothing is written
record AreTold (protocols : List Participant) (rs : List CoordRecord) (past : CoordPast) : Type 0 where
  numbered : AreNumbered (begun_tids past)
  programs : (g : Tid) → IsBegun past g → program past g ≡ map visit (or_else (named protocols rs g) [])
  writes : disk past ≡ empty_disk
  silent : (test : Sent → Bool) → has_sent test past ≡ false

module _ (protocols : List Participant) (rs : List CoordRecord) where
  one_more : (tx : Tx) (past : CoordPast) → AreTold protocols rs past
      → AreTold protocols rs (goes protocols rs (record { tx = tx; attempt = attempts_of past tx }) ∷ past)
  one_more tx past told = record {
    numbered = (refl, told.numbered);
    programs = λ g b. by_test g (same_tid next g) refl b;
    writes = told.writes;
    silent = told.silent;
  }
    where
      next : Tid
      next = record { tx = tx; attempt = attempts_of past tx }

      by_test : (g : Tid) (b : Bool) → same_tid next g ≡ b → (same_tid next g ≡ true) ⊎ IsBegun past g
          → program (goes protocols rs next ∷ past) g ≡ map visit (or_else (named protocols rs g) [])
      by_test g true q i =
          ap (λ b. cond b (or_steps_of b) (program past g)) q ∙ ap (λ u. map visit (or_else (named protocols rs u) [])) (same_tid-equal next g q)
        where
          or_steps_of : Bool → List Step
          or_steps_of b = or_steps (cond b (Some (map visit (or_else (named protocols rs next) []))) None) []
      by_test g false q (inl e) = let clash = sym q ∙ e in cc
      by_test g false q (inr i) = ap (λ b. cond b (or_steps_of b) (program past g)) q ∙ told.programs g i
        where
          or_steps_of : Bool → List Step
          or_steps_of b = or_steps (cond b (Some (map visit (or_else (named protocols rs next) []))) None) []

  so_many : (tx : Tx) (n : ℕ) (past : CoordPast) → AreTold protocols rs past → AreTold protocols rs (go_on protocols rs tx n past)
  so_many tx zero past told = told
  so_many tx (suc n) past told = one_more tx (go_on protocols rs tx n past) (so_many tx n past told)

  so_many_count : (tx : Tx) (n : ℕ) (past : CoordPast) → attempts_of (go_on protocols rs tx n past) tx ≡ n + attempts_of past tx
  so_many_count tx zero past = omega arith
  so_many_count tx (suc n) past =
      let before = go_on protocols rs tx n past in
      let one : attempts_of (go_on protocols rs tx (suc n) past) tx ≡ suc (attempts_of before tx) = one_attempt (record { tx = tx; attempt = attempts_of before tx }) (begun_tids before) in
      let rest = so_many_count tx n past in omega (arith, one, rest)

  so_many_more : (tx u : Tx) (n : ℕ) (past : CoordPast) → attempts_of past u ≤ attempts_of (go_on protocols rs tx n past) u
  so_many_more tx u zero past = omega arith
  so_many_more tx u (suc n) past =
      let before = go_on protocols rs tx n past in
      let less = so_many_more tx u n past in
      let one = more_attempts u (Some (record { tx = tx; attempt = attempts_of before tx })) (begun_tids before) in omega (arith, less, one)

  gone_told : (tids : List Tid) → AreTold protocols rs (all_gone protocols rs tids)
  gone_told [] = record { numbered = tt; programs = λ g b. absurd b; writes = refl; silent = λ test. refl }
  gone_told (tid ∷ tids) =
      let before = all_gone protocols rs tids in so_many tid.tx (tid.attempt + 1 - attempts_of before tid.tx) before (gone_told tids)

  gone_all : (tids : List Tid) (g : Tid) → In g tids → g.attempt < attempts_of (all_gone protocols rs tids) g.tx
  gone_all [] g i = absurd i
  gone_all (tid ∷ tids) g (inl e) =
      let before = all_gone protocols rs tids in
      subst (λ u. u.attempt < attempts_of (go_on protocols rs tid.tx (tid.attempt + 1 - attempts_of before tid.tx) before) u.tx) e
      (let count = so_many_count tid.tx (tid.attempt + 1 - attempts_of before tid.tx) before in omega (arith, count))
  gone_all (tid ∷ tids) g (inr i) =
      let before = all_gone protocols rs tids in
      let old = gone_all tids g i in
      let more = so_many_more tid.tx g.tx (tid.attempt + 1 - attempts_of before tid.tx) before in omega (arith, old, more)

  -- only these were begun, and the attempts of their transactions before them
  so_many_only : (tx : Tx) (n : ℕ) (past : CoordPast) (g : Tid) → In g (begun_tids (go_on protocols rs tx n past))
      → In g (begun_tids past) ⊎ ((g.tx ≡ tx) × (g.attempt < n + attempts_of past tx) × (0 < n))
  so_many_only tx zero past g i = inl i
  so_many_only tx (suc n) past g (inl e) =
      let count = so_many_count tx n past in
      inr (sym (ap (λ (t : Tid). t.tx) e), (let is = ap (λ (t : Tid). t.attempt) e in omega (arith, count, is)), omega arith)
  so_many_only tx (suc n) past g (inr i) = elim (so_many_only tx n past g i) [
    | inl old ↦ inl old
    | inr own ↦ inr (own.0, (let less = own.1 in omega (arith, less)), omega arith)
  ]

  gone_only : (tids : List Tid) (g : Tid) → In g (begun_tids (all_gone protocols rs tids)) → (u : Tid) × In u tids × (u.tx ≡ g.tx) × (g.attempt ≤ u.attempt)
  gone_only [] g i = absurd i
  gone_only (tid ∷ tids) g i =
      by_line (so_many_only tid.tx (tid.attempt + 1 - attempts_of (all_gone protocols rs tids) tid.tx) (all_gone protocols rs tids) g i) (gone_only tids g)
    where
      by_line : In g (begun_tids (all_gone protocols rs tids))
          ⊎ ((g.tx ≡ tid.tx) × (g.attempt < tid.attempt + 1 - attempts_of (all_gone protocols rs tids) tid.tx + attempts_of (all_gone protocols rs tids) tid.tx)
          × (0 < tid.attempt + 1 - attempts_of (all_gone protocols rs tids) tid.tx))
          → (In g (begun_tids (all_gone protocols rs tids)) → (u : Tid) × In u tids × (u.tx ≡ g.tx) × (g.attempt ≤ u.attempt))
          → (u : Tid) × In u (tid ∷ tids) × (u.tx ≡ g.tx) × (g.attempt ≤ u.attempt)
      by_line (inl old) rest = let r = rest old in (r.0, inr r.1, r.2, r.3)
      by_line (inr (own, less, some)) rest = (tid, inl refl, sym own, omega (arith, less, some))

  -- lines that only tell of votes and acknowledgements
  heard_told : (members : List Participant) (tid : Tid) (past : CoordPast) → AreTold protocols rs past
      → AreTold protocols rs (heard_of members tid past) × (begun_tids (heard_of members tid past) ≡ begun_tids past)
  heard_told [] tid past told = (told, refl)
  heard_told (m ∷ ms) tid past told =
      let (rest, same) = heard_told ms tid past told in (
        record {
          numbered = rest.numbered;
          programs = λ g b. rest.programs g (strip g (heard_of ms tid past) b);
          writes = rest.writes;
          silent = rest.silent;
        },
        same,
      )
    where
      strip : (g : Tid) (p : CoordPast) → (false ≡ true) ⊎ ((false ≡ true) ⊎ IsBegun p g) → IsBegun p g
      strip g p (inl e) = cc
      strip g p (inr (inl e)) = cc
      strip g p (inr (inr b)) = b

  all_told : (tids : List Tid) (past : CoordPast) → AreTold protocols rs past
      → AreTold protocols rs (all_heard protocols tids past) × (begun_tids (all_heard protocols tids past) ≡ begun_tids past)
  all_told [] past told = (told, refl)
  all_told (tid ∷ tids) past told =
      let (rest, same) = all_told tids past told in
      let (one, also) = heard_told protocols tid (all_heard protocols tids past) rest in (one, also ∙ same)

-- a vote and an acknowledgement of each site are told
record IsHeard (site : SiteId) (g : Tid) (past : CoordPast) : Type 0 where
  voted : Among (λ x. IsYes g site x.event) past
  acked : IsAcked past g site

heard_further : (members : List Participant) (t : Tid) (site : SiteId) (g : Tid) (past : CoordPast) → IsHeard site g past → IsHeard site g (heard_of members t past)
heard_further [] t site g past h = h
heard_further (m ∷ ms) t site g past h =
    let k = heard_further ms t site g past h in record { voted = inr (inr k.voted); acked = inr (inr k.acked) }

heard_one : (members : List Participant) (g : Tid) (m : Participant) (past : CoordPast) → In m members → IsHeard m.site g (heard_of members g past)
heard_one [] g m past i = absurd i
heard_one (n ∷ ms) g m past (inl e) =
    subst (λ (p : Participant). IsHeard p.site g (heard_of (n ∷ ms) g past)) e (record { voted = inr (inl (0, refl)); acked = inl refl })
heard_one (n ∷ ms) g m past (inr i) =
    let k = heard_one ms g m past i in record { voted = inr (inr k.voted); acked = inr (inr k.acked) }

heard_all : (protocols : List Participant) (tids : List Tid) (g : Tid) (m : Participant) (past : CoordPast) → In g tids → In m protocols
    → IsHeard m.site g (all_heard protocols tids past)
heard_all protocols [] g m past i j = absurd i
heard_all protocols (t ∷ tids) g m past (inl e) j =
    subst (λ u. IsHeard m.site u (heard_of protocols t (all_heard protocols tids past))) e (heard_one protocols t m (all_heard protocols tids past) j)
heard_all protocols (t ∷ tids) g m past (inr i) j = heard_further protocols t m.site g (all_heard protocols tids past) (heard_all protocols tids g m past i j)

-- an attempt that is listed was begun
pub in_begun : (past : CoordPast) (g : Tid) → In g (begun_tids past) → IsBegun past g
in_begun [] g i = absurd i
in_begun (x ∷ past) g i = by_answer x.answer i (in_begun past g)
  where
    by_begun : (o : Option Tid) (a : Answer) → begun_by a ≡ o → In g (with_some o (begun_tids past)) → (In g (begun_tids past) → IsBegun past g) → (begins g a ≡ true) ⊎ IsBegun past g
    by_begun None a e i k = inr (k i)
    by_begun (Some t) a e (inl same) k = inl (begun_is a (e ∙ ap Some same))
      where
        begun_is : (b : Answer) → begun_by b ≡ Some g → begins g b ≡ true
        begun_is (Say.Begun u) f = let own : u ≡ g = cc in subst (λ v. begins v (Say.Begun u) ≡ true) own (same_tid-refl u)
        begun_is b f = cc
    by_begun (Some t) a e (inr i) k = inr (k i)

    by_answer : (a : Answer) → In g (with_some (begun_by a) (begun_tids past)) → (In g (begun_tids past) → IsBegun past g) → (begins g a ≡ true) ⊎ IsBegun past g
    by_answer a i k = by_begun (begun_by a) a refl i k

-- ---- the law

module _ (protocols : List Participant) (journal : Journal CoordRecord) (declared : NameDeclared protocols (coord_read journal)) where
  abbrev rs : List CoordRecord
  rs = coord_read journal

  abbrev rest : CoordPast
  rest = all_heard protocols (recorded rs) (all_gone protocols rs (recorded rs))

  told : AreTold protocols rs rest
  told = (all_told protocols rs (recorded rs) (all_gone protocols rs (recorded rs)) (gone_told protocols rs (recorded rs))).0

  same_begun : begun_tids rest ≡ begun_tids (all_gone protocols rs (recorded rs))
  same_begun = (all_told protocols rs (recorded rs) (all_gone protocols rs (recorded rs)) (gone_told protocols rs (recorded rs))).1

  abbrev past : CoordPast
  past = coord_opening journal ∷ rest

  records_are : records past ≡ rs
  records_are = ap (λ d. (after_calls coord_frame d (coord_opening journal).calls).records) told.writes

  begun_rest : (g : Tid) → In g (recorded rs) → IsBegun rest g
  begun_rest g i =
      let gone = all_gone protocols rs (recorded rs) in
      in_begun rest g (subst (In g) (sym same_begun) (below_listed (begun_tids gone) g (gone_told protocols rs (recorded rs)).numbered (gone_all protocols rs (recorded rs) g i)))

  clear_of : (member : Participant) (g : Tid) → In g (recorded rs) → IsClear protocols member g past
  clear_of member g i known says visiting = find protocols known (λ m j. (heard_all protocols (recorded rs) g m (all_gone protocols rs (recorded rs)) i j).acked)
    where
      find : (ms : List Participant) → Declared ms member → ((m : Participant) → In m ms → IsAcked rest g m.site) → IsAcked past g member.site
      find [] d k = absurd d
      find (m ∷ ms) (inl d) k = inr (subst (IsAcked rest g) d.0 (k m (inl refl)))
      find (m ∷ ms) (inr d) k = find ms d (λ n j. k n (inr j))

  voted_of : (member : Participant) (g : Tid) → In g (recorded rs) → Declared protocols member → Among (λ x. IsYes g member.site x.event) past
  voted_of member g i known = find protocols known (λ m j. (heard_all protocols (recorded rs) g m (all_gone protocols rs (recorded rs)) i j).voted)
    where
      find : (ms : List Participant) → Declared ms member → ((m : Participant) → In m ms → Among (λ x. IsYes g m.site x.event) rest) → Among (λ x. IsYes g member.site x.event) past
      find [] d k = absurd d
      find (m ∷ ms) (inl d) k = inr (subst (λ s. Among (λ x. IsYes g s x.event) rest) d.0 (k m (inl refl)))
      find (m ∷ ms) (inr d) k = find ms d (λ n j. k n (inr j))

  names_of : (g : Tid) (ms : List Participant) → named protocols (records past) g ≡ Some ms → IsBegun past g × (ms ≡ participants protocols past g)
  names_of g ms e =
      let here : named protocols rs g ≡ Some ms = ap (λ xs. named protocols xs g) (sym records_are) ∙ e in
      let begun = begun_rest g (named_recorded protocols rs g ms here) in
      (inr begun, declared g ms here ∙ ap (λ o. participants_of protocols (map visit (or_else o []))) (sym here) ∙ ap (participants_of protocols) (sym (told.programs g begun)))

  keeps : (g : Tid) (d : Decision) → standing protocols past g ≡ Decided d → (is_kept protocols (records past) g ≡ true) × (d ≡ outcome (records past) g)
  keeps g d e = by_test (is_kept protocols (records past) g) refl e
    where
      by_test : (b : Bool) → is_kept protocols (records past) g ≡ b → standing_of false (cond b (Some (outcome (records past) g)) None) ≡ Decided d
          → (is_kept protocols (records past) g ≡ true) × (d ≡ outcome (records past) g)
      by_test true q e = (q, cc)
      by_test false q e = cc

  some_named : (g : Tid) → is_kept protocols (records past) g ≡ true → (ms : List Participant) × (named protocols (records past) g ≡ Some ms)
  some_named g e = by_named (named protocols (records past) g) refl e
    where
      by_named : (o : Option (List Participant)) → named protocols (records past) g ≡ o
          → (not (has_end (records past) g) && not (is_nobody (required_of (outcome (records past) g) o))) ≡ true
          → (ms : List Participant) × (named protocols (records past) g ≡ Some ms)
      by_named None q e = absurd (never _ e)
        where
          never : (b : Bool) → (b && false) ≡ true → ⊥
          never true e = cc
          never false e = cc
      by_named (Some ms) q e = (ms, q)

  and_right : (a b : Bool) → (a && b) ≡ true → b ≡ true
  and_right true b e = e
  and_right false b e = cc

  waits_of : (g : Tid) (d : Decision) → standing protocols past g ≡ Decided d → is_nobody (missing protocols past g d) ≡ false
  waits_of g d e =
      let k = keeps g d e in
      ap is_nobody (all_there (required protocols (records past) g d))
      ∙ ap (λ c. is_nobody (required protocols (records past) g c)) k.1
      ∙ not-true _ (and_right (not (has_end (records past) g)) _ k.0)
    where
      all_there : (xs : List Participant) → those (λ m. true) xs ≡ xs
      all_there [] = refl
      all_there (x ∷ xs) = ap (λ ys. x ∷ ys) (all_there xs)

  firm_of : IsFirm coord_frame IsEnd (disk past)
  firm_of =
      subst (IsFirm coord_frame IsEnd) (sym (calls_split coord_frame (disk rest) (rewritten coord_reads_as journal.records) (long_coord journal.torn) journal.torn))
      (firm_stop coord_frame IsEnd (after_calls coord_frame (disk rest) (rewritten coord_reads_as journal.records ++ Sync ∷ Append (long_coord journal.torn) ∷ [])) journal.torn
      (sound_calls coord_frame (disk rest) (rewritten coord_reads_as journal.records ++ Sync ∷ Append (long_coord journal.torn) ∷ [])
      (subst (IsSound coord_frame) (sym told.writes) (record { frames = omega arith; synced = omega arith }))))

  -- what holds of every past that events make holds of it
  pub opened_sound : (member : Participant) (g : Tid) → CoordSound protocols member g (opened_coordinator protocols journal)
  opened_sound member g = record {
    firm = firm_of;
    numbered = λ b. numbered_below (begun_tids rest) g told.numbered (begun_in rest g (strip b));
    undecided = λ o. absurd (decided_not o);
    marked = λ m. (inr (begun_rest g (mark_recorded rs g (subst (Among (IsMark g)) records_are m))), decided_not);
    names = names_of g;
    decided = λ d e. let k = keeps g d e in let n = some_named g k.0 in ((names_of g n.0 n.1).0, k.1);
    voted = λ known c visiting. voted_of member g (mark_recorded rs g (commit_mark rs g (subst (Among (IsCommit g)) records_are c))) known;
    ended = λ i. clear_of member g (mark_recorded rs g (end_mark rs g (subst (Among (IsEndOf g)) records_are i)));
    gone = λ e n. clear_of member g (is_recorded n);
    waits = waits_of g;
  }
    where
      strip : (false ≡ true) ⊎ IsBegun rest g → IsBegun rest g
      strip (inl e) = cc
      strip (inr b) = b

      decided_not : IsOpen protocols past g → ⊥
      decided_not o = by_decision (kept_decision protocols (records past) g) o
        where
          by_decision : (d : Option Decision) → is_undecided (standing_of false d) ≡ true → ⊥
          by_decision None e = cc
          by_decision (Some d) e = cc

      is_recorded : is_some (named protocols (records past) g) ≡ true → In g (recorded rs)
      is_recorded n = by_named (named protocols rs g) refl (ap (λ xs. is_some (named protocols xs g)) (sym records_are) ∙ n)
        where
          by_named : (o : Option (List Participant)) → named protocols rs g ≡ o → is_some o ≡ true → In g (recorded rs)
          by_named None q e = cc
          by_named (Some ms) q e = named_recorded protocols rs g ms q

  -- who began: each attempt that a record names, and of its transaction those before it
  pub opened_begun : (g : Tid) → In g (begun_tids (opened_coordinator protocols journal)) → (u : Tid) × In u (recorded (coord_read journal)) × (u.tx ≡ g.tx) × (g.attempt ≤ u.attempt)
  opened_begun g i = gone_only protocols rs (recorded rs) g (subst (In g) same_begun i)

  pub opened_attempts : (g : Tid) → In g (recorded (coord_read journal)) → g.attempt < attempts_of (opened_coordinator protocols journal) g.tx
  opened_attempts g i = subst (λ tids. g.attempt < how_many (λ (t : Tid). same_tx t.tx g.tx) tids) (sym same_begun) (gone_all protocols rs (recorded rs) g i)

  pub opened_numbered : AreNumbered (begun_tids (opened_coordinator protocols journal))
  opened_numbered = told.numbered

  pub opened_silent : (test : Sent → Bool) → has_sent test (opened_coordinator protocols journal) ≡ false
  opened_silent test = told.silent test

  pub opened_disk : disk (opened_coordinator protocols journal) ≡ disk (coord_opening journal ∷ [])
  opened_disk = ap (λ d. after_calls coord_frame d (coord_opening journal).calls) told.writes

  pub opened_commits : commits (records (opened_coordinator protocols journal)) ≡ commits (coord_read journal)
  opened_commits = ap commits records_are

-- of a past that a journal stands for
pub is_sound : (protocols : List Participant) (past : CoordPast) → IsOpened protocols past → (member : Participant) (g : Tid) → CoordSound protocols member g past
is_sound protocols past o member g = subst (CoordSound protocols member g) (sym o.is) (opened_sound protocols o.journal o.declared member g)

pub is_numbered : (protocols : List Participant) (past : CoordPast) → IsOpened protocols past → AreNumbered (begun_tids past)
is_numbered protocols past o = subst (λ (p : CoordPast). AreNumbered (begun_tids p)) (sym o.is) (opened_numbered protocols o.journal o.declared)

pub is_silent : (protocols : List Participant) (past : CoordPast) → IsOpened protocols past → (test : Sent → Bool) → has_sent test past ≡ false
is_silent protocols past o test = ap (has_sent test) o.is ∙ opened_silent protocols o.journal o.declared test

pub is_once : (protocols : List Participant) (past : CoordPast) → IsOpened protocols past → OneEach (commits (records past))
is_once protocols past o = subst OneEach (sym (ap (λ p. commits (records p)) o.is ∙ opened_commits protocols o.journal o.declared)) o.once

pub is_cycle_free : (protocols : List Participant) (past : CoordPast) → IsOpened protocols past → HasNoCycle (commits (records past))
is_cycle_free protocols past o = subst HasNoCycle (sym (ap (λ p. commits (records p)) o.is ∙ opened_commits protocols o.journal o.declared)) o.cycle_free

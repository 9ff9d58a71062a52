-- The rules of a coordinator go on from every usable journal: whom its records name are declared participants by rising site.
use Rattle.std.proofs.Common.{◌≡◌, ◌<◌, Bool, true, false, cond, not, ◌||◌, Option, Some, None, List, [], ◌∷◌, ◌++◌, map, refl, sym, ap, ◌∙◌, subst, inl, inr, arith}
use Rattle.mdb_base.specs.declared.names.SiteId.{SiteId}
use Rattle.mdb_base.specs.declared.names.Tid.{Tid}
use Rattle.mdb_base.specs.Names.{same_site, same_tid}
use Rattle.mdb_base.specs.Words.{Among, Each, or_else, some_of, those}
use Rattle.mdb_base.proofs.ForCallers.{each_among, each_filtered, each_map, each_self, same_site-above, same_site-below, same_site-refl}
use Rattle.order_laws.specs.Chains.{In}
use Rattle.order_laws.specs.Tickets.{HasNoCycle, OneEach, Ticketed}
use Rattle.presumptions.specs.declared.Participant.{Participant}
use Rattle.fed_rules.specs.declared.records.CoordRecord.{CoordRecord}
use Rattle.fed_rules.specs.declared.records.CoordRecord.TheVariants.{Initiation, Commit, Abort, End, Checkpoint}
use Rattle.fed_rules.specs.declared.sums.CommittedAttempt.{CommittedAttempt}
use Rattle.fed_rules.specs.declared.sums.OpenAttempt.{OpenAttempt}
use Rattle.fed_rules.specs.CoordPast.{participants_of, visits}
use Rattle.fed_rules.specs.CoordRecords.{commits, has_ticket, named, ticketed}
use Rattle.fed_rules.specs.Found.{Journal}
use Rattle.fed_rules.specs.Reopened.{coord_read, commit_read, end_read, initiation_read, is_open_in, visit}
use Rattle.fed_rules.specs.Usable.{IsDecidedOf, IsUsableCoordinator, NamesSites, StandInOrder}
use Rattle.fed_rules.specs.Usable as Usable
use Rattle.coord_laws.specs.Pasts.{NameDeclared}
use Rattle.coord_laws.specs.FoundCoordinators.{MembersRise, RiseBySite, UsableJournalsGoOn}
use Rattle.coord_laws.proofs.CoordOpened.{read_is}

-- ---- a list of declared participants, by rising site

-- whether one of them is at the site
abbrev is_at : List Participant → Participant → Bool
is_at members p = some_of (λ (m : Participant). same_site m.site p.site) members

visits_members : (site : SiteId) (members : List Participant) → visits site (map visit members) ≡ some_of (λ (m : Participant). same_site m.site site) members
visits_members site [] = refl
visits_members site (m ∷ members) = ap (λ b. same_site m.site site || b) (visits_members site members)

those_same : (f g : Participant → Bool) (xs : List Participant) → Each (λ x. f x ≡ g x) xs → those f xs ≡ those g xs
those_same f g [] h = refl
those_same f g (x ∷ xs) h = ap (λ b. cond b (x ∷ those f xs) (those f xs)) h.0 ∙ ap (λ ys. cond (g x) (x ∷ ys) ys) (those_same f g xs h.1)

none_at : (members : List Participant) (p : Participant) → Each (λ (m : Participant). p.site.0 < m.site.0) members → is_at members p ≡ false
none_at [] p h = refl
none_at (m ∷ members) p h = ap (λ b. b || is_at members p) (same_site-above p.site m.site h.0) ∙ none_at members p h.1

none_left : (xs : List Participant) → those (is_at []) xs ≡ []
none_left [] = refl
none_left (x ∷ xs) = none_left xs

-- those that stand behind the first one
all_behind : (p : Participant) (ps members : List Participant) → Each (λ m. In m (p ∷ ps)) members → Each (λ (m : Participant). p.site.0 < m.site.0) members
    → Each (λ m. In m ps) members
all_behind p ps [] h k = tt
all_behind p ps (m ∷ members) h k = (one h.0, all_behind p ps members h.1 k.1)
  where
    one : In m (p ∷ ps) → In m ps
    one (inl same) = let clash : p.site.0 < p.site.0 = subst (λ (q : Participant). p.site.0 < q.site.0) (sym same) k.0 in absurd (omega (arith, clash))
    one (inr i) = i

those_members : (protocols members : List Participant) → RiseBySite protocols → RiseBySite members → Each (λ m. In m protocols) members
    → those (is_at members) protocols ≡ members
those_members protocols [] rise sorted all = none_left protocols
those_members [] (m ∷ members) rise sorted all = absurd all.0
those_members (p ∷ ps) (m ∷ members) rise sorted all =
    by_first all.0 (λ k. those_members ps members rise.1 sorted.1 k) (λ k. those_members ps (m ∷ members) rise.1 sorted k)
  where
    by_first : In m (p ∷ ps) → (Each (λ n. In n ps) members → those (is_at members) ps ≡ members)
        → (Each (λ n. In n ps) (m ∷ members) → those (is_at (m ∷ members)) ps ≡ m ∷ members)
        → those (is_at (m ∷ members)) (p ∷ ps) ≡ m ∷ members
    by_first (inl same) own other =
        ap (λ b. cond b (p ∷ those (is_at (m ∷ members)) ps) (those (is_at (m ∷ members)) ps)) here
        ∙ ap (λ xs. p ∷ xs) (those_same (is_at (m ∷ members)) (is_at members) ps apart ∙ own (all_behind p ps members all.1 later))
        ∙ ap (λ (q : Participant). q ∷ members) same
      where
        here : is_at (m ∷ members) p ≡ true
        here = ap (λ b. b || is_at members p) (subst (λ (q : Participant). same_site m.site q.site ≡ true) (sym same) (same_site-refl m.site))

        later : Each (λ (n : Participant). p.site.0 < n.site.0) members
        later = subst (λ (q : Participant). Each (λ (n : Participant). q.site.0 < n.site.0) members) (sym same) sorted.0

        apart : Each (λ (q : Participant). is_at (m ∷ members) q ≡ is_at members q) ps
        apart =
            each_map (λ (q : Participant). p.site.0 < q.site.0) (λ (q : Participant). is_at (m ∷ members) q ≡ is_at members q)
            (λ q less. ap (λ b. b || is_at members q) (same_site-below m.site q.site (subst (λ (r : Participant). r.site.0 < q.site.0) same less))) ps rise.0
    by_first (inr i) own other =
        ap (λ b. cond b (p ∷ those (is_at (m ∷ members)) ps) (those (is_at (m ∷ members)) ps)) (none_at (m ∷ members) p later)
        ∙ other (all_behind p ps (m ∷ members) all later)
      where
        first : p.site.0 < m.site.0
        first = each_among (λ (q : Participant). p.site.0 < q.site.0) m ps rise.0 i

        later : Each (λ (n : Participant). p.site.0 < n.site.0) (m ∷ members)
        later =
            (first, each_map (λ (n : Participant). m.site.0 < n.site.0) (λ (n : Participant). p.site.0 < n.site.0) (λ n less. omega (arith, first, less)) members sorted.0)

declared_list : (protocols members : List Participant) → RiseBySite protocols → RiseBySite members → Each (λ m. In m protocols) members
    → members ≡ participants_of protocols (map visit members)
declared_list protocols members rise sorted all =
    sym (those_members protocols members rise sorted all)
    ∙ those_same (is_at members) (λ (p : Participant). visits p.site (map visit members)) protocols (over protocols)
  where
    over : (ps : List Participant) → Each (λ (p : Participant). is_at members p ≡ visits p.site (map visit members)) ps
    over [] = tt
    over (p ∷ ps) = (sym (visits_members p.site members), over ps)

-- ---- whom the records name

record IsListed (protocols members : List Participant) : Type 0 where
  rise : RiseBySite members
  all : Each (λ m. In m protocols) members

abbrev AreListed : List Participant → CoordRecord → Type 0
AreListed protocols (Initiation tid members) = IsListed protocols members
AreListed protocols (Abort tid members) = IsListed protocols members
AreListed protocols other = Unit {0}

pub those_listed : (test : Participant → Bool) (xs : List Participant) → RiseBySite xs → RiseBySite (those test xs)
those_listed test [] h = tt
those_listed test (x ∷ xs) h = by_test (test x) (those_listed test xs h.1)
  where
    by_test : (b : Bool) → RiseBySite (those test xs) → RiseBySite (cond b (x ∷ those test xs) (those test xs))
    by_test true k = (each_filtered (λ (y : Participant). x.site.0 < y.site.0) test xs h.0, k)
    by_test false k = k

named_listed : (protocols : List Participant) (rs : List CoordRecord) (g : Tid) (members : List Participant) → RiseBySite protocols → Each (AreListed protocols) rs
    → named protocols rs g ≡ Some members → IsListed protocols members
named_listed protocols [] g members rise h e = cc
named_listed protocols (Initiation t ms ∷ rs) g members rise h e = by_test (same_tid t g) e (named_listed protocols rs g members rise h.1)
  where
    by_test : (b : Bool) → cond b (Some ms) (named protocols rs g) ≡ Some members → (named protocols rs g ≡ Some members → IsListed protocols members) → IsListed protocols members
    by_test true f k = let same : ms ≡ members = cc in subst (IsListed protocols) same h.0
    by_test false f k = k f
named_listed protocols (Commit t ks ∷ rs) g members rise h e = by_test (same_tid t g) (named protocols rs g) refl e (named_listed protocols rs g members rise h.1)
  where
    by_test : (b : Bool) (o : Option (List Participant)) → named protocols rs g ≡ o → cond b (Some (or_else o (ticketed protocols ks))) o ≡ Some members
        → (named protocols rs g ≡ Some members → IsListed protocols members) → IsListed protocols members
    by_test false o q f k = k (q ∙ f)
    by_test true (Some ns) q f k = k (q ∙ f)
    by_test true None q f k =
        let same : ticketed protocols ks ≡ members = cc in
        subst (IsListed protocols) same (record {
          rise = those_listed (λ (p : Participant). has_ticket ks p.site) protocols rise;
          all = each_filtered (λ m. In m protocols) (λ (p : Participant). has_ticket ks p.site) protocols (each_self protocols);
        })
named_listed protocols (Abort t ms ∷ rs) g members rise h e = by_test (same_tid t g) (named protocols rs g) refl e (named_listed protocols rs g members rise h.1)
  where
    by_test : (b : Bool) (o : Option (List Participant)) → named protocols rs g ≡ o → cond b (Some (or_else o ms)) o ≡ Some members
        → (named protocols rs g ≡ Some members → IsListed protocols members) → IsListed protocols members
    by_test false o q f k = k (q ∙ f)
    by_test true (Some ns) q f k = k (q ∙ f)
    by_test true None q f k = let same : ms ≡ members = cc in subst (IsListed protocols) same h.0
named_listed protocols (End t ∷ rs) g members rise h e = named_listed protocols rs g members rise h.1 e
named_listed protocols (Checkpoint sum ∷ rs) g members rise h e = named_listed protocols rs g members rise h.1 e

-- the records that a usable journal is read as
read_listed : (protocols : List Participant) (rs : List CoordRecord) → Each (NamesSites protocols) rs → Each MembersRise rs → Each (AreListed protocols) (Usable.coord_read rs)
read_listed protocols [] names rise = tt
read_listed protocols (Checkpoint sum ∷ []) names rise =
    (tt, over (those (λ (attempt : CommittedAttempt). not (is_open_in sum attempt.tid)) sum.committed) sum.committed sum.open_attempts names.0.0 rise.0)
  where
    over : (es cs : List CommittedAttempt) (os : List OpenAttempt) → Each (λ (attempt : OpenAttempt). Each (λ member. In member protocols) attempt.participants) os
        → Each (λ (attempt : OpenAttempt). RiseBySite attempt.participants) os
        → Each (AreListed protocols) ((map end_read es ++ map commit_read cs) ++ map initiation_read os)
    over [] [] [] n r = tt
    over [] [] (o ∷ os) n r = (record { rise = r.0; all = n.0 }, over [] [] os n.1 r.1)
    over [] (c ∷ cs) os n r = (tt, over [] cs os n r)
    over (e ∷ es) cs os n r = (tt, over es cs os n r)
read_listed protocols (Checkpoint sum ∷ r ∷ rs) names rise = (tt, read_listed protocols (r ∷ rs) names.1 rise.1)
read_listed protocols (Initiation t ms ∷ rs) names rise = (record { rise = rise.0; all = names.0 }, read_listed protocols rs names.1 rise.1)
read_listed protocols (Abort t ms ∷ rs) names rise = (record { rise = rise.0; all = names.0 }, read_listed protocols rs names.1 rise.1)
read_listed protocols (Commit t ks ∷ rs) names rise = (tt, read_listed protocols rs names.1 rise.1)
read_listed protocols (End t ∷ rs) names rise = (tt, read_listed protocols rs names.1 rise.1)

-- ---- each commit is of another attempt

commit_decided : (rs : List CoordRecord) (g : Tid) → In g (map (λ (c : Ticketed). c.tid) (commits rs)) → Among (IsDecidedOf g) rs
commit_decided [] g i = i
commit_decided (Initiation t ms ∷ rs) g i = inr (commit_decided rs g i)
commit_decided (Abort t ms ∷ rs) g i = inr (commit_decided rs g i)
commit_decided (End t ∷ rs) g i = inr (commit_decided rs g i)
commit_decided (Checkpoint sum ∷ rs) g i = inr (commit_decided rs g i)
commit_decided (Commit t ks ∷ rs) g (inl same) = inl same
commit_decided (Commit t ks ∷ rs) g (inr i) = inr (commit_decided rs g i)

one_each : (rs : List CoordRecord) → StandInOrder rs → OneEach (commits rs)
one_each [] s = tt
one_each (Initiation t ms ∷ rs) s = one_each rs s.1
one_each (Abort t ms ∷ rs) s = one_each rs s.1
one_each (End t ∷ rs) s = one_each rs s.1
one_each (Checkpoint sum ∷ rs) s = one_each rs s
one_each (Commit t ks ∷ rs) s = ((λ i. s.0 (commit_decided rs t i)), one_each rs s.1)

pub names_declared : (protocols : List Participant) (journal : Journal CoordRecord) → RiseBySite protocols → IsUsableCoordinator protocols journal.records
    → Each MembersRise journal.records → NameDeclared protocols (coord_read journal)
names_declared protocols journal rise usable members tid ms e =
    let here : named protocols (Usable.coord_read journal.records) tid ≡ Some ms = ap (λ rs. named protocols rs tid) (sym (read_is journal.records journal.torn)) ∙ e in
    let listed = named_listed protocols (Usable.coord_read journal.records) tid ms rise (read_listed protocols journal.records usable.sites members) here in
    declared_list protocols ms rise listed.rise listed.all

pub usable_go_on : UsableJournalsGoOn
usable_go_on protocols journal rise usable members = record {
  journal = journal;
  is = refl;
  declared = names_declared protocols journal rise usable members;
  once = subst (λ rs. OneEach (commits rs)) (sym read) (one_each (Usable.coord_read journal.records) usable.order);
  cycle_free = subst (λ rs. HasNoCycle (commits rs)) (sym read) usable.cycle_free;
  order = subst StandInOrder (sym read) usable.order;
  sums = usable.sums;
  sums_of_open = usable.sums_of_open;
}
  where
    read : coord_read journal ≡ Usable.coord_read journal.records
    read = read_is journal.records journal.torn

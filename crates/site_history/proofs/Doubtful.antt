-- Those in doubt by rising attempt: they are told by who is in doubt of what alone, and so they are the same behind a Checkpoint and behind the
-- records that it stands for.
use Rattle.std.proofs.Common.{◌≡◌, ◌⊎◌, true, false, Option, Some, None, List, [], ◌∷◌, ◌++◌, map, refl, sym, subst, ap, ◌∙◌, inl, inr, arith}
use Rattle.mdb_base.specs.declared.names.Tid.{Tid}
use Rattle.mdb_base.specs.Names.{same_tid, tid_before}
use Rattle.mdb_base.specs.Words.{Each, found, with_some}
use Rattle.mdb_base.proofs.ForCallers.{each_among}
use Rattle.order_laws.specs.Chains.{In}
use Rattle.order_laws.proofs.ForCallers.{in_inserted, ranks_tids}
use Rattle.fed_rules.specs.declared.records.SiteRecord.{SiteRecord}
use Rattle.fed_rules.specs.Attempts.{each_attempt}
use Rattle.fed_rules.specs.SiteRecords.{Held, doubt_of, prepared_tids, doubts, by_tid, held_before, kept_held}
use Rattle.fed_rules.specs.SiteSums.{carried}
use Rattle.fed_rules.specs.Usable.{RiseBy}
use Rattle.engine_laws.specs.Laws.{EachOnce}
use Rattle.fed_rules.proofs.ForCallers.{AreSorted, sorted_by_tid}
use Rattle.engine_laws.proofs.ForCallers.{are_doubt, doubt_tid, once_doubts}
use Rattle.site_history.proofs.Behind.{carried_same, doubt_behind}

not_before : (a b c : Tid) → tid_before a b ≡ false → tid_before b c ≡ false → tid_before a c ≡ false
not_before a b c e f = grind arith

-- each stands before all behind it
abbrev AreRising : List Held → Type 0
AreRising helds = RiseBy (λ (held : Held). held.tid) helds

before_other : (a b : Tid) → tid_before b a ≡ false → same_tid a b ≡ false → tid_before a b ≡ true
before_other a b e f = grind arith

rising : (helds : List Held) → AreSorted helds → EachOnce (map kept_held helds) → AreRising helds
rising [] s once = tt
rising (held ∷ helds) s once = (all helds s.0 once.0, rising helds s.1 once.1)
  where
    all : (more : List Held) → Each (λ later. held_before later held ≡ false) more → Each (λ other. same_tid held.tid other.tid ≡ false) (map kept_held more)
        → Each (λ later. held_before held later ≡ true) more
    all [] none apart = tt
    all (later ∷ more) none apart = (before_other held.tid later.tid none.0 apart.0, all more none.1 apart.1)

-- two such lists with the same members are the same
same_rising : (xs ys : List Held) → AreRising xs → AreRising ys → ((h : Held) → In h xs → In h ys) → ((h : Held) → In h ys → In h xs) → xs ≡ ys
same_rising [] [] r q to back = refl
same_rising [] (y ∷ ys) r q to back = absurd (back y (inl refl))
same_rising (x ∷ xs) [] r q to back = absurd (to x (inl refl))
same_rising (x ∷ xs) (y ∷ ys) r q to back =
    by_first (to x (inl refl)) (back y (inl refl)) (λ to back. same_rising xs ys r.1 q.1 to back)
  where
    never : (h : Held) → held_before h h ≡ true → ⊥
    never h e = let clash = ranks_tids.one_way h.tid h.tid e in cc

    onto : (u v : Held) (us vs : List Held) → u ≡ v → Each (λ later. held_before u later ≡ true) us → ((h : Held) → In h (u ∷ us) → In h (v ∷ vs))
        → (h : Held) → In h us → In h vs
    onto u v us vs e all f h i = elim (f h (inr i)) [
      | inl same ↦ absurd (never h (subst (λ w. held_before w h ≡ true) (e ∙ same) (each_among (λ later. held_before u later ≡ true) h us all i)))
      | inr j ↦ j
    ]

    same_first : x ≡ y → (((h : Held) → In h xs → In h ys) → ((h : Held) → In h ys → In h xs) → xs ≡ ys) → x ∷ xs ≡ y ∷ ys
    same_first e rest =
        subst (λ z. x ∷ xs ≡ z ∷ ys) e (ap (λ zs. x ∷ zs) (rest (onto x y xs ys e r.0 to) (onto y x ys xs (sym e) q.0 back)))

    by_first : (y ≡ x) ⊎ In x ys → (x ≡ y) ⊎ In y xs → (((h : Held) → In h xs → In h ys) → ((h : Held) → In h ys → In h xs) → xs ≡ ys)
        → x ∷ xs ≡ y ∷ ys
    by_first (inl e) j rest = same_first (sym e) rest
    by_first (inr i) (inl e) rest = same_first e rest
    by_first (inr i) (inr j) rest =
        let later : held_before y x ≡ true = each_among (λ later. held_before y later ≡ true) x ys q.0 i in
        let first : held_before x y ≡ true = each_among (λ later. held_before x later ≡ true) y xs r.0 j in
        let clash = ranks_tids.one_way x.tid y.tid first in cc

in_by_tid : (helds : List Held) (h : Held) → In h (by_tid helds) → In h helds
in_by_tid [] h i = i
in_by_tid (held ∷ helds) h i = elim (in_inserted held_before held h (by_tid helds) i) [
  | inl e ↦ inl e
  | inr j ↦ inr (in_by_tid helds h j)
]

in_found : (rs : List SiteRecord) (tids : List Tid) (h : Held) → In h (found (doubt_of rs) tids) → doubt_of rs h.tid ≡ Some h
in_found rs [] h i = absurd i
in_found rs (t ∷ tids) h i = by_held (doubt_of rs t) refl i (in_found rs tids h)
  where
    by_held : (o : Option Held) → doubt_of rs t ≡ o → In h (with_some o (found (doubt_of rs) tids))
        → (In h (found (doubt_of rs) tids) → doubt_of rs h.tid ≡ Some h) → doubt_of rs h.tid ≡ Some h
    by_held None e i rest = rest i
    by_held (Some held) e (inr i) rest = rest i
    by_held (Some held) e (inl same) rest =
        subst (λ (g : Held). doubt_of rs g.tid ≡ Some g) same (ap (doubt_of rs) (doubt_tid rs t held e) ∙ e)

-- who is listed is who is in doubt
pub doubts_are : (rs : List SiteRecord) (h : Held) → In h (doubts rs) → doubt_of rs h.tid ≡ Some h
doubts_are rs h i =
    in_found rs (each_attempt (prepared_tids rs)) h (in_by_tid (found (doubt_of rs) (each_attempt (prepared_tids rs))) h i)

pub are_doubts : (rs : List SiteRecord) (tid : Tid) (h : Held) → doubt_of rs tid ≡ Some h → In h (doubts rs)
are_doubts rs tid h e = are_doubt rs h (subst (λ t. doubt_of rs t ≡ Some h) (sym (doubt_tid rs tid h e)) e)

-- the list rises
pub doubts_rise : (rs : List SiteRecord) → RiseBy (λ (held : Held). held.tid) (doubts rs)
doubts_rise rs = rising (doubts rs) (sorted_by_tid (found (doubt_of rs) (each_attempt (prepared_tids rs)))) (once_doubts rs)

-- records by which the same ones are in doubt list the same ones
pub doubts_alike : (rs others : List SiteRecord) → ((tid : Tid) → doubt_of rs tid ≡ doubt_of others tid) → doubts rs ≡ doubts others
doubts_alike rs others same =
    same_rising (doubts rs) (doubts others)
    (doubts_rise rs)
    (doubts_rise others)
    (λ h i. are_doubt others h (sym (same h.tid) ∙ doubts_are rs h i))
    (λ h i. are_doubt rs h (same h.tid ∙ doubts_are others h i))

-- a list of the same ones that rises is theirs
pub doubts_listed : (rs : List SiteRecord) (helds : List Held) → RiseBy (λ (held : Held). held.tid) helds
    → ((h : Held) → In h helds → doubt_of rs h.tid ≡ Some h) → ((tid : Tid) (h : Held) → doubt_of rs tid ≡ Some h → In h helds) → doubts rs ≡ helds
doubts_listed rs helds rise are list =
    same_rising (doubts rs) helds (doubts_rise rs) rise
    (λ h i. list h.tid h (doubts_are rs h i)) (λ h i. are_doubt rs h (are h i))

-- those in doubt behind a Checkpoint are those of all
pub doubts_behind : (newer older : List SiteRecord) → doubts (newer ++ carried (doubts older)) ≡ doubts (newer ++ older)
doubts_behind newer older =
    doubts_alike (newer ++ carried (doubts older)) (newer ++ older) (doubt_behind newer older (carried (doubts older)) (carried_same older))

-- The order of a site by its marks is that of its records.
use Rattle.std.proofs.Common.{◌≡◌, ℕ, Bool, true, false, not, cond, nat_lt, List, [], ◌∷◌, map, reverse, inl, inr, refl, sym, ◌∙◌, ap}
use Rattle.std.proofs.lemmas.List.{reverse-reverse}
use Rattle.mdb_base.specs.declared.names.Tid.{Tid}
use Rattle.mdb_base.specs.declared.rows.Put.{Put}
use Rattle.mdb_base.specs.Words.{found, inserted}
use Rattle.order_laws.specs.Chains.{In}
use Rattle.order_laws.proofs.ForCallers.{map_reverse}
use Rattle.fed_rules.specs.declared.records.SiteRecord.{SiteRecord}
use Rattle.fed_rules.specs.declared.records.SiteRecord.TheVariants as Rec
use Rattle.fed_rules.specs.CoordPast.{oldest_first}
use Rattle.fed_rules.specs.SiteRecords.{Install, by_number, due_installs, order_of}
use Rattle.session_report.specs.declared.marks.Mark.{Mark}
use Rattle.session_report.specs.Marks.{mark_of}
use Rattle.session_report.specs.Ranks.{order_told, ranked, unrefused}
use Rattle.session_report.proofs.Lists.{oldest_reverse}
use Rattle.session_report.proofs.Ranking.{those_reverse}

abbrev marked : Install → Mark
marked install = record { tid = install.tid; number = install.number }

-- an install is marked before it is put by number, or after
marked_inserted : (y : Install) (xs : List Install) → map marked (by_number y xs) ≡ inserted (λ a b. nat_lt b.number a.number) (marked y) (map marked xs)
marked_inserted y [] = refl
marked_inserted y (x ∷ xs) = by_test (nat_lt y.number x.number) (marked_inserted y xs)
  where
    by_test : (b : Bool) → map marked (by_number y xs) ≡ inserted (λ a b. nat_lt b.number a.number) (marked y) (map marked xs)
        → map marked (cond b (x ∷ by_number y xs) (y ∷ x ∷ xs)) ≡ cond b (marked x ∷ inserted (λ a b. nat_lt b.number a.number) (marked y) (map marked xs)) (marked y ∷ marked x ∷ map marked xs)
    by_test true h = ap (λ zs. marked x ∷ zs) h
    by_test false h = refl

-- no Local record is of a refused attempt, and a Prepared one is where its attempt doesn't commit
pub record Agree (commits refused : Tid → Bool) (rs : List SiteRecord) : Type 0 where
  pub locals : (tid : Tid) (number : ℕ) (writes : List Put) → In (Rec.Local tid number writes) rs → refused tid ≡ false
  pub globals : (tid : Tid) (epoch number ticket : ℕ) (writes : List Put) → In (Rec.Prepared tid epoch number ticket writes) rs → refused tid ≡ not (commits tid)

behind : (commits refused : Tid → Bool) (r : SiteRecord) (rs : List SiteRecord) → Agree commits refused (r ∷ rs) → Agree commits refused rs
behind commits refused r rs a = record { locals = λ tid n w i. a.locals tid n w (inr i); globals = λ tid e n k w i. a.globals tid e n k w (inr i) }

ranked_is : (commits refused : Tid → Bool) (rs : List SiteRecord) → Agree commits refused rs → map marked (due_installs commits rs) ≡ ranked (unrefused refused (found mark_of rs))
ranked_is commits refused [] a = refl
ranked_is commits refused (Rec.Local tid number writes ∷ rs) a =
    marked_inserted (record { tid = tid; number = number; writes = writes }) (due_installs commits rs)
    ∙ (ap (inserted (λ a b. nat_lt b.number a.number) (record { tid = tid; number = number })) (ranked_is commits refused rs (behind commits refused _ rs a))
    ∙ sym (ap (λ b. ranked (cond (not b) (record { tid = tid; number = number } ∷ unrefused refused (found mark_of rs)) (unrefused refused (found mark_of rs)))) (a.locals tid number writes (inl refl))))
ranked_is commits refused (Rec.Prepared tid epoch number ticket writes ∷ rs) a =
    by_test (commits tid) (a.globals tid epoch number ticket writes (inl refl)) (ranked_is commits refused rs (behind commits refused _ rs a))
  where
    by_test : (b : Bool) → refused tid ≡ not b → map marked (due_installs commits rs) ≡ ranked (unrefused refused (found mark_of rs))
        → map marked (cond b (by_number (record { tid = tid; number = number; writes = writes }) (due_installs commits rs)) (due_installs commits rs))
        ≡ ranked (cond (not (refused tid)) (record { tid = tid; number = number } ∷ unrefused refused (found mark_of rs)) (unrefused refused (found mark_of rs)))
    by_test true q h =
        marked_inserted (record { tid = tid; number = number; writes = writes }) (due_installs commits rs)
        ∙ (ap (inserted (λ a b. nat_lt b.number a.number) (record { tid = tid; number = number })) h
        ∙ sym (ap (λ b. ranked (cond (not b) (record { tid = tid; number = number } ∷ unrefused refused (found mark_of rs)) (unrefused refused (found mark_of rs)))) q))
    by_test false q h = h ∙ sym (ap (λ b. ranked (cond (not b) (record { tid = tid; number = number } ∷ unrefused refused (found mark_of rs)) (unrefused refused (found mark_of rs)))) q)
ranked_is commits refused (Rec.Setup site engine protocol items ∷ rs) a = ranked_is commits refused rs (behind commits refused _ rs a)
ranked_is commits refused (Rec.Start epoch ∷ rs) a = ranked_is commits refused rs (behind commits refused _ rs a)
ranked_is commits refused (Rec.Ended tid decision ∷ rs) a = ranked_is commits refused rs (behind commits refused _ rs a)
ranked_is commits refused (Rec.Checkpoint sum ∷ rs) a = ranked_is commits refused rs (behind commits refused _ rs a)

tids_marked : (xs : List Install) → map (λ mark. mark.tid) (map marked xs) ≡ map (λ install. install.tid) xs
tids_marked [] = refl
tids_marked (x ∷ xs) = ap (λ ts. x.tid ∷ ts) (tids_marked xs)

pub order_is : (commits refused : Tid → Bool) (rs : List SiteRecord) → Agree commits refused rs → order_told refused (oldest_first (found mark_of rs)) ≡ order_of commits rs
order_is commits refused rs a =
    let marks = found mark_of rs in
    let back : reverse (unrefused refused (oldest_first marks)) ≡ unrefused refused marks =
    ap (λ ms. reverse (unrefused refused ms)) (oldest_reverse marks)
    ∙ (ap reverse (those_reverse (λ (mark : Mark). not (refused mark.tid)) marks) ∙ reverse-reverse (unrefused refused marks)) in
    ap (λ ms. map (λ (mark : Mark). mark.tid) (reverse (ranked ms))) back
    ∙ (ap (λ ms. map (λ (mark : Mark). mark.tid) (reverse ms)) (sym (ranked_is commits refused rs a))
    ∙ (map_reverse (λ (mark : Mark). mark.tid) (map marked (due_installs commits rs)) ∙ ap reverse (tids_marked (due_installs commits rs))))

-- Where lines stand in a trace.
use Rattle.std.proofs.Common.{◌≡◌, ℕ, ◌<◌, inl, inr, List, [], ◌∷◌, ◌++◌, refl, ap, sym, ◌∙◌, subst, arith}
use Rattle.std.proofs.lemmas.Bool.Decides.{eqb_tells}
use Rattle.mdb_base.proofs.ForCallers.{cond-false, cond-true}
use Rattle.mdb_base.specs.Words.{Each, Among}
use Rattle.fed_rules.specs.declared.commands.Stamped.{Stamped}
use Rattle.trace_merge.specs.Traces.{Entry, IsOrdered, ComesBefore, list_of, lines_of}
use Rattle.trace_merge.specs.Laws.{EarlierStandsBefore, EachListSplits, DeliveriesFollow, HasSent}

-- none behind the entry has a lesser stamp
not_behind : (Q : Entry → Type 0) (x : Entry) (es : List Entry) → ((y : Entry) → Q y → y.line.stamp < x.line.stamp) → Each (ComesBefore x) es → Among Q es → ⊥
not_behind Q x [] lesser h q = q
not_behind Q x (e ∷ es) lesser h (inl q) = let lt = lesser e q in elim h.0 [ inl l ↦ omega arith | inr (same, a) ↦ omega arith ]
not_behind Q x (e ∷ es) lesser h (inr q) = not_behind Q x es lesser h.1 q

-- so one with a lesser stamp stands before
pub stands_before : (Q : Entry → Type 0) (x : Entry) (before behind : List Entry) → ((y : Entry) → Q y → y.line.stamp < x.line.stamp) →
    IsOrdered (before ++ x ∷ behind) → Among Q (before ++ x ∷ behind) → Among Q before
stands_before Q x [] behind lesser h (inl q) = let lt = lesser x q in absurd (omega arith)
stands_before Q x [] behind lesser h (inr q) = absurd (not_behind Q x behind lesser h.0 q)
stands_before Q x (b ∷ bs) behind lesser h (inl q) = inl q
stands_before Q x (b ∷ bs) behind lesser h (inr q) = inr (stands_before Q x bs behind lesser h.1 q)

pub earlier_before : EarlierStandsBefore
earlier_before lists merged trace before behind x y split there lt =
    stands_before (λ e. e ≡ y) x before behind (λ e same. subst (λ (d : Entry). d.line.stamp < x.line.stamp) (sym same) lt)
    (subst IsOrdered split trace.ordered) (subst (Among (λ e. e ≡ y)) split there)

-- a line of an actor is the line of an entry of that actor
of_actor : (R : Stamped → Type 0) (actor : ℕ) (es : List Entry) → Among R (lines_of actor es) → Among (λ e. (e.actor ≡ actor) × R e.line) es
of_actor R actor [] h = h
of_actor R actor (e ∷ es) h = elim (eqb_tells e.actor actor) [
  | inl (is, same) ↦ elim (subst (Among R) (cond-true _ (e.line ∷ lines_of actor es) (lines_of actor es) is) h) [
    | inl r ↦ inl (same, r)
    | inr r ↦ inr (of_actor R actor es r)
  ]
  | inr (isnt, ne) ↦ inr (of_actor R actor es (subst (Among R) (cond-false _ (e.line ∷ lines_of actor es) (lines_of actor es) isnt) h))
]

both : {A : Type 0} (P Q : A → Type 0) (xs : List A) → Each P xs → Among Q xs → Among (λ x. P x × Q x) xs
both P Q [] h q = q
both P Q (x ∷ xs) h (inl q) = inl (h.0, q)
both P Q (x ∷ xs) h (inr q) = inr (both P Q xs h.1 q)

among_map : {A : Type 0} (P Q : A → Type 0) (xs : List A) → ((x : A) → P x → Q x) → Among P xs → Among Q xs
among_map P Q [] f h = h
among_map P Q (x ∷ xs) f (inl h) = inl (f x h)
among_map P Q (x ∷ xs) f (inr h) = inr (among_map P Q xs f h)

-- one of what each bears a stamp bears it
bears : {P : Type 0} (stamp_of : P → ℕ) (n : ℕ) (packet : P) (qs : List P) → Each (λ q. stamp_of q ≡ n) qs → Among (λ q. q ≡ packet) qs → stamp_of packet ≡ n
bears stamp_of n packet [] h q = absurd q
bears stamp_of n packet (q ∷ qs) h (inl same) = ap stamp_of (sym same) ∙ h.0
bears stamp_of n packet (q ∷ qs) h (inr r) = bears stamp_of n packet qs h.1 r

pub deliveries_follow : (P : Type 0) → DeliveriesFollow P
deliveries_follow P lists merged trace sends stamp_of sender before behind x packet bear split sent lt =
    let Marked : Stamped → Type 0 = λ line. Each (λ (q : P). stamp_of q ≡ line.stamp) (sends line) × HasSent sends packet line in
    let found : Among Marked (lines_of sender trace.entries) =
    subst (Among Marked) (sym (trace.each_list sender)) (both (λ line. Each (λ (q : P). stamp_of q ≡ line.stamp) (sends line)) (HasSent sends packet) (list_of lists sender) bear sent) in
    let Sending : Entry → Type 0 = λ e. (e.actor ≡ sender) × Marked e.line in
    let entry : Among Sending before =
    stands_before Sending x before behind
    (λ e h. let same = bears stamp_of e.line.stamp packet (sends e.line) h.1.0 h.1.1 in omega arith)
    (subst IsOrdered split trace.ordered) (subst (Among Sending) split (of_actor Marked sender trace.entries found)) in
    among_map Sending (λ e. (e.actor ≡ sender) × HasSent sends packet e.line) before (λ e h. (h.0, h.1.1)) entry

split_lines : (actor : ℕ) (before behind : List Entry) → lines_of actor (before ++ behind) ≡ lines_of actor before ++ lines_of actor behind
split_lines actor [] behind = refl
split_lines actor (e ∷ es) behind =
    let rest = split_lines actor es behind in
    elim (eqb_tells e.actor actor) [
      | inl (is, same) ↦
          cond-true _ (e.line ∷ lines_of actor (es ++ behind)) (lines_of actor (es ++ behind)) is
          ∙ (ap (λ (xs : List Stamped). e.line ∷ xs) rest
          ∙ sym (ap (λ (xs : List Stamped). xs ++ lines_of actor behind) (cond-true _ (e.line ∷ lines_of actor es) (lines_of actor es) is)))
      | inr (isnt, ne) ↦
          cond-false _ (e.line ∷ lines_of actor (es ++ behind)) (lines_of actor (es ++ behind)) isnt
          ∙ (rest ∙ sym (ap (λ (xs : List Stamped). xs ++ lines_of actor behind) (cond-false _ (e.line ∷ lines_of actor es) (lines_of actor es) isnt)))
    ]

pub list_splits : EachListSplits
list_splits lists merged trace before behind actor split =
    sym (trace.each_list actor) ∙ (ap (lines_of actor) split ∙ split_lines actor before behind)

-- The entries of a trace: how many there are, which actors made them, and how great their stamps are.
use Rattle.std.proofs.Common.{◌≡◌, ℕ, zero, suc, ◌+◌, ◌*◌, ◌<◌, ◌≤◌, ◌⊎◌, cond, nat_eq, true, false, Option, None, List, [], ◌∷◌, length, refl, sym, ap, ◌∙◌, subst, inl, inr, arith}
use Rattle.std.proofs.lemmas.Bool.Decides.{eqb_tells}
use Rattle.mdb_base.specs.Words.{Each, Among, found, with_some}
use Rattle.mdb_base.proofs.ForCallers.{cond-false, cond-true, each_map, each_self}
use Rattle.order_laws.proofs.ForCallers.{among_weaker}
use Rattle.fed_rules.specs.declared.commands.Line.{Line}
use Rattle.fed_rules.specs.declared.commands.Stamped.{Stamped}
use Rattle.trace_merge.specs.Traces.{Entry, ComesBefore, IsOrdered, lines_of}
use Rattle.host_laws.proofs.CarriedClocks.{Follows}
use Rattle.host_laws.proofs.Sides.{of_other, of_own}

lines_rest : (P : Stamped → Type 0) (actor : ℕ) (e : Entry) (es : List Entry) → Each P (lines_of actor (e ∷ es)) → Each P (lines_of actor es)
lines_rest P actor e es h = elim (eqb_tells e.actor actor) [
  | inl (is, same) ↦ (subst (Each P) (of_own actor e es same) h).1
  | inr (isnt, ne) ↦ subst (Each P) (of_other actor e es ne) h
]

-- a fact of each actor's lines is one of the entries
pub each_entry : (P : ℕ → Stamped → Type 0) (es : List Entry) → ((actor : ℕ) → Each (P actor) (lines_of actor es)) → Each (λ e. P e.actor e.line) es
each_entry P [] h = tt
each_entry P (e ∷ es) h = (
  (subst (Each (P e.actor)) (of_own e.actor e es refl) (h e.actor)).0,
  each_entry P es (λ actor. lines_rest (P actor) actor e es (h actor)),
)

-- and a fact of the entries is one of each actor's lines
pub each_line : (P : Stamped → Type 0) (actor : ℕ) (es : List Entry) → Each (λ e. P e.line) es → Each P (lines_of actor es)
each_line P actor [] h = tt
each_line P actor (e ∷ es) h = elim (eqb_tells e.actor actor) [
  | inl (is, same) ↦ subst (Each P) (sym (of_own actor e es same)) (h.0, each_line P actor es h.1)
  | inr (isnt, ne) ↦ subst (Each P) (sym (of_other actor e es ne)) (each_line P actor es h.1)
]

-- an entry has this stamp
abbrev pub HasStamp : List Entry → ℕ → Type 0
HasStamp es stamp = Among (λ (e : Entry). e.line.stamp ≡ stamp) es

-- the stamp of each line of an actor is one of the entries'
pub lines_had : (actor : ℕ) (es : List Entry) → Each (λ line. HasStamp es line.stamp) (lines_of actor es)
lines_had actor es =
    each_line (λ line. HasStamp es line.stamp) actor es
    (each_map (λ e. Among (λ d. d ≡ e) es) (λ e. HasStamp es e.line.stamp) (λ e i. among_weaker (λ d. d ≡ e) (λ d. d.line.stamp ≡ e.line.stamp) (λ d same. ap (λ (x : Entry). x.line.stamp) same) es i) es (each_self es))

-- what is found in the lines of all entries, where only this actor's lines have something
pub found_entries : {B : Type 0} (look : Line → Option B) (actor : ℕ) (es : List Entry) → Each (λ e. (e.actor ≡ actor) ⊎ (look e.line.line ≡ None)) es
    → found (λ (e : Entry). look e.line.line) es ≡ found (λ (line : Stamped). look line.line) (lines_of actor es)
found_entries look actor [] h = refl
found_entries {B} look actor (e ∷ es) h = by_actor (eqb_tells e.actor actor) h.0 (found_entries look actor es h.1) where
  by_actor : ((nat_eq e.actor actor ≡ true) × (e.actor ≡ actor)) ⊎ ((nat_eq e.actor actor ≡ false) × (e.actor ≡ actor → ⊥)) → (e.actor ≡ actor) ⊎ (look e.line.line ≡ None)
      → found (λ (d : Entry). look d.line.line) es ≡ found (λ (line : Stamped). look line.line) (lines_of actor es)
      → with_some (look e.line.line) (found (λ (d : Entry). look d.line.line) es) ≡ found (λ (line : Stamped). look line.line) (lines_of actor (e ∷ es))
  by_actor (inl (is, same)) either rest = ap (with_some (look e.line.line)) rest ∙ sym (ap (found (λ (line : Stamped). look line.line)) (of_own actor e es same))
  by_actor (inr (isnt, ne)) (inl same) rest = absurd (ne same)
  by_actor (inr (isnt, ne)) (inr none) rest =
      ap (λ (o : Option B). with_some o (found (λ (d : Entry). look d.line.line) es)) none
      ∙ rest
      ∙ sym (ap (found (λ (line : Stamped). look line.line)) (of_other actor e es ne))

-- The number of entries.

-- those of other actors
abbrev others : ℕ → List Entry → List Entry
others actor [] = []
others actor (e ∷ es) = cond (nat_eq e.actor actor) (others actor es) (e ∷ others actor es)

others_own : (actor : ℕ) (e : Entry) (es : List Entry) → nat_eq e.actor actor ≡ true → others actor (e ∷ es) ≡ others actor es
others_own actor e es is = cond-true (nat_eq e.actor actor) (others actor es) (e ∷ others actor es) is

others_other : (actor : ℕ) (e : Entry) (es : List Entry) → nat_eq e.actor actor ≡ false → others actor (e ∷ es) ≡ e ∷ others actor es
others_other actor e es isnt = cond-false (nat_eq e.actor actor) (others actor es) (e ∷ others actor es) isnt

count_both : (actor : ℕ) (es : List Entry) → length es ≡ length (lines_of actor es) + length (others actor es)
count_both actor [] = omega arith
count_both actor (e ∷ es) = elim (eqb_tells e.actor actor) [
  | inl (is, same) ↦ let rest = count_both actor es in let own = ap length (of_own actor e es same) in let other = ap length (others_own actor e es is) in omega (arith, rest, own, other)
  | inr (isnt, ne) ↦ let rest = count_both actor es in let own = ap length (of_other actor e es ne) in let other = ap length (others_other actor e es isnt) in omega (arith, rest, own, other)
]

others_below : (m : ℕ) (es : List Entry) → Each (λ e. e.actor < suc m) es → Each (λ e. e.actor < m) (others m es)
others_below m [] h = tt
others_below m (e ∷ es) h = elim (eqb_tells e.actor m) [
  | inl (is, same) ↦ subst (Each (λ d. d.actor < m)) (sym (others_own m e es is)) (others_below m es h.1)
  | inr (isnt, ne) ↦ subst (Each (λ d. d.actor < m)) (sym (others_other m e es isnt)) (below e.actor h.0 ne, others_below m es h.1)
]
  where
    below : (n : ℕ) → n < suc m → (n ≡ m → ⊥) → n < m
    below n less ne = grind (arith, less, ne)

fewer_of : (actor m : ℕ) (es : List Entry) → length (lines_of actor (others m es)) ≤ length (lines_of actor es)
fewer_of actor m [] = omega arith
fewer_of actor m (e ∷ es) = elim (eqb_tells e.actor m) [
  | inl (is, same) ↦
      let rest = fewer_of actor m es in
      let left = ap (λ (ds : List Entry). length (lines_of actor ds)) (others_own m e es is) in
      let more = no_fewer in
      omega (arith, rest, left, more)
  | inr (isnt, ne) ↦
      let left = ap (λ (ds : List Entry). length (lines_of actor ds)) (others_other m e es isnt) in
      let both = one_more (fewer_of actor m es) in
      omega (arith, left, both)
]
  where
    no_fewer : length (lines_of actor es) ≤ length (lines_of actor (e ∷ es))
    no_fewer = elim (eqb_tells e.actor actor) [
      | inl (is, same) ↦ let own = ap length (of_own actor e es same) in omega (arith, own)
      | inr (isnt, ne) ↦ let own = ap length (of_other actor e es ne) in omega (arith, own)
    ]

    one_more : length (lines_of actor (others m es)) ≤ length (lines_of actor es) → length (lines_of actor (e ∷ others m es)) ≤ length (lines_of actor (e ∷ es))
    one_more rest =
        elim (eqb_tells e.actor actor) [
          | inl (is, same) ↦ let own = ap length (of_own actor e es same) in let left = ap length (of_own actor e (others m es) same) in omega (arith, rest, own, left)
          | inr (isnt, ne) ↦ let own = ap length (of_other actor e es ne) in let left = ap length (of_other actor e (others m es) ne) in omega (arith, rest, own, left)
        ]

-- of m actors with few lines each there are few entries
pub few_entries : (m : ℕ) (es : List Entry) → Each (λ e. e.actor < m) es → ((actor : ℕ) → length (lines_of actor es) ≤ 16777216) → length es ≤ m * 16777216
few_entries zero [] below few = omega arith
few_entries zero (e ∷ es) below few = let no = below.0 in absurd (omega (arith, no))
few_entries (suc m) es below few =
    let both = count_both m es in
    let own = few m in
    let rest = few_entries m (others m es) (others_below m es below) (λ actor. let fewer = fewer_of actor m es in let all = few actor in omega (arith, fewer, all)) in
    omega (arith, both, own, rest)

-- The stamps of entries in order.

-- a stamp that is one more than at most n, or than that of an entry
pub record Rests (n : ℕ) (es : List Entry) (e : Entry) : Type 0 where
  pub before : ℕ
  pub next : e.line.stamp ≡ suc before
  pub on : (before ≤ n) ⊎ HasStamp es before

not_behind : (x : Entry) (stamp : ℕ) (es : List Entry) → Each (ComesBefore x) es → stamp < x.line.stamp → HasStamp es stamp → ⊥
not_behind x stamp [] h less i = i
not_behind x stamp (e ∷ es) h less (inl same) = elim h.0 [ inl later ↦ omega (arith, later, less, same) | inr (alike, later) ↦ omega (arith, alike, less, same) ]
not_behind x stamp (e ∷ es) h less (inr i) = not_behind x stamp es h.1 less i

first_low : (n : ℕ) (x : Entry) (xs : List Entry) → Each (ComesBefore x) xs → Rests n (x ∷ xs) x → x.line.stamp ≤ suc n
first_low n x xs behind r = by_rest r.on where
  by_rest : (r.before ≤ n) ⊎ HasStamp (x ∷ xs) r.before → x.line.stamp ≤ suc n
  by_rest (inl low) = let next = r.next in omega (arith, low, next)
  by_rest (inr (inl same)) = let next = r.next in absurd (omega (arith, same, next))
  by_rest (inr (inr i)) = let next = r.next in absurd (not_behind x r.before xs behind (omega (arith, next)) i)

rests_on : (n : ℕ) (x : Entry) (xs : List Entry) (e : Entry) → x.line.stamp ≤ suc n → Rests n (x ∷ xs) e → Rests (suc n) xs e
rests_on n x xs e low r = record { before = r.before; next = r.next; on = by_rest r.on } where
  by_rest : (r.before ≤ n) ⊎ HasStamp (x ∷ xs) r.before → (r.before ≤ suc n) ⊎ HasStamp xs r.before
  by_rest (inl small) = inl (omega (arith, small))
  by_rest (inr (inl same)) = inl (omega (arith, same, low))
  by_rest (inr (inr i)) = inr i

-- the stamps of entries in order are at most n and their number
rising_low : (n : ℕ) (es : List Entry) → IsOrdered es → Each (Rests n es) es → Each (λ e. e.line.stamp ≤ n + length es) es
rising_low n [] ordered h = tt
rising_low n (x ∷ xs) ordered h =
    let low = first_low n x xs ordered.0 h.0 in
    let rest = rising_low (suc n) xs ordered.1 (each_map (Rests n (x ∷ xs)) (Rests (suc n) xs) (λ e r. rests_on n x xs e low r) xs h.1) in
    (omega (arith, low), each_map (λ e. e.line.stamp ≤ suc n + length xs) (λ e. e.line.stamp ≤ n + length (x ∷ xs)) (λ e small. omega (arith, small)) xs rest)

-- where each stamp of a trace follows, none is greater than the number of entries
pub entries_low : (es : List Entry) → IsOrdered es → Each (λ e. Follows (HasStamp es) e.line.stamp) es → Each (λ e. e.line.stamp ≤ length es) es
entries_low es ordered h =
    each_map (λ e. e.line.stamp ≤ 0 + length es) (λ e. e.line.stamp ≤ length es) (λ e small. omega (arith, small)) es
    (rising_low 0 es ordered (each_map (λ e. Follows (HasStamp es) e.line.stamp) (Rests 0 es) (λ e f. rests e f) es h))
  where
    rests : (e : Entry) → Follows (HasStamp es) e.line.stamp → Rests 0 es e
    rests e f = record { before = f.before; next = f.next; on = by_had f.had } where
      by_had : (f.before ≡ 0) ⊎ HasStamp es f.before → (f.before ≤ 0) ⊎ HasStamp es f.before
      by_had (inl none) = inl (omega (arith, none))
      by_had (inr i) = inr i

-- The registers of a program, step by step.
use Rattle.std.proofs.Common.{◌≡◌, ℕ, zero, suc, ◌+◌, ◌<◌, ◌≤◌, true, false, cond, Some, None, List, [], ◌∷◌, length, get_or, take, drop, refl, sym, ◌∙◌, ap, subst, add-zero, zero-add, add-one, arith}
use Rattle.std.proofs.lemmas.List.{at_drop_more}
use Rattle.mdb_base.specs.declared.acts.Act.{Act}
use Rattle.mdb_base.specs.declared.acts.Act.TheVariants.{Get, Set, Add}
use Rattle.mdb_base.specs.declared.acts.Step.{Step}
use Rattle.mdb_base.specs.Words.{given}
use Rattle.mdb_base.specs.Programs.{IsProgram, bad_register, has_register, is_get, next_of, plain_act, reads_after, reads_of}
use Rattle.mdb_base.proofs.Words.{cond-true, cond-false, cond-none, item_at-within, item_at-past}

-- a step whose register is below the reads so far is passed
pub bad_register-passes : (steps : List Step) (reads after i : ℕ) (d : Step) (act : Act) → i < length steps → (get_or steps i d).act ≡ act → has_register reads act ≡ true → after ≡ reads_after reads act → bad_register reads i (drop i steps) ≡ bad_register after (i + 1) (drop (i + 1) steps)
bad_register-passes steps reads after i d act h e p a =
    let here : has_register reads (get_or steps i d).act ≡ true = subst (λ x. has_register reads x ≡ true) (sym e) p in
    let next : reads_after reads (get_or steps i d).act ≡ after = ap (reads_after reads) e ∙ sym a in
    let by_steps = at_drop_more (bad_register reads i) steps i d h ∙ cond-true _ _ _ here in
    subst (λ n. bad_register reads i (drop i steps) ≡ bad_register n (i + 1) (drop (i + 1) steps)) next
    (subst (λ n. bad_register reads i (drop i steps) ≡ bad_register (reads_after reads (get_or steps i d).act) n (drop (i + 1) steps)) (sym (add-one i)) by_steps)

-- a step whose register isn't is the answer
pub bad_register-stops : (steps : List Step) (reads i : ℕ) (d : Step) (act : Act) → i < length steps → (get_or steps i d).act ≡ act → has_register reads act ≡ false → bad_register reads i (drop i steps) ≡ Some i
bad_register-stops steps reads i d act h e p =
    at_drop_more (bad_register reads i) steps i d h ∙ cond-false _ _ _ (subst (λ x. has_register reads x ≡ false) (sym e) p)

-- the reads after an act, and those behind it
reads_after-add : (act : Act) (reads more : ℕ) → reads_after reads act + more ≡ reads + cond (is_get act) (suc more) more
reads_after-add (Get key) reads more = omega arith
reads_after-add (Set key value) reads more = refl
reads_after-add (Add key register amount) reads more = refl

-- in a program each register is below the number of reads before it
pub register_below : (steps : List Step) (reads start n : ℕ) (d : Step) → bad_register reads start steps ≡ None → n < length steps → has_register (reads + reads_of (take n steps)) (get_or steps n d).act ≡ true
register_below [] reads start n d e h = absurd (omega arith)
register_below (x ∷ xs) reads start zero d e h =
    subst (λ m. has_register m x.act ≡ true) (sym (add-zero reads)) (cond-none _ _ _ e).0
register_below (x ∷ xs) reads start (suc n) d e h =
    let rest = register_below xs (reads_after reads x.act) (suc start) n d (cond-none _ _ _ e).1 (omega arith) in
    subst (λ m. has_register m (get_or xs n d).act ≡ true) (reads_after-add x.act reads (reads_of (take n xs))) rest

pub program_register : (steps : List Step) (done reads : ℕ) (d : Step) → IsProgram steps → done < length steps → reads ≡ reads_of (take done steps) → has_register reads (get_or steps done d).act ≡ true
program_register steps done reads d p h e =
    subst (λ m. has_register m (get_or steps done d).act ≡ true) (zero-add _ ∙ sym e) (register_below steps 0 0 done d p.registers h)

-- the next step of a program that isn't done
pub next_of-within : (steps : List Step) (done : ℕ) (reads : List ℕ) (d : Step) → done < length steps → next_of steps done reads ≡ Some (record { site = (get_or steps done d).site; act = plain_act reads (get_or steps done d).act })
unfolding given
next_of-within steps done reads d h = rw (item_at-within steps done d h) refl

-- there is none behind the last one
pub next_of-past : (steps : List Step) (done : ℕ) (reads : List ℕ) → length steps ≤ done → next_of steps done reads ≡ None
unfolding given
next_of-past steps done reads h = rw (item_at-past steps done h) refl

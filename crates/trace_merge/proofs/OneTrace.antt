-- The lists determine their trace.
use Rattle.std.proofs.Common.{◌≡◌, ℕ, ◌⊎◌, inl, inr, List, [], ◌∷◌, map, refl, ap, sym, ◌∙◌, subst, arith}
use Rattle.std.proofs.lemmas.Bool.Decides.{eqb_tells}
use Rattle.std.proofs.lemmas.Bool.{eq-eqb}
use Rattle.mdb_base.proofs.ForCallers.{cond-false, cond-true}
use Rattle.mdb_base.specs.Words.{Each}
use Rattle.fed_rules.specs.declared.commands.Stamped.{Stamped}
use Rattle.trace_merge.specs.Traces.{Entry, IsOrdered, ComesBefore, lines_of}
use Rattle.trace_merge.specs.Laws.{OneTrace}

-- each actor's lines are the same in both
abbrev Alike : List Entry → List Entry → Type 0
Alike es ds = (actor : ℕ) → lines_of actor es ≡ lines_of actor ds

alike : (e d : Entry) → e.actor ≡ d.actor → e.line ≡ d.line → e ≡ d
alike e d a l =
    let with_actor : ℕ → Entry = λ n. record { actor = n; line = e.line } in
    let with_line : Stamped → Entry = λ x. record { actor = d.actor; line = x } in
    ap with_actor a ∙ ap with_line l

own_lines : (e : Entry) (es : List Entry) → lines_of e.actor (e ∷ es) ≡ e.line ∷ lines_of e.actor es
own_lines e es = cond-true _ (e.line ∷ lines_of e.actor es) (lines_of e.actor es) (eq-eqb e.actor e.actor refl)

none_alike : (e : Entry) (es : List Entry) → Alike [] (e ∷ es) → ⊥
none_alike e es h = let own = h e.actor ∙ own_lines e es in cc

behind : (e : Entry) (d : Entry) (ds : List Entry) (xs : List Stamped) → e.line ∷ xs ≡ lines_of e.actor ds → Each (ComesBefore d) ds → ComesBefore d e
behind e d [] xs h ordered = cc
behind e d (f ∷ ds) xs h ordered = elim (eqb_tells f.actor e.actor) [
  | inl (is, same) ↦ let g = h ∙ cond-true _ (f.line ∷ lines_of e.actor ds) (lines_of e.actor ds) is in
      let line : f.line ≡ e.line = cc in
      let eq : f ≡ e = alike f e same line in subst (ComesBefore d) eq ordered.0
  | inr (isnt, ne) ↦ behind e d ds xs (h ∙ cond-false _ (f.line ∷ lines_of e.actor ds) (lines_of e.actor ds) isnt) ordered.1
]

-- the first line of this actor is the line of the first entry, or of one behind it
first_or_behind : (e : Entry) (d : Entry) (ds : List Entry) (xs : List Stamped) → e.line ∷ xs ≡ lines_of e.actor (d ∷ ds) → Each (ComesBefore d) ds →
    (e ≡ d) ⊎ ComesBefore d e
first_or_behind e d ds xs h ordered = elim (eqb_tells d.actor e.actor) [
  | inl (is, same) ↦ let g = h ∙ cond-true _ (d.line ∷ lines_of e.actor ds) (lines_of e.actor ds) is in
      let line : e.line ≡ d.line = cc in inl (alike e d (sym same) line)
  | inr (isnt, ne) ↦ inr (behind e d ds xs (h ∙ cond-false _ (d.line ∷ lines_of e.actor ds) (lines_of e.actor ds) isnt) ordered)
]

not_both : (d e : Entry) → ComesBefore d e → ComesBefore e d → ⊥
not_both d e (inl x) (inl y) = omega arith
not_both d e (inl x) (inr (y, z)) = omega arith
not_both d e (inr (x, z)) (inl y) = omega arith
not_both d e (inr (x, z)) (inr (y, w)) = omega arith

same_first : (e d : Entry) (es ds : List Entry) → IsOrdered (e ∷ es) → IsOrdered (d ∷ ds) → Alike (e ∷ es) (d ∷ ds) → e ≡ d
same_first e d es ds oe od h = elim (first_or_behind e d ds (lines_of e.actor es) (sym (own_lines e es) ∙ h e.actor) od.0) [
  | inl eq ↦ eq
  | inr b ↦ elim (first_or_behind d e es (lines_of d.actor ds) (sym (own_lines d ds) ∙ sym (h d.actor)) oe.0) [
    | inl eq ↦ sym eq
    | inr a ↦ absurd (not_both d e b a)
  ]
]

others_alike : (e : Entry) (es ds : List Entry) → Alike (e ∷ es) (e ∷ ds) → Alike es ds
others_alike e es ds h actor = elim (eqb_tells e.actor actor) [
  | inl (is, same) ↦
      let g : e.line ∷ lines_of actor es ≡ e.line ∷ lines_of actor ds =
      sym (cond-true _ (e.line ∷ lines_of actor es) (lines_of actor es) is) ∙ (h actor ∙ cond-true _ (e.line ∷ lines_of actor ds) (lines_of actor ds) is) in cc
  | inr (isnt, ne) ↦ sym (cond-false _ (e.line ∷ lines_of actor es) (lines_of actor es) isnt) ∙ (h actor ∙ cond-false _ (e.line ∷ lines_of actor ds) (lines_of actor ds) isnt)
]

same_entries : (es ds : List Entry) → IsOrdered es → IsOrdered ds → Alike es ds → es ≡ ds
same_entries [] [] oe od h = refl
same_entries [] (d ∷ ds) oe od h = absurd (none_alike d ds h)
same_entries (e ∷ es) [] oe od h = absurd (none_alike e es (λ actor. sym (h actor)))
same_entries (e ∷ es) (d ∷ ds) oe od h =
    let same : d ≡ e = sym (same_first e d es ds oe od h) in
    let rest : es ≡ ds = same_entries es ds oe.1 od.1 (others_alike e es ds (subst (λ (f : Entry). Alike (e ∷ es) (f ∷ ds)) same h)) in
    cc

pub one_trace : OneTrace
one_trace lists one other t u =
    let entries : t.entries ≡ u.entries = same_entries t.entries u.entries t.ordered u.ordered (λ actor. t.each_list actor ∙ sym (u.each_list actor)) in
    t.lines ∙ (ap (map (λ (e : Entry). e.line)) entries ∙ sym u.lines)

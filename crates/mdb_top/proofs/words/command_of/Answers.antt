use Rattle.std.proofs.Common.{◌≡◌, ℕ, Bool, true, false, None, List, [], ◌∷◌, String, Global, map, length, get_or, codes, string_bytes, refl, sym, ◌∙◌, ap, Decides, arith}
use Rattle.std.proofs.lemmas.Slice.Eq.{bytes_eq-Decides}
use Rattle.mdb_top.specs.Verdicts.{command_of, job_of}
use Rattle.mdb_top.proofs.words.command_of.Goals as goal

untrue : {P : Type 0} (b : Bool) → Decides b P → (P → ⊥) → b ≡ false
untrue true d f = absurd (f (d.0 refl))
untrue false d f = refl

-- a word that is none of the commands asks for nothing
none_of_them : (word : List ℕ) → (word ≡ codes "replay" → ⊥) → (word ≡ codes "run" → ⊥) → (word ≡ codes "audit" → ⊥) → job_of word ≡ None
none_of_them word not_replay not_run not_audit =
    rw (untrue _ (bytes_eq-Decides word (codes "replay")) not_replay, untrue _ (bytes_eq-Decides word (codes "run")) not_run, untrue _ (bytes_eq-Decides word (codes "audit")) not_audit) refl

-- one word asks for what it says
one_word : (words : List (String Global)) (word : String Global) → length words ≡ 1 → word ≡ get_or words 0 word → command_of (map string_bytes words) ≡ job_of (string_bytes word)
one_word [] word one is = absurd (omega (arith, one))
one_word (w ∷ []) word one is = ap (λ (x : String Global). job_of (string_bytes x)) (sym is)
one_word (w ∷ v ∷ ws) word one is = absurd (omega (arith, one))

pub returns-in_default-clause-exact : goal.returns-in_default-clause-exact
returns-in_default-clause-exact c =
    let is = c.as_str.ensures.value in
    let none = none_of_them (string_bytes c.index-words-0.result) (λ e. c.in_default.not-replay (is ∙ e)) (λ e. c.in_default.not-run (is ∙ e)) (λ e. c.in_default.not-audit (is ∙ e)) in
    sym (one_word c.args.words.now c.index-words-0.result c.if-words-ne1.false c.index-words-0.is ∙ none)

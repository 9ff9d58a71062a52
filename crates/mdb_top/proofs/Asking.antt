-- Which words ask to go on from disks.
use Rattle.std.proofs.Common.{◌≡◌, ℕ, Bool, true, false, cond, Option, Some, None, List, [], ◌∷◌, codes, is_some, refl, sym, ap, ◌∙◌}
use Rattle.std.specs.Str.{bytes_eq}
use Rattle.mdb_base.specs.Words.{map_some}
use Rattle.session_outputs.specs.declared.making.Making.{Making}
use Rattle.mdb_top.specs.declared.words.Job.{Job}
use Rattle.mdb_top.specs.declared.words.Job.TheVariants.{Audit, Make, Replay, Resume, Run}
use Rattle.mdb_top.specs.Made.{made_by}
use Rattle.mdb_top.specs.Verdicts.{asked_by, asked_of_folder, folder_job, is_folder, or_command}

-- one word alone doesn't
never_alone : (a b c : Bool) → cond a (Some Replay) (cond b (Some Run) (cond c (Some Audit) None)) ≡ Some Resume → ⊥
never_alone true b c e = cc
never_alone false true c e = cc
never_alone false false true e = cc
never_alone false false false e = cc

never_made : (made : Option Making) → map_some Make made ≡ Some Resume → ⊥
never_made None e = cc
never_made (Some making) e = cc

-- it is a word with a folder that does
pub asks_to_resume : (words : List (List ℕ)) → asked_by words ≡ Some Resume → asked_of_folder words ≡ Some Resume
asks_to_resume [] e = cc
asks_to_resume (word ∷ []) e = absurd (never_alone (bytes_eq word (codes "replay")) (bytes_eq word (codes "run")) (bytes_eq word (codes "audit")) e)
asks_to_resume (word ∷ folder ∷ []) e = by_job (cond (is_folder folder) (folder_job word) None) refl e where
  by_job : (job : Option Job) → cond (is_folder folder) (folder_job word) None ≡ job → or_command job (word ∷ folder ∷ []) ≡ Some Resume
      → cond (is_folder folder) (folder_job word) None ≡ Some Resume
  by_job (Some job) is e = is ∙ e
  by_job None is e = absurd (never_made (made_by (word ∷ folder ∷ [])) e)
asks_to_resume (word ∷ folder ∷ more ∷ words) e = absurd (never_made (made_by (word ∷ folder ∷ more ∷ words)) e)

-- so where the words name no folder, nothing goes on
pub nothing_resumes : (words : List (List ℕ)) → is_some (asked_of_folder words) ≡ false → asked_by words ≡ Some Resume → ⊥
nothing_resumes words none e = (let other = sym (ap is_some (asks_to_resume words e)) ∙ none in cc)

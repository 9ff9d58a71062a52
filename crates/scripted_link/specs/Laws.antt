-- What scripts do to packets of any kind.
use Rattle.std.specs.Prelude.{◌≡◌, List, map}
use Rattle.mdb_base.specs.Words.{Among}
use Rattle.scripted_link.specs.declared.script.FateAt.{FateAt}
use Rattle.scripted_link.specs.Script.{let_through}

-- whatever the packets are renamed to, what is let through is renamed alike: a script sees places alone
abbrev pub SeePlacesAlone : Type 0 → Type 0 → Type 0
SeePlacesAlone A B = (script : List FateAt) (rename : A → B) (offered : List A) → let_through script (map rename offered) ≡ map rename (let_through script offered)

-- each packet that is let through was offered
abbrev pub WereOffered : Type 0 → Type 0
WereOffered A = (script : List FateAt) (offered : List A) (packet : A) → Among (λ p. p ≡ packet) (let_through script offered) → Among (λ p. p ≡ packet) offered

-- What the calls of a book write is what its words say.
use Rattle.std.proofs.Common.{◌≡◌, ℕ, max, nat_lt, cond, Option, Some, sym, ap, ◌∙◌}
use Rattle.mdb_base.specs.declared.names.Tid.{Tid}
use Rattle.mdb_base.specs.Words.{or_else, map_some}
use Rattle.site_tables.specs.Tables.{Versions}
use Rattle.run_book.specs.declared.counters.Counters.{Counters}
use Rattle.run_book.specs.Held.{Held, Runs, held_in, changed_in}
use Rattle.run_book.specs.Book.{Book, sealed_with, ticket_in, seals, not_sealed, counters_without, unseals}

-- a book of these parts
abbrev pub book_of : Versions → Runs → ℕ → ℕ → Option Tid → Book
book_of versions runs counter published owner = record { versions = versions; runs = runs; counters = record { counter = counter; published = published; owner = owner } }

pub same_parts : (v w : Versions) (r s : Runs) (c d p q : ℕ) (o n : Option Tid) → v ≡ w → r ≡ s → c ≡ d → p ≡ q → o ≡ n → book_of v r c p o ≡ book_of w s d q n
same_parts v w r s c d p q o n a b e f g =
    ap (λ (x : Versions). book_of x r c p o) a ∙ (ap (λ (x : Runs). book_of w x c p o) b
    ∙ (ap (λ (x : ℕ). book_of w s x p o) e ∙ (ap (λ (x : ℕ). book_of w s d x o) f ∙ ap (λ (x : Option Tid). book_of w s d q x) g)))

pub seals-made : (book : Book) (v : Versions) (r : Runs) (tid : Tid) (n c p ticket : ℕ) (o : Option Tid) → v ≡ book.versions → r ≡ changed_in tid (sealed_with n book.counters) book.runs →
    ticket_in book.runs tid ≡ ticket → c ≡ max n book.counters.counter → p ≡ max ticket book.counters.published → o ≡ cond (nat_lt book.counters.published ticket) (Some tid) book.counters.owner →
    book_of v r c p o ≡ seals tid n book
seals-made book v r tid n c p ticket o a b has e f g =
    same_parts v book.versions r _ c _ p _ o _ a b e
    (f ∙ ap (λ (t : ℕ). max t book.counters.published) (sym has)) (g ∙ ap (λ (t : ℕ). cond (nat_lt book.counters.published t) (Some tid) book.counters.owner) (sym has))

pub unseals-made : (book : Book) (v : Versions) (r : Runs) (tid : Tid) (held : Held) (m : Counters) → held_in book.runs tid ≡ Some held → v ≡ book.versions → r ≡ changed_in tid not_sealed book.runs →
    m ≡ counters_without held book.counters → book_of v r m.counter m.published m.owner ≡ unseals tid book
unseals-made book v r tid held m found a b e =
    let now = e ∙ sym (ap (λ (o : Option Held). or_else (map_some (λ h. counters_without h book.counters) o) book.counters) found) in
    same_parts v book.versions r _ _ _ _ _ _ _ a b (ap (λ (x : Counters). x.counter) now) (ap (λ (x : Counters). x.published) now) (ap (λ (x : Counters). x.owner) now)

-- The order of a site by the marks of its records.
use Rattle.std.specs.Prelude.{Bool, not, nat_lt, List, [], ◌∷◌, map, reverse}
use Rattle.mdb_base.specs.declared.names.Tid.{Tid}
use Rattle.mdb_base.specs.Words.{inserted, those}
use Rattle.session_report.specs.declared.marks.Mark.{Mark}
use Rattle.session_report.specs.declared.marks.Marks.{Marks}

-- by serial number, the greatest first, and of marks with one number the one that stood first
abbrev pub ranked : List Mark → List Mark
ranked [] = []
ranked (mark ∷ marks) = inserted (λ a b. nat_lt b.number a.number) mark (ranked marks)

-- these marks by rising serial number, the oldest of them first
abbrev pub rising_marks : List Mark → List Mark
rising_marks marks = reverse (ranked (reverse marks))

-- the marks of attempts that aren't refused
abbrev pub unrefused : (Tid → Bool) → List Mark → List Mark
unrefused refused marks = those (λ mark. not (refused mark.tid)) marks

-- the order of a site: the attempts of its marks that aren't refused, by rising serial number
abbrev pub order_told : (Tid → Bool) → List Mark → List Tid
order_told refused marks = map (λ mark. mark.tid) (rising_marks (unrefused refused marks))

-- the orders of the sites with these marks
abbrev pub orders_told : (Tid → Bool) → List Marks → List (List Tid)
orders_told refused marks = map (λ one. order_told refused one.kept.items) marks

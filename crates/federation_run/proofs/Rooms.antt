-- How many items there are and how many have room, as seats are taken and disks are put back.
use Rattle.std.proofs.Common.{◌≡◌, ℕ, ◌+◌, ◌-◌, ◌<◌, ◌≤◌, arith}

-- where one is taken of one, none is left
pub none_left : (before after : ℕ) → before ≡ 1 → before ≡ after + 1 → after ≡ 0
none_left before after one taken = omega arith

-- one is left after one more was put to none
pub one_put : (before after : ℕ) → before ≡ 0 → after ≡ before + 1 → after ≡ 1
one_put before after none put = omega arith

-- what is taken away from makes the number smaller
pub one_less : (before after : ℕ) → after + 1 ≡ before → after < before
one_less before after taken = omega arith

-- an item is there to be taken
pub some_there : (shown len least : ℕ) → shown ≡ len → least < shown → 0 < len
some_there shown len least is more = omega arith

-- the same number of items, as it is kept and as it is counted
pub more_than : (least shown len items : ℕ) → shown ≡ len → len ≡ items → least < shown → least < items
more_than least shown len items is counted more = omega arith

pub no_more_than : (most shown len items : ℕ) → shown ≡ len → len ≡ items → shown ≤ most → items ≤ most
no_more_than most shown len items is counted less = omega arith

-- while a disk waits beside the first one, a seat is free
pub seat_free : (seats seats_len room disks disks_len shown : ℕ) → seats + disks ≡ 9 → seats_len ≡ seats → 8 ≤ room → shown ≡ disks_len → disks_len ≡ disks → 1 < shown → seats_len < room
seat_free seats seats_len room disks disks_len shown nine long fits is counted more = omega arith

-- the number of the actor that sits down next is one of 1 to 8
pub actor_fits : (seats disks left shown left_len : ℕ) → seats + disks ≡ 9 → disks ≡ left + 1 → shown ≡ left_len → left_len ≡ left → shown ≤ 8
actor_fits seats disks left shown left_len nine taken is counted = omega arith

-- all seats are taken where one disk is left
pub just_one : (shown len items : ℕ) → 1 ≤ items → shown ≡ len → len ≡ items → shown ≤ 1 → items ≡ 1
just_one shown len items least is counted most = omega arith

-- while a seat is taken, a disk is away
pub disk_away : (seats seats_len shown disks seen disks_len : ℕ) → seats + seen ≡ 9 → shown ≡ seats_len → seats_len ≡ seats → 0 < shown → seen ≡ disks → disks_len ≡ disks → disks_len ≤ 8
disk_away seats seats_len shown disks seen disks_len nine is counted more same long = omega arith

-- there is room for the next disk
pub disk_fits : (disks_len room : ℕ) → disks_len ≤ 8 → 9 ≤ room → disks_len < room
disk_fits disks_len room few fits = omega arith

-- there is room for what its host leaves
pub left_fits : (lefts lefts_len room seats seats_len shown : ℕ) → lefts + seats ≤ 8 → shown ≡ seats_len → seats_len ≡ seats → 0 < shown → lefts_len ≡ lefts → 8 ≤ room → lefts_len < room
left_fits lefts lefts_len room seats seats_len shown few is counted more long fits = omega arith

-- all disks are back where no seat is taken
pub all_back : (seats seats_len shown disks : ℕ) → seats + disks ≡ 9 → shown ≡ seats_len → seats_len ≡ seats → shown ≤ 0 → disks ≡ 9
all_back seats seats_len shown disks nine is counted none = omega arith

-- nothing is left of eight where nothing was put
pub room_for_all : (put len room many : ℕ) → len ≡ put → put ≡ 0 → 8 ≤ room → many ≡ 8 → len + many ≤ room
room_for_all put len room many long none fits eight = omega arith

-- the room of nine disks is kept while they are away
pub room_kept : (items length room opened first : ℕ) → items ≡ 9 → length ≡ items → length ≤ room → opened ≡ room → first ≡ opened → 9 ≤ first
room_kept items length room opened first nine long fits a b = omega arith

-- with none in it there is a place
pub place_left : (items len room : ℕ) → items ≡ 0 → len ≡ items → 9 ≤ room → len < room
place_left items len room none long fits = omega arith

-- one more is at most one more, and so is none
pub at_most_one_more : (before after : ℕ) → after ≡ before + 1 → after ≤ before + 1
at_most_one_more before after put = omega arith

pub one_more_or_none : (before : ℕ) → before ≤ before + 1
one_more_or_none before = omega arith

-- none is at most any number
pub none_before : (items index : ℕ) → items ≤ 0 → items ≤ index
none_before items index none = omega arith

-- of one, one is there to be taken
pub one_there : (items len : ℕ) → items ≡ 1 → len ≡ items → 0 < len
one_there items len one long = omega arith

-- neither is more
pub same_number : (some many : ℕ) → many ≤ some → some ≤ many → some ≡ many
same_number some many least most = omega arith

-- behind a place within a list something is left
pub some_rest : (all many place rest len : ℕ) → all ≡ many → place < many → rest ≡ all - place → len ≡ rest → 0 < len
some_rest all many place rest len alike within left long = omega arith

-- The names of the words of an engine's table, and the number of each word.
use Rattle.std.specs.Prelude.{◌≡◌, ℕ, ◌+◌, ◌*◌, ◌<◌, Bool, true, false, ◌&&◌, ◌==◌, nat_lt}
use Rattle.word_layout.specs.Limits.{cells_of_value}
use Rattle.word_layout.specs.Size.{Size, places, words}

-- a word of a seat s, of the table as a whole, of a record r, or of a place p
pub data Name : Type 0 where
  -- a bound on the seat's write stamps from below, and its read bound
  published_write : (s : ℕ) → Name
  published_read : (s : ℕ) → Name
  -- a number that no published write word lies below, and one that no published read word lies below
  min_write : Name
  min_read : Name
  -- the record's first version, its collectors' lock, and the stamp below which its versions may be gone
  head : (r : ℕ) → Name
  lock : (r : ℕ) → Name
  floor : (r : ℕ) → Name
  -- the state of the version in the place, its write stamp and its read stamp
  status : (p : ℕ) → Name
  wts : (p : ℕ) → Name
  rts : (p : ℕ) → Name
  -- the place of the next older version, and the cells of the value
  next : (p : ℕ) → Name
  cell : (p i : ℕ) → Name

-- a table of this size has this word
abbrev pub IsNamed : Size → Name → Type 0
IsNamed z (published_write s) = s < z.seats
IsNamed z (published_read s) = s < z.seats
IsNamed z min_write = Unit {0}
IsNamed z min_read = Unit {0}
IsNamed z (head r) = r < z.records
IsNamed z (lock r) = r < z.records
IsNamed z (floor r) = r < z.records
IsNamed z (status p) = p < places z
IsNamed z (wts p) = p < places z
IsNamed z (rts p) = p < places z
IsNamed z (next p) = p < places z
IsNamed z (cell p i) = (p < places z) × (i < cells_of_value)

-- the head of a record, the first of its two other words, and the first word of a place: the heads stand behind the words of the
-- seats, the locks and floors behind the heads, and the places behind these
abbrev pub head_of_record : Size → ℕ → ℕ
head_of_record z r = 2 * z.seats + 2 + r

abbrev pub lock_of_record : Size → ℕ → ℕ
lock_of_record z r = 2 * z.seats + 2 + z.records + 2 * r

abbrev pub first_of_place : Size → ℕ → ℕ
first_of_place z p = 2 * z.seats + 2 + 3 * z.records + 36 * p

-- the number of a word: the heads of all records lie side by side, so do the lock and the floor of a record, and the 36 words of a
-- place, the last 32 of which are its cells
abbrev pub word_of : Size → Name → ℕ
word_of z (published_write s) = s
word_of z (published_read s) = z.seats + s
word_of z min_write = 2 * z.seats
word_of z min_read = 2 * z.seats + 1
word_of z (head r) = head_of_record z r
word_of z (lock r) = lock_of_record z r
word_of z (floor r) = lock_of_record z r + 1
word_of z (status p) = first_of_place z p
word_of z (wts p) = first_of_place z p + 1
word_of z (rts p) = first_of_place z p + 2
word_of z (next p) = first_of_place z p + 3
word_of z (cell p i) = first_of_place z p + 4 + i

-- each word of a table lies in it
abbrev pub LiesWithin : Size → Type 0
LiesWithin z = (n : Name) → IsNamed z n → word_of z n < words z

-- words of a table with one number are one word
abbrev pub AreApart : Size → Type 0
AreApart z = (n m : Name) → IsNamed z n → IsNamed z m → word_of z n ≡ word_of z m → n ≡ m

-- a test for one name
abbrev pub name_eq : Name → Name → Bool
name_eq (published_write s) (published_write t) = s == t
name_eq (published_read s) (published_read t) = s == t
name_eq min_write min_write = true
name_eq min_read min_read = true
name_eq (head r) (head q) = r == q
name_eq (lock r) (lock q) = r == q
name_eq (floor r) (floor q) = r == q
name_eq (status p) (status q) = p == q
name_eq (wts p) (wts q) = p == q
name_eq (rts p) (rts q) = p == q
name_eq (next p) (next q) = p == q
name_eq (cell p i) (cell q j) = (p == q) && (i == j)
name_eq n m = false

-- a test for `IsNamed`
abbrev pub is_named : Size → Name → Bool
is_named z (published_write s) = nat_lt s z.seats
is_named z (published_read s) = nat_lt s z.seats
is_named z min_write = true
is_named z min_read = true
is_named z (head r) = nat_lt r z.records
is_named z (lock r) = nat_lt r z.records
is_named z (floor r) = nat_lt r z.records
is_named z (status p) = nat_lt p (places z)
is_named z (wts p) = nat_lt p (places z)
is_named z (rts p) = nat_lt p (places z)
is_named z (next p) = nat_lt p (places z)
is_named z (cell p i) = nat_lt p (places z) && nat_lt i cells_of_value

-- What a snapshot has read: the reads of its entry are the first ones of each record.
use Rattle.std.specs.Prelude.{◌≡◌, ℕ, Bool, true, false, ◌==◌, if◌then◌else◌, List, [], ◌∷◌, ◌++◌, map}
use Rattle.histories.specs.History.{IsValue, UpTo}
use Rattle.core_rule.specs.View.{Read, Logged}
use Rattle.core_rule.specs.Views.{Among}
use Rattle.core_rule.specs.Searching.{IsWhole}
use Rattle.core_rule.specs.Deciding.{read_value, entry_of}

-- a read of record r is among these
abbrev pub is_read : ℕ → List Read → Bool
is_read r [] = false
is_read r (d ∷ ds) = if r == d.record_number then true else is_read r ds

-- of the reads found, the newest of which stands first, the first one of each record, in the order in which records were first read
abbrev pub firsts : List Read → List Read
firsts [] = []
firsts (d ∷ ds) = if is_read d.record_number ds then firsts ds else firsts ds ++ d ∷ []

-- all of each version was loaded
abbrev pub AreAllWhole : List Read → Type 0
AreAllWhole ds = (d : Read) → Among d ds → IsWhole d

-- two whole reads of one record have one value
abbrev pub AreAlike : List Read → Type 0
AreAlike ds =
    (d c : Read) → Among d ds → Among c ds → IsWhole d → IsWhole c → d.record_number ≡ c.record_number → read_value d ≡ read_value c

-- each whole read has the value that the commit entries of the log up to a stamp leave of its record
abbrev pub AreLeft : List Logged → ℕ → List Read → Type 0
AreLeft log stamp ds =
    (d : Read) → Among d ds → IsWhole d → IsValue (UpTo (map entry_of log) stamp) d.record_number (read_value d)

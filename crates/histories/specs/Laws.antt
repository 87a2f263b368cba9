-- The laws on histories.
use Rattle.std.specs.Prelude.{◌≡◌, ℕ, ◌<◌, ◌≤◌, false, List, [], ◌∷◌, ◌++◌, All, AllPairs, Contains}
use Rattle.plain_data.specs.declared.entry.Entry.{Entry}
use Rattle.plain_data.specs.State.{State, IsEntry, Agrees, Fits, overlay}
use Rattle.histories.specs.History.{StampsDiffer, ObeysWriteBefore, Lawful, Leaves, Before, UpTo, LeavesKept}

-- entries that obey the rule of the write before, whose commit stamps differ and whose commit entries fit, are lawful
abbrev pub WriteBeforeIsLawful : (State → Type 0) → Type 0
WriteBeforeIsLawful kept =
    (records : ℕ) (entries : List Entry) → All (IsEntry records) entries → AllPairs StampsDiffer entries → ObeysWriteBefore entries → All (λ entry. entry.snapshot ≡ false → Fits kept records entry) entries → Lawful kept records entries

-- in a lawful history the entries before each one leave a kept state, which has what it read, and all leave a kept state
abbrev pub LawfulHasStates : (State → Type 0) → Type 0
LawfulHasStates kept =
    (records : ℕ) (entries : List Entry) → Lawful kept records entries → All (λ entry. (state : State) × LeavesKept kept records (Before entries entry) state × Agrees state entry.reads) entries × ((state : State) × LeavesKept kept records (Contains entries) state)

-- a commit entry above all commit stamps: the state before it is the one so far, and with its writes it is the next one
abbrev pub NextStateIsOverlay : Type 0
NextStateIsOverlay =
    (records : ℕ) (entries : List Entry) (entry : Entry) (state : State) → All (IsEntry records) (entries ++ entry ∷ []) → AllPairs StampsDiffer entries → entry.snapshot ≡ false → All (λ other. other.snapshot ≡ false → other.stamp < entry.stamp) entries → Leaves (Contains entries) state → ((before : State) → Leaves (Before (entries ++ entry ∷ []) entry) before → before ≡ state) × Leaves (Contains (entries ++ entry ∷ [])) (overlay entry.writes state)

-- commit entries above a stamp do not change what those up to it leave
abbrev pub LaterEntriesKeepState : Type 0
LaterEntriesKeepState =
    (stamp : ℕ) (entries more : List Entry) (state : State) → All (λ entry. entry.snapshot ≡ false → entry.stamp ≤ stamp) entries → All (λ entry. entry.snapshot ≡ false → stamp < entry.stamp) more → Leaves (Contains entries) state → Leaves (UpTo (entries ++ more) stamp) state

-- Searches: where a search stands is linked, what it saw there is still so, and it has passed no settled version.
use Rattle.std.specs.Prelude.{◌≡◌, ℕ, ◌<◌, ◌≤◌, List}
use Rattle.word_layout.specs.Size.{Size}
use Rattle.stamp_base.specs.Limits.{end_of_stamps}
use Rattle.core_rule.specs.Status.{status_word}
use Rattle.core_rule.specs.declared.status.Status.TheVariants.{Committed, Aborted}
use Rattle.core_rule.specs.View.{View, Stand, Look, blank, stamped, shown, Search, stands}
use Rattle.core_rule.specs.Views.{Each, Has}
use Rattle.core_rule.specs.Searching.{limit_of}

-- a place in the list of record r. Above it each version at or below the published read word `settled` is aborted
pub record IsKept (z : Size) (lists : ℕ → List ℕ) (stamps statuses : ℕ → ℕ) (settled r q : ℕ) : Type 0 where
  pub on_record : r < z.records
  pub there : Has q (lists r)
  pub is_open : settled < end_of_stamps
  pub above : (p : ℕ) → Has p (lists r) → stamps q < stamps p → stamps p ≤ settled → statuses p ≡ status_word Aborted

-- the write stamp, and a status that does not change any more
abbrev pub IsSeen : (limit stamp status : ℕ) → Look → Type 0
IsSeen limit stamp status blank = Unit {0}
IsSeen limit stamp status (stamped w) = stamp ≡ w
IsSeen limit stamp status (shown w s) = (stamp ≡ w) × (w < limit) × (status_word Committed ≤ s → status ≡ s)

pub record StandOk (z : Size) (lists : ℕ → List ℕ) (stamps statuses : ℕ → ℕ) (limit settled : ℕ) (s : Stand) (look : Look) : Type 0 where
  pub kept : IsKept z lists stamps statuses settled s.record_number s.place
  pub under : stamps s.place < s.under
  pub seen : IsSeen limit (stamps s.place) (statuses s.place) look

abbrev pub SearchOk : Size → (ℕ → List ℕ) → (stamps statuses : ℕ → ℕ) → (limit settled : ℕ) → Search → Type 0
SearchOk z lists stamps statuses limit settled (stands s look) = StandOk z lists stamps statuses limit settled s look
SearchOk z lists stamps statuses limit settled _ = Unit {0}

abbrev pub SearchesOk : Size → (ℕ → List ℕ) → (stamps statuses : ℕ → ℕ) → View → Type 0
SearchesOk z lists stamps statuses v =
    SearchOk z lists stamps statuses (limit_of v.flight v.published.read) v.published.read v.work.search

abbrev pub Searches : Size → (ℕ → List ℕ) → (stamps statuses : ℕ → ℕ) → List View → Type 0
Searches z lists stamps statuses vs = Each (SearchesOk z lists stamps statuses) vs

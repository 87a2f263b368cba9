-- The cells of a version, loaded one by one.
use Rattle.std.proofs.Common.{◌≡◌, ℕ, suc, ◌+◌, ◌<◌, List, [], ◌∷◌, ◌++◌, take, set, length, length-set, length-take-le, take_all, refl, sym, ap, ◌∙◌, subst, append_assoc, append-nil, arith}
use Rattle.std.proofs.lemmas.List.{take_more_set}
use Rattle.plain_data.specs.State.{State}
use Rattle.word_layout.specs.Name.{cell}
use Rattle.core_rule.specs.Paths.{load}
use Rattle.core_rule.specs.View.{View, Read, Load}
use Rattle.core_rule.specs.Searching.{IsLoading, read_place, read_cells, more_read, newest, limit_of}
use Rattle.core_rule.specs.Hands.{Shared, Seated, IsReady, StaysReady, Steps}
use Rattle.core_rule.specs.Kinds.{load_cell}
use Rattle.core_rule.specs.Left.{LeavesCells}
use Rattle.version_search.specs.Loading.{with_cells, with_value, IsLeftIn, cells_loaded}
use Rattle.version_search.proofs.Calls.{stays-ready, starts-ready}

pub loading_still : (cells : List ℕ) (ds : List Read) → IsLoading ds → IsLoading (with_cells cells ds)
loading_still cells [] h = absurd h
loading_still cells (d ∷ ds) h = h

pub place_still : (cells : List ℕ) (ds : List Read) → read_place (with_cells cells ds) ≡ read_place ds
place_still cells [] = refl
place_still cells (d ∷ ds) = refl

empty_of : (xs : List ℕ) → length xs ≡ 0 → xs ≡ []
empty_of [] e = refl
empty_of (x ∷ xs) e = absurd (omega arith)

pub count_of : (cells : List ℕ) (ds : List Read) → IsLoading ds → read_cells ds ≡ 0 → read_cells (with_cells cells ds) ≡ length cells
count_of cells [] h e = absurd h
count_of cells (d ∷ ds) h e = ap (λ (xs : List ℕ). length (xs ++ cells)) (empty_of d.cells e)

with_none : (ds : List Read) → ds ≡ with_cells [] ds
with_none [] = refl
with_none (d ∷ ds) = λ i. record d { cells = sym (append-nil d.cells) i } ∷ ds

with_more : (n : ℕ) (cells : List ℕ) (ds : List Read) → more_read n (with_cells cells ds) ≡ with_cells (cells ++ n ∷ []) ds
with_more n cells [] = refl
with_more n cells (d ∷ ds) = λ i. record d { cells = append_assoc d.cells cells (n ∷ []) i } ∷ ds

-- one cell more
cells_more : (place from k n : ℕ) (ns : List ℕ) → from + length ns ≡ k → cells_loaded place from (ns ++ n ∷ []) ≡ cells_loaded place from ns ++ load (cell place k) n ∷ []
cells_more place from k n [] at = let e : from ≡ k = omega arith in ap (λ (i : ℕ). load (cell place i) n ∷ []) e
cells_more place from k n (x ∷ ns) at = ap (λ (ls : List Load). load (cell place from) x ∷ ls) (cells_more place (suc from) k n ns (omega arith))

-- the first cells are loaded
pub record Loaded (core : Shared) (before : Seated) (words : List ℕ) (n : ℕ) (now : Seated) : Type 0 where
  pub stays : StaysReady core before now
  pub count : length words ≡ 32
  pub view : now.view ≡ with_value before.view (take n words) now.view.seen
  pub left : n ≡ 32 → IsLeftIn now.view (newest now.view.work.reads).cells
  pub lost : now.view.seen.lost ≡ before.view.seen.lost
  pub loads : now.view.seen.loads ≡ before.view.seen.loads ++ cells_loaded (read_place before.view.work.reads) 0 (take n words)

-- the same into a version, of which all but the cells stays
pub record LoadedInto (core : Shared) (before : Seated) (read : Read) (n : ℕ) (now : Seated) (read' : Read) : Type 0 where
  pub loaded : Loaded core before read'.cells n now
  pub only : read' ≡ record read { cells = read'.cells }

pub reads_of : (core : Shared) (before : Seated) (words : List ℕ) (n : ℕ) (now : Seated) → Loaded core before words n now → now.view.work.reads ≡ with_cells (take n words) before.view.work.reads
reads_of core before words n now l = ap (λ (v : View). v.work.reads) l.view

pub begins : (core : Shared) (before : Seated) (words : List ℕ) → IsReady core before → length words ≡ 32 → Loaded core before words 0 before
begins core before words ready count = record {
  stays = starts-ready core before ready;
  count = count;
  view = λ i. record before.view { work = record before.view.work { reads = with_none before.view.work.reads i } };
  left = λ all. absurd (omega arith);
  lost = refl;
  loads = sym (append-nil before.view.seen.loads);
}

newest_more : (n : ℕ) (ds : List Read) → IsLoading ds → newest (more_read n ds) ≡ record (newest ds) { cells = (newest ds).cells ++ n ∷ [] }
newest_more n [] h = absurd h
newest_more n (d ∷ ds) h = refl

newest_with : (cells : List ℕ) (ds : List Read) → IsLoading ds → read_cells ds ≡ 0 → (newest (with_cells cells ds)).cells ≡ cells
newest_with cells [] h e = absurd h
newest_with cells (d ∷ ds) h e = ap (λ (xs : List ℕ). xs ++ cells) (empty_of d.cells e)

module _ (core : Shared) (before : Seated) (words : List ℕ) (loading : IsLoading before.view.work.reads) (none : read_cells before.view.work.reads ≡ 0) where
  still_loading : (i : ℕ) (now : Seated) → Loaded core before words i now → IsLoading now.view.work.reads
  still_loading i now l = subst IsLoading (sym (reads_of core before words i now l)) (loading_still (take i words) before.view.work.reads loading)

  loaded_count : (i : ℕ) (now : Seated) → i < 32 → Loaded core before words i now → read_cells now.view.work.reads ≡ i
  loaded_count i now inside l =
      ap read_cells (reads_of core before words i now l) ∙ count_of (take i words) before.view.work.reads loading none
      ∙ length-take-le i words (let c = l.count in omega arith)

  pub one_more : {kept : State → Type 0} (i n : ℕ) (now next' : Seated) → i < 32 → Loaded core before words i now → Steps kept load_cell now n next' → Loaded core before (set words i n) (i + 1) next'
  one_more {kept} i n now next' inside l step =
      let view = step.view in
      let more : take (i + 1) (set words i n) ≡ take i words ++ n ∷ [] = take_more_set words i n (let c = l.count in omega arith) in
      let so_far = loaded_count i now inside l in
      let p = read_place before.view.work.reads in
      let same_place : read_place now.view.work.reads ≡ p = ap read_place (reads_of core before words i now l) ∙ place_still (take i words) before.view.work.reads in
      let long : 0 + length (take i words) ≡ i = let e = length-take-le i words (let c = l.count in omega arith) in omega arith in
      record {
        stays = stays-ready core before now next' l.stays step.seat (ap (λ (v : View). v.size) view) (ap (λ (v : View). v.number) view) (ap (λ (v : View). v.published) view);
        count = length-set words i n ∙ l.count;
        view = view ∙ (λ j. record now.view { work = record now.view.work { reads = more_read n now.view.work.reads }; seen = sym (ap (λ (v : View). v.seen) view) j })
            ∙ ap (λ (v : View). record v { work = record v.work { reads = more_read n v.work.reads }; seen = next'.view.seen }) l.view
            ∙ (λ j. record (with_value before.view (take i words) next'.view.seen) { work = record before.view.work { reads = (with_more n (take i words) before.view.work.reads ∙ ap (λ (xs : List ℕ). with_cells xs before.view.work.reads) (sym more)) j } });
        left = λ all.
            subst (λ (v : View). IsLeftIn v (newest v.work.reads).cells) (sym view) (λ alone.
            subst (λ (d : Read). LeavesCells now.view.log d.record_number (limit_of now.view.flight now.view.published.read) d.version d.cells) (sym (newest_more n now.view.work.reads (still_loading i now l)))
            (step.learnt alone (omega arith)));
        lost = ap (λ (v : View). v.seen.lost) view ∙ l.lost;
        loads = ap (λ (v : View). v.seen.loads) view
            ∙ ap (λ (q : ℕ). now.view.seen.loads ++ load (cell q (read_cells now.view.work.reads)) n ∷ []) same_place
            ∙ ap (λ (k : ℕ). now.view.seen.loads ++ load (cell p k) n ∷ []) so_far
            ∙ ap (λ (ls : List Load). ls ++ load (cell p i) n ∷ []) l.loads
            ∙ append_assoc before.view.seen.loads (cells_loaded p 0 (take i words)) (load (cell p i) n ∷ [])
            ∙ ap (λ (ls : List Load). before.view.seen.loads ++ ls) (sym (cells_more p 0 i n (take i words) long) ∙ ap (cells_loaded p 0) (sym more));
      }

  -- all cells are loaded
  pub leaves : (now : Seated) → Loaded core before words 32 now → IsLeftIn now.view words
  leaves now l alone =
      let cells_are : (newest now.view.work.reads).cells ≡ words =
      ap (λ (ds : List Read). (newest ds).cells) (reads_of core before words 32 now l) ∙ newest_with (take 32 words) before.view.work.reads loading none
      ∙ take_all 32 words (let c = l.count in omega arith) in
      subst (LeavesCells now.view.log (newest now.view.work.reads).record_number (limit_of now.view.flight now.view.published.read) (newest now.view.work.reads).version) cells_are (l.left refl alone)

-- one cell more, into a version
pub one_more_into : (core : Shared) (before : Seated) {kept : State → Type 0} (i j n : ℕ) (now next' : Seated) (read d d' : Read) → IsLoading before.view.work.reads → read_cells before.view.work.reads ≡ 0 → i < 32 → j ≡ i + 1 → LoadedInto core before read i now d → Steps kept load_cell now n next' → d' ≡ record d { cells = set d.cells i n } → LoadedInto core before read j next' d'
one_more_into core before i j n now next' read d d' loading none inside up l step put =
    let words : d'.cells ≡ set d.cells i n = ap (λ (x : Read). x.cells) put in
    record {
      loaded = subst (λ (k : ℕ). Loaded core before d'.cells k next') (sym up)
          (subst (λ (ws : List ℕ). Loaded core before ws (i + 1) next') (sym words) (one_more core before d.cells loading none i n now next' inside l.loaded step));
      only = put ∙ (λ k. record (l.only k) { cells = sym words k });
    }

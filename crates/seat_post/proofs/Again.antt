-- The value of a record written again: it fits, and what one version more leaves of a view.
use Rattle.std.proofs.Common.{◌≡◌, ℕ, ◌<◌, Bool, true, false, cond, List, [], ◌∷◌, ◌++◌, Option, refl, sym, ap, ◌∙◌, subst, inl, inr, length, map, drop}
use Rattle.std.specs.Prelude.{IfSome, slice_set}
use Rattle.std.proofs.lemmas.Bool.Decides.{eqb_tells}
use Rattle.std.proofs.lemmas.List.{map_push}
use Rattle.std.proofs.lemmas.List.Elements.{All-head}
use Rattle.plain_data.specs.declared.entry.Entry.{Entry}
use Rattle.plain_data.specs.State.{State, Fits, overlay}
use Rattle.word_layout.specs.Size.{Size}
use Rattle.core_rule.specs.View.{View, Read, Write, Load, Seen, Logged, writing}
use Rattle.core_rule.specs.Views.{Among}
use Rattle.core_rule.specs.Searching.{Ends, counted_more}
use Rattle.core_rule.specs.Collecting.{HasEntry}
use Rattle.core_rule.specs.Versions.{read_version, written_version}
use Rattle.core_rule.specs.Deciding.{entry_of, read_values, written_values, commit_of, StoodAt, IsFitting}
use Rattle.validate_core.specs.declared.conflict.Conflict.{Conflict}
use Rattle.validate_core.specs.declared.conflict.Conflict.TheVariants.{Pending, ReadLater, Overtaken}
use Rattle.validate_core.specs.Sets.{SetsView, SameWrites, Turn, versions_read, records_written}
use Rattle.validate_core.specs.Installing.{SameSets, InstallsHeld}
use Rattle.validate_core.specs.Validating as validating
use Rattle.version_search.specs.Growing.{Grows}
use Rattle.version_search.proofs.Grown.{grows_both, linked_grows}
use Rattle.seat_post.specs.Conflicts.{ShowsOf, WasFound, WereFound}
use Rattle.seat_post.specs.Seats.{Placed, observed_of, placed_of}
use Rattle.seat_post.specs.Rewriting.{rewriting, LinksOne, LinksOneThen, Rewrites, IsStopped, IsLoadedIn, others_in}
use Rattle.seat_post.proofs.EndMore.{same_values, stood_same, another_of}
use Rattle.seat_post.proofs.Listed.{read_value-version, value_of-cells}
use Rattle.seat_post.proofs.Observed.{shown_loaded, loaded_before, found_after}

-- ---- it fits

same_by : (b : Bool) (value found : Option (List ℕ)) → (b ≡ true → found ≡ value) → cond b value found ≡ found
same_by true value found is = sym (is refl)
same_by false value found is = refl

same_at : (rid : ℕ) (value : Option (List ℕ)) (state : State) → state rid ≡ value → (r : ℕ) → overlay ((rid, value) ∷ []) state r ≡ state r
same_at rid value state at r =
    elim (eqb_tells r rid) as (λ _. overlay ((rid, value) ∷ []) state r ≡ state r) [
      | inl t ↦ rw t.0 (sym (ap state t.1 ∙ at))
      | inr t ↦ rw t.0 refl
    ]

-- a state that agrees with the read is left as it was
pub fits_again : (kept : State → Type 0) (records stamp rid : ℕ) (value : Option (List ℕ)) → Fits kept records (rewriting stamp rid value)
fits_again kept records stamp rid value state is keeps agrees =
    let at = All-head (λ (read : ℕ × Option (List ℕ)). state read.0 ≡ read.1) (rid, value) [] agrees in
    let same : state ≡ overlay ((rid, value) ∷ []) state = λ i r. sym (same_at rid value state at r) i in
    subst kept same keeps

-- ---- the entry

pub entry_again : (t rid place wts : ℕ) (value : Option (List ℕ)) (s s' : SetsView) → IfSome value (λ words. length words ≡ 32) → s.reads ≡ read_version rid place wts value ∷ [] → s.writes ≡ written_version rid 0 0 value ∷ [] → SameSets s s' → entry_of (commit_of (writing t) s'.reads s'.writes) ≡ rewriting t rid value
entry_again t rid place wts value s s' whole read written same =
    let reads : read_values s'.reads ≡ (rid, value) ∷ [] = ap read_values (same.reads ∙ read) ∙ ap (λ v. (rid, v) ∷ []) (read_value-version rid place wts value) in
    let writes : written_values s'.writes ≡ (rid, value) ∷ [] = same_values s.writes s'.writes same.writes ∙ ap written_values written ∙ ap (λ v. (rid, v) ∷ []) (value_of-cells value whole) in
    rw (reads, writes) refl

pub fitting_again : (kept : State → Type 0) (records t rid place wts : ℕ) (value : Option (List ℕ)) (s s' : SetsView) → IfSome value (λ words. length words ≡ 32) → s.reads ≡ read_version rid place wts value ∷ [] → s.writes ≡ written_version rid 0 0 value ∷ [] → SameSets s s' → IsFitting kept records (commit_of (writing t) s'.reads s'.writes)
fitting_again kept records t rid place wts value s s' whole read written same =
    subst (λ (e : Entry). Fits kept records e) (sym (entry_again t rid place wts value s s' whole read written same)) (fits_again kept records t rid value)

-- ---- one version more

turned_one : (us : List Write) (u w : Write) → us ≡ w ∷ [] → Turn 0 us u → w ≡ u
turned_one us u w one turn = let h : w ∷ [] ≡ u ∷ drop 1 us = sym one ∙ turn.splits in cc

module _ (z : Size) (before after' : SetsView) (rid place : ℕ) (value : Option (List ℕ)) (v x : View) (installs : InstallsHeld z place before after' v x) (written : before.writes ≡ written_version rid 0 0 value ∷ []) where
  record_is : installs.puts.write.record_number ≡ rid
  record_is = sym (ap (λ (u : Write). u.record_number) (turned_one before.writes installs.puts.write (written_version rid 0 0 value) written installs.puts.turn))

  linked_only : x ≡ record v { places = x.places; work = x.work; counts = counted_more v.size rid v.published.write place v.counts; tops = record { record_number = rid; stamp = v.published.write } ∷ v.tops; front = x.front; log = x.log; seen = x.seen }
  linked_only = subst (λ (r : ℕ). x ≡ record v { places = x.places; work = x.work; counts = counted_more v.size r v.published.write place v.counts; tops = record { record_number = r; stamp = v.published.write } ∷ v.tops; front = x.front; log = x.log; seen = x.seen }) record_is
      (subst (λ (y : View). y ≡ record v { places = y.places; work = y.work; counts = counted_more v.size installs.puts.write.record_number v.published.write place v.counts; tops = record { record_number = installs.puts.write.record_number; stamp = v.published.write } ∷ v.tops; front = y.front; log = y.log; seen = y.seen }) (sym installs.puts.linked.view) refl)

  pub linked_log : x.log ≡ v.log
  linked_log = ap (λ (y : View). y.log) installs.only

  -- it alone was written
  writes_one : after'.writes ≡ record installs.puts.write { place = place; stamp = v.published.write } ∷ []
  writes_one = installs.puts.writes ∙ ap (λ (us : List Write). slice_set us 0 (record installs.puts.write { place = place; stamp = v.published.write })) written

  -- it stands in that place
  placed_one : placed_of after'.writes ≡ record { rid = rid; place = place } ∷ []
  placed_one = let alone : ℕ → List Placed = λ r. record { rid = r; place = place } ∷ [] in ap (λ (us : List Write). placed_of us) writes_one ∙ ap alone record_is

  pub links_then : (w : View) → w ≡ record (validating.worked x w.work w.seen) { log = w.log } → w.work.linked ≡ after'.writes → Grows x.seen w.seen → Ends w.work → LinksOne rid place v.published.write v w
  links_then w then linked grows ends = record {
    placed = ap (λ (us : List Write). placed_of us) linked ∙ placed_one;
    only = subst (λ (y : View). y ≡ record v { places = y.places; work = y.work; counts = counted_more v.size rid v.published.write place v.counts; tops = record { record_number = rid; stamp = v.published.write } ∷ v.tops; front = y.front; log = y.log; seen = y.seen })
        (sym (then ∙ ap (λ (y : View). record (validating.worked y w.work w.seen) { log = w.log }) linked_only)) refl;
    held = ap (λ (y : View). y.places.held) then ∙ installs.held;
    grows = grows_both v.seen x.seen w.seen (linked_grows _ _ _ installs.puts.linked) grows;
    ends = ends;
  }

  -- where loads were made so of the one read and the one write
  pub linked_then : (such : (stamp seat : ℕ) → List (ℕ × ℕ) → List ℕ → (before after' : List Load) → Type 0) (from wts t : ℕ) (s : Seen) → before.reads ≡ read_version rid from wts value ∷ [] → SameSets before after' → t ≡ v.published.write → s.lost ≡ x.seen.lost → such t x.number (versions_read after'.reads) (records_written after'.writes) x.seen.loads s.loads → LinksOneThen v.published.write rid (such v.published.write v.number ((rid, wts) ∷ []) (rid ∷ [])) (observed_of v) (record { loads = s.loads; lost = s.lost })
  linked_then such from wts t s read same at lost then =
      let number = ap (λ (y : View). y.number) installs.only in
      let reads = ap versions_read (same.reads ∙ read) in
      let rids = ap records_written writes_one ∙ ap (λ (r : ℕ). r ∷ []) record_is in
      record {
        linked = x.seen.loads;
        descends = rw (lost, ← record_is) installs.puts.linked.descends;
        then = rw (at, number, reads, rids) at then;
      }

-- ---- what it leaves

among_end : (xs : List Logged) (x : Logged) → Among x (xs ++ x ∷ [])
among_end [] x = inl refl
among_end (y ∷ ys) x = inr (among_end ys x)

same_first : (u : Write) (us ws : List Write) → SameWrites (u ∷ us) ws → (w : Write) × Among w ws × (w.record_number ≡ u.record_number)
same_first u us [] same = absurd same
same_first u us (w ∷ ws) same = (w, inl refl, same.0)

has_entry : (t rid : ℕ) (value : Option (List ℕ)) (s s' : SetsView) (before log : List Logged) → SameSets s s' → s.writes ≡ written_version rid 0 0 value ∷ [] → log ≡ before ++ commit_of (writing t) s'.reads s'.writes ∷ [] → HasEntry rid t log
has_entry t rid value s s' before log same written more =
    let first = same_first (written_version rid 0 0 value) [] s'.writes (subst (λ (us : List Write). SameWrites us s'.writes) written same.writes) in
    let entry : Logged = commit_of (writing t) s'.reads s'.writes in record {
      entry = entry;
      among = subst (λ (es : List Logged). Among entry es) (sym more) (among_end before entry);
      commit = refl;
      at = refl;
      write = first.0;
      writes = first.1;
      of_record = first.2;
    }

pub rewrites_at : (kept : State → Type 0) (records rid from wts place : ℕ) (value : Option (List ℕ)) (z : Size) (s s' : SetsView) (v x y w : View) → IfSome value (λ words. length words ≡ 32) → s.reads ≡ read_version rid from wts value ∷ [] → s.writes ≡ written_version rid 0 0 value ∷ [] → SameSets s s' → InstallsHeld z place s s' v x → (t : ℕ) → t ≡ v.published.write → validating.Decides kept records t s' x y → w.log ≡ y.log → validating.Works y w → w.work.linked ≡ s'.writes → Ends w.work → Rewrites kept records rid place v.published.write value v w
rewrites_at kept records rid from wts place value z s s' v x y w whole read written same installs t at decides log works linked ends =
    let entry = entry_again t rid from wts value s s' whole read written same in
    let before = linked_log z s s' rid place value v x installs written in
    let more : w.log ≡ v.log ++ commit_of (writing t) s'.reads s'.writes ∷ [] = log ∙ decides.log ∙ ap (λ es. es ++ commit_of (writing t) s'.reads s'.writes ∷ []) before in
    let then : w ≡ record (validating.worked x w.work w.seen) { log = w.log } =
    works.only ∙ ap (λ (u : View). validating.worked u w.work w.seen) decides.only ∙ ap (λ es. record (validating.worked x w.work w.seen) { log = es }) (sym log) in
    subst (λ (n : ℕ). Rewrites kept records rid place n value v w) at (record {
      links = subst (λ (n : ℕ). LinksOne rid place n v w) (sym at) (links_then z s s' rid place value v x installs written w then linked (grows_both x.seen y.seen w.seen decides.grows works.grows) ends);
      log = ap (λ es. map entry_of es) more ∙ map_push entry_of v.log (commit_of (writing t) s'.reads s'.writes) ∙ ap (λ e. map entry_of v.log ++ e ∷ []) entry;
      stood = stood_same kept records v.log (commit_of (writing t) s'.reads s'.writes) (rewriting t rid value) entry (subst (λ es. StoodAt kept records es (commit_of (writing t) s'.reads s'.writes)) before decides.stood);
      entered = has_entry t rid value s s' v.log w.log same written more;
    })

-- ---- what a conflict shows

read_is : (rid from wts : ℕ) (value : Option (List ℕ)) (s s' : SetsView) (at version : ℕ) → s.reads ≡ read_version rid from wts value ∷ [] → SameSets s s' → validating.HasRead at version s' → at ≡ rid
read_is rid from wts value s s' at version read same r =
    let among : Among r.read (read_version rid from wts value ∷ []) = subst (λ (ds : List Read). Among r.read ds) (same.reads ∙ read) r.among in
    elim among as (λ _. at ≡ rid) [ inl is ↦ sym (ap (λ (d : Read). d.record_number) is ∙ r.of_record) | inr none ↦ absurd none ]

same_record : (u : Write) (ws : List Write) (x : Write) → SameWrites (u ∷ []) ws → Among x ws → x.record_number ≡ u.record_number
same_record u [] x same among = absurd same
same_record u (w ∷ []) x same (inl is) = ap (λ (y : Write). y.record_number) (sym is) ∙ same.0
same_record u (w ∷ []) x same (inr none) = absurd none
same_record u (w ∷ y ∷ ys) x same among = absurd same.2

write_is : (rid : ℕ) (value : Option (List ℕ)) (s s' : SetsView) (at : ℕ) → s.writes ≡ written_version rid 0 0 value ∷ [] → SameSets s s' → validating.Writes at s' → at ≡ rid
write_is rid value s s' at written same w = sym w.of_record ∙ same_record (written_version rid 0 0 value) s'.writes w.write (subst (λ (us : List Write). SameWrites us s'.writes) written same.writes) w.among

touched_is : (rid from wts : ℕ) (value : Option (List ℕ)) (s s' : SetsView) (at : ℕ) → s.reads ≡ read_version rid from wts value ∷ [] → s.writes ≡ written_version rid 0 0 value ∷ [] → SameSets s s' → validating.Touches at s' → at ≡ rid
touched_is rid from wts value s s' at read written same (inl r) = read_is rid from wts value s s' at r.0 read same r.1
touched_is rid from wts value s s' at read written same (inr w) = write_is rid value s s' at written same w

shows_of : (rid from wts : ℕ) (value : Option (List ℕ)) (s s' : SetsView) (x y : View) (t : ℕ) (conflict : Conflict) → s.reads ≡ read_version rid from wts value ∷ [] → s.writes ≡ written_version rid 0 0 value ∷ [] → SameSets s s' → validating.Stands x y → x.number < x.size.seats → validating.IsShown t s' x y conflict → ShowsOf rid x.size x.number (others_in x) t conflict
shows_of rid from wts value s s' x y t (Pending at seen) read written same stands inside shown =
    let other = another_of x y seen stands inside shown.1 in
    ((touched_is rid from wts value s s' at read written same shown.2, shown.0), other)
shows_of rid from wts value s s' x y t (ReadLater at seen rts) read written same stands inside shown =
    let other = another_of x y rts stands inside shown.1 in
    ((write_is rid value s s' at written same shown.2, shown.3.met.path.early, shown.0), other)
shows_of rid from wts value s s' x y t (Overtaken at seen now) read written same stands inside shown =
    let other = another_of x y now stands inside shown.2 in
    ((read_is rid from wts value s s' at seen read same shown.3, shown.0, shown.1), other)

-- the one version that was read was found
read_found : (rid from wts : ℕ) (value : Option (List ℕ)) (s s' : SetsView) (t : ℕ) (v w : View) → s.reads ≡ read_version rid from wts value ∷ [] → SameSets s s' → Grows v.seen w.seen → WasFound t rid wts v.seen.loads → WereFound t s'.reads w.seen.loads
read_found rid from wts value s s' t v w read same grows found d among =
    elim (subst (λ (ds : List Read). Among d ds) (same.reads ∙ read) among) as (λ _. WasFound t d.record_number d.version w.seen.loads) [
      | inl is ↦ subst (λ (x : Read). WasFound t x.record_number x.version w.seen.loads) is (found_after t rid wts v.seen.loads w.seen.loads grows.loaded grows.loads found)
      | inr none ↦ absurd none
    ]

pub stopped_at : (rid from wts place : ℕ) (value : Option (List ℕ)) (z : Size) (s s' : SetsView) (v x w : View) (t : ℕ) (conflict : Conflict) → s.reads ≡ read_version rid from wts value ∷ [] → s.writes ≡ written_version rid 0 0 value ∷ [] → SameSets s s' → InstallsHeld z place s s' v x → t ≡ v.published.write → v.number < v.size.seats → validating.Stands x w → validating.Works x w → w.work.linked ≡ s'.writes → w.log ≡ x.log → Ends w.work → validating.IsShown t s' x w conflict → WasFound v.published.write rid wts v.seen.loads → IsStopped rid place v.published.write v w conflict
stopped_at rid from wts place value z s s' v x w t conflict read written same installs at inside stands works linked log ends shown found =
    let before = linked_log z s s' rid place value v x installs written in
    let then : w ≡ record (validating.worked x w.work w.seen) { log = w.log } = works.only ∙ ap (λ es. record (validating.worked x w.work w.seen) { log = es }) (sym log) in
    let number : x.number ≡ v.number = ap (λ (y : View). y.number) installs.only in
    let size : x.size ≡ v.size = ap (λ (y : View). y.size) installs.only in
    let within : x.number < x.size.seats = rw (number, size) inside in
    let were = read_found rid from wts value s s' t v w read same (grows_both v.seen x.seen w.seen (linked_grows _ _ _ installs.puts.linked) works.grows) (subst (λ (n : ℕ). WasFound n rid wts v.seen.loads) (sym at) found) in
    record {
      links = links_then z s s' rid place value v x installs written w then linked works.grows ends;
      log = log ∙ before;
      shown = subst (λ (n : ℕ). ShowsOf rid v.size v.number (others_in v) n conflict) at
          (subst (λ (y : View). ShowsOf rid y.size y.number (others_in y) t conflict) installs.only (shows_of rid from wts value s s' x w t conflict read written same stands within shown));
      loaded = loaded_before v.published.write v x w conflict (linked_grows _ _ _ installs.puts.linked) (subst (λ (n : ℕ). IsLoadedIn n conflict x w) at (shown_loaded t s' x w conflict were shown));
    }

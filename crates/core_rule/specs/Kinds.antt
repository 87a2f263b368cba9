-- The kinds of step. A kind is data: its word, what it does there, when it is allowed, and the view and the world after it.
use Rattle.std.specs.Prelude.{◌≡◌, ℕ, suc, ◌-◌, ◌<◌, ◌≤◌, min, max, true, false, ◌==◌, ◌&&◌, nat_le, if◌then◌else◌, List, [], ◌∷◌, ◌++◌, length, Option, Some, None, IsSome}
use Rattle.word_layout.specs.Name.{Name, published_write, published_read, min_write, min_read, head, lock, floor, status, wts, rts, next as next_word, cell}
use Rattle.word_layout.specs.Size.{places}
use Rattle.word_layout.specs.Limits.{cells_of_value}
use Rattle.stamp_base.specs.Limits.{end_of_stamps, greatest_clock}
use Rattle.stamp_base.specs.Stamp.{stamp_of, clock_of, bound_of_clock}
use Rattle.plain_data.specs.State.{State}
use Rattle.core_rule.specs.Status.{status_word}
use Rattle.core_rule.specs.declared.status.Status.TheVariants.{Pending}
use Rattle.core_rule.specs.Stamps.{adopted}
use Rattle.core_rule.specs.View.{View, resting, writing, Scan, no_scan, Splitting, Fill, Aim, links, checks, Joint, Stand, Look, blank, stamped, shown, still, marks, stands, Read, Write, Work, no_work, forgotten, no_front, at_front, locked, above_floor, seeks, passes, found, floored, cut_off, freeing, no_item, collects}
use Rattle.core_rule.specs.Views.{Has, Among, AllIn, IsAlone}
use Rattle.core_rule.specs.Memory.{Memory}
use Rattle.core_rule.specs.World.{World, free, held, marked, linked, at_number, behind, up_to, from_behind, cut_from, all_but_first}
use Rattle.core_rule.specs.Ways.{Way, loads, meets, looks_for, stores, raises_to, exchanges, swaps, told, written, seen_after}
use Rattle.core_rule.specs.Offers.{made_of, offered_write, offered_read, MayOffer, HasOffered, IsSettled}
use Rattle.core_rule.specs.Searching.{limit_of, IsPassed, IsLate, stamp_seen, ends, AsksStatus, moved, Rests, Ends, read_place, read_cells, more_read, IsLoading, write_of, FitsPlace, IsNotLinked, Begins, IsFinal, reads_with, finished_with, IsWhole, IsNotRead, IsWholeFill, shown_at, OthersPassed, counted_more, counted_one, counted_cut}
use Rattle.core_rule.specs.Deciding.{stamp_in, commit_of, snapshot_of, AreReads, IsFitting, IsUndecided}
use Rattle.core_rule.specs.Collecting.{HasEntry, rests_at}
use Rattle.core_rule.specs.Holding.{filled_place, filled_cells, reset_fill, more_cells, without, without_fill, is_usable, IsFilling}

pub data Kind : Type 0 where
  -- seat 0 stores its own published words as those of the next seat
  offer_write_word : Kind
  offer_read_word : Kind
  -- publish write stamp: a stamp drawn at this clock; the bound of a seat with nothing in flight; end_of_stamps
  publish_stamp : (clock : ℕ) → Kind
  publish_idle : Kind
  retire_write : Kind
  -- publish read stamp: one less than the `min_wts` loaded; end_of_stamps
  publish_bound : Kind
  retire_read : Kind
  -- load a published word: to advance the own clock to that of another seat; the own word, to
  -- hear a stamp; for a minimum
  adopt_clock : (seat : ℕ) → Kind
  hear : (stamp : ℕ) → Kind
  scan_writes : (seat : ℕ) → Kind
  scan_reads : (seat : ℕ) → Kind
  -- load a minimum word
  load_min_write : Kind
  load_min_read : Kind
  -- raise a minimum
  raise_min_write : Kind
  raise_min_read : Kind
  -- take a free place, or meet it taken
  take : (place : ℕ) → Kind
  -- look at a place: meet it not free, or free
  look_at : (place : ℕ) → Kind
  -- fill a held place: its write stamp; its read stamp with 0 and its next cell, where the fill in work is; or meet that cell,
  -- where it may show this word already
  fill_stamp : (place stamp : ℕ) → Kind
  fill_reset : Kind
  fill_cell : (word : ℕ) → Kind
  meet_cell : (word : ℕ) → Kind
  -- give a held place back
  give : (place : ℕ) → Kind
  -- a search begins at the head of a record's list; goes on from a place; loads the write stamp and the status there
  load_head : (aim : Aim) (record_number : ℕ) → Kind
  load_next : (stand : Stand) (look : Look) → Kind
  load_stamp : (stand : Stand) → Kind
  load_status : (stand : Stand) (stamp : ℕ) → Kind
  -- load the next cell of the version that was found last
  load_cell : Kind
  -- mark what is filled as a pending version of a record
  mark : (record_number : ℕ) (fill : Fill) → Kind
  -- store in its own link the place below; and link it by an exchange on the head of the list, or on the link of the place above
  point : (stand : Stand) (joint : Joint) (stamp : ℕ) → Kind
  link_head : (stand : Stand) (joint : Joint) (stamp : ℕ) → Kind
  link_next : (stand : Stand) (joint : Joint) (above stamp : ℕ) → Kind
  -- raise the read stamp of a version that was read; load that of the version that a write overwrites
  raise_read_stamp : (read : Read) → Kind
  load_read_stamp : (stand : Stand) (write : Write) (stamp status : ℕ) → Kind
  -- decide to commit: at the last check; or, where nothing is written, at a load of the own stamp
  decide_by_check : (stand : Stand) (write : Write) (stamp status : ℕ) → Kind
  decide_bare : Kind
  -- store the last status of a linked version
  store_status : (write : Write) → Kind
  -- the entry of a snapshot with these reads
  finish : (reads : List Read) → Kind
  -- take the lock of a record to collect below a version of it, or meet it taken; load the floor under it
  take_lock : (record_number stamp : ℕ) → Kind
  load_floor : (record_number stamp : ℕ) → Kind
  -- the search for the version: it begins at the head, loads the write stamp where it stands, goes on
  seek_head : (record_number stamp : ℕ) → Kind
  seek_stamp : (record_number stamp place under : ℕ) → Kind
  seek_next : (record_number stamp place above : ℕ) → Kind
  -- raise the floor to the version, cut off what is older, unlock; unlock where the version is below the floor
  raise_floor : (record_number stamp place : ℕ) → Kind
  cut : (record_number stamp place : ℕ) → Kind
  unlock : (record_number stamp to : ℕ) → Kind
  drop : (record_number stamp : ℕ) → Kind
  -- load the link of the next place that was cut off; free the place
  follow : (record_number stamp to : ℕ) → Kind
  free_place : (record_number stamp to place : ℕ) → Kind
  -- a seat that is alone looks at the first version of a list: its place, stamp, status, and whether there is another
  front_head : (record_number : ℕ) → Kind
  front_stamp : (record_number place : ℕ) → Kind
  front_status : (record_number place stamp : ℕ) → Kind
  front_next : (record_number place stamp state : ℕ) → Kind

-- one less than what was loaded
abbrev pub bound_of : Option ℕ → ℕ
bound_of (Some n) = n - 1
bound_of None = 0

abbrev pub name : Kind → View → Name
name offer_write_word v = published_write (made_of v.splitting)
name offer_read_word v = published_read (made_of v.splitting)
name (publish_stamp clock) v = published_write v.number
name publish_idle v = published_write v.number
name retire_write v = published_write v.number
name publish_bound v = published_read v.number
name retire_read v = published_read v.number
name (adopt_clock seat) v = published_write seat
name (hear stamp) v = published_write v.number
name (scan_writes seat) v = published_write seat
name (scan_reads seat) v = published_read seat
name load_min_write v = min_write
name load_min_read v = min_read
name raise_min_write v = min_write
name raise_min_read v = min_read
name (take place) v = status place
name (look_at place) v = status place
name (fill_stamp place stamp) v = wts place
name fill_reset v = rts (filled_place v.places.fills)
name (fill_cell word) v = cell (filled_place v.places.fills) (filled_cells v.places.fills)
name (meet_cell word) v = cell (filled_place v.places.fills) (filled_cells v.places.fills)
name (give place) v = status place
name (load_head aim r) v = head r
name (load_next s look) v = next_word s.place
name (load_stamp s) v = wts s.place
name (load_status s w) v = status s.place
name load_cell v = cell (read_place v.work.reads) (read_cells v.work.reads)
name (mark r f) v = status f.place
name (point s j w) v = next_word j.write.place
name (link_head s j w) v = head s.record_number
name (link_next s j above w) v = next_word above
name (raise_read_stamp d) v = rts d.place
name (load_read_stamp s u w n) v = rts s.place
name (decide_by_check s u w n) v = rts s.place
name decide_bare v = published_write v.number
name (store_status u) v = status u.place
name (finish ds) v = published_read v.number
name (take_lock r c) v = lock r
name (load_floor r c) v = floor r
name (seek_head r c) v = head r
name (seek_stamp r c p u) v = wts p
name (seek_next r c p w) v = next_word p
name (raise_floor r c p) v = floor r
name (cut r c p) v = next_word p
name (unlock r c to) v = lock r
name (drop r c) v = lock r
name (follow r c to) v = next_word (to - 1)
name (free_place r c to p) v = status p
name (front_head r) v = head r
name (front_stamp r p) v = wts p
name (front_status r p w) v = status p
name (front_next r p w x) v = next_word p

abbrev pub way : Kind → View → Way
way offer_write_word v = stores v.published.write
way offer_read_word v = stores v.published.read
way (publish_stamp clock) v = stores (stamp_of clock v.number)
way publish_idle v = stores (bound_of_clock v.clock.clock)
way retire_write v = stores end_of_stamps
way publish_bound v = stores (bound_of v.loaded_bound)
way retire_read v = stores end_of_stamps
way raise_min_write v = raises_to v.raises.writes.least
way raise_min_read v = raises_to v.raises.reads.least
way (take place) v = exchanges 0 1
way (look_at place) v = looks_for 0
way (fill_stamp place stamp) v = stores stamp
way fill_reset v = stores 0
way (fill_cell word) v = stores word
way (meet_cell word) v = meets
way (give place) v = stores 0
way (mark r f) v = stores (status_word Pending)
way (point s j w) v = stores (suc s.place)
way (link_head s j w) v = exchanges (suc s.place) (suc j.write.place)
way (link_next s j above w) v = exchanges (suc s.place) (suc j.write.place)
way (raise_read_stamp d) v = raises_to (stamp_in v.flight)
way (store_status u) v = stores (shown_at v.work.decided u.cells)
way (take_lock r c) v = exchanges 0 (suc v.number)
way (raise_floor r c p) v = stores c
way (cut r c p) v = swaps 0
way (unlock r c to) v = stores 0
way (drop r c) v = stores 0
way (free_place r c to p) v = stores 0
way _ v = loads

abbrev pub scanned : ℕ → Scan → Scan
scanned n s = record { next = suc s.next; least = min s.least n }

-- at seat 0 it begins anew
abbrev pub scan_from : ℕ → Scan → Scan
scan_from seat s = if seat == 0 then no_scan else s

-- what is in flight after an exchange that found the number n: the version is linked, or the search stands where n says
abbrev pub linked_after : Stand → Joint → (stamp found : ℕ) → Work → Work
linked_after s j w n work = record work {
  search = (if n == suc s.place then still else stands record s { aim = links record j { least = suc w; stored = false }; place = n - 1 } blank);
  linked = (if n == suc s.place then work.linked ++ j.write ∷ [] else work.linked);
}

-- the view after, but for what is the same for all kinds, from the number told
abbrev pub next : Kind → View → ℕ → View
next offer_write_word v n = record v { counts = forgotten v.counts.in_reserved; tops = []; front = no_front }
next (publish_stamp clock) v n = record v {
  clock = record v.clock {
    clock = clock;
    drawn = stamp_of clock v.number;
    known = v.clock.known ++ stamp_of clock v.number ∷ [];
  };
  published = record v.published { write = stamp_of clock v.number };
  flight = writing (stamp_of clock v.number);
  work = no_work;
}
next publish_idle v n =
    record v { published = record v.published { write = bound_of_clock v.clock.clock }; flight = resting; work = no_work }
next retire_write v n = record v { published = record v.published { write = end_of_stamps }; flight = resting; work = no_work }
next publish_bound v n = record v {
  published = record v.published { read = bound_of v.loaded_bound };
  flight = resting;
  work = no_work;
  loaded_bound = None;
}
next retire_read v n = record v {
  published = record v.published { read = end_of_stamps };
  flight = resting;
  work = no_work;
  loaded_bound = None;
}
next (adopt_clock seat) v n = record v { clock = record v.clock { clock = adopted v.clock.clock n } }
next (hear stamp) v n = record v {
  clock = record v.clock { clock = max v.clock.clock (clock_of stamp); known = v.clock.known ++ stamp ∷ [] };
}
next (scan_writes seat) v n =
    record v { raises = record v.raises { writes = scanned n (scan_from seat v.raises.writes) } }
next (scan_reads seat) v n =
    record v { raises = record v.raises { reads = scanned n (scan_from seat v.raises.reads) } }
next load_min_write v n =
    record v { clock = record v.clock { met = max v.clock.met n }; loaded_bound = Some n }
next raise_min_write v n = record v {
  clock = record v.clock { met = max v.clock.met (max n v.raises.writes.least) };
  raises = record v.raises { writes = no_scan };
}
next raise_min_read v n = record v { raises = record v.raises { reads = no_scan }; reached = max n v.raises.reads.least }
next (take place) v n = record v {
  places = record v.places {
    held = (if n == 0 then place ∷ v.places.held else v.places.held);
    last_pool = (if (n == 0) && is_usable v.size place then Some place else v.places.last_pool);
  };
}
next (fill_stamp place stamp) v n = record v {
  places = record v.places {
    fills = record { place = place; stamp = stamp; reset = false; cells = [] } ∷ without_fill place v.places.fills;
  };
}
next fill_reset v n = record v { places = record v.places { fills = reset_fill v.places.fills } }
next (fill_cell word) v n = record v { places = record v.places { fills = more_cells word v.places.fills } }
next (meet_cell word) v n =
    record v { places = record v.places { fills = (if n == word then more_cells word v.places.fills else v.places.fills) } }
next (give place) v n = record v {
  places = record v.places { held = without place v.places.held; fills = without_fill place v.places.fills };
  seen = record v.seen { since = length v.seen.lost };
}
next (load_head aim r) v n = record v {
  work = record v.work { search = stands record { aim = aim; record_number = r; place = n - 1; under = end_of_stamps } blank };
}
next (load_next s look) v n = record v {
  work = record v.work { search = stands record s { aim = moved s.aim s.place; place = n - 1; under = stamp_seen look } blank };
}
next (load_stamp s) v n = record v { work = record v.work { search = stands s (stamped n) } }
next (load_status s w) v n = record v {
  work = record v.work {
    search = (if ends s.aim w n then still else stands s (shown w n));
    reads = (if ends s.aim w n then reads_with s.aim s w n v.work.reads else v.work.reads);
    finished = (if ends s.aim w n then finished_with s.aim v.work.finished else v.work.finished);
  };
}
next load_cell v n = record v { work = record v.work { reads = more_read n v.work.reads } }
next (mark r f) v n = record v {
  places = record v.places { held = without f.place v.places.held; fills = without_fill f.place v.places.fills };
  work = record v.work { search = marks (write_of r f) };
}
next (point s j w) v n = record v {
  work = record v.work { search = stands record s { aim = links record j { stored = true } } (stamped w) };
}
next (link_head s j w) v n = record v {
  front = (if n == suc s.place then no_front else v.front);
  work = linked_after s j w n v.work;
  counts = (if n == suc s.place then counted_more v.size s.record_number j.write.stamp j.write.place v.counts else v.counts);
  tops = (if n == suc s.place then record { record_number = s.record_number; stamp = j.write.stamp } ∷ v.tops else v.tops);
}
next (link_next s j above w) v n = record v {
  front = (if n == suc s.place then no_front else v.front);
  work = linked_after s j w n v.work;
  counts = (if n == suc s.place then counted_more v.size s.record_number j.write.stamp j.write.place v.counts else v.counts);
  tops = (if n == suc s.place then record { record_number = s.record_number; stamp = j.write.stamp } ∷ v.tops else v.tops);
}
next (raise_read_stamp d) v n = record v { work = record v.work { raised = v.work.raised ++ d ∷ [] } }
next (load_read_stamp s u w state) v n = record v {
  work = record v.work {
    search = still;
    passed = (if nat_le n (stamp_in v.flight) then u.record_number ∷ v.work.passed else v.work.passed);
  };
}
next (decide_by_check s u w state) v n = record v {
  work = record v.work {
    search = still;
    passed = (if nat_le n (stamp_in v.flight) then u.record_number ∷ v.work.passed else v.work.passed);
    decided = nat_le n (stamp_in v.flight);
  };
  log = (if nat_le n (stamp_in v.flight) then v.log ++ commit_of v.flight v.work.finished v.work.linked ∷ [] else v.log);
}
next decide_bare v n = record v {
  work = record v.work { search = still; decided = true };
  log = v.log ++ commit_of v.flight v.work.finished v.work.linked ∷ [];
}
next (store_status u) v n = record v { work = record v.work { search = still; settled = u.record_number ∷ v.work.settled } }
next (finish ds) v n = record v { work = no_work; log = v.log ++ snapshot_of v.published.read ds ∷ [] }
next (take_lock r c) v n = record v { work = record v.work { item = (if n == 0 then collects r c locked else no_item) } }
next (load_floor r c) v n = record v { work = record v.work { item = collects r c (if nat_le n c then above_floor else locked) } }
next (seek_head r c) v n = record v { work = record v.work { item = collects r c (seeks (n - 1) end_of_stamps) } }
next (seek_stamp r c p u) v n = record v { work = record v.work { item = collects r c (if n == c then found p else passes p n) } }
next (seek_next r c p w) v n = record v { work = record v.work { item = collects r c (seeks (n - 1) w) } }
next (raise_floor r c p) v n = record v { work = record v.work { item = collects r c (floored p) } }
next (cut r c p) v n = record v {
  work = record v.work { item = collects r c (cut_off n) };
  counts = counted_cut v.size r c p v.tops v.counts;
  gone = record v.gone { cuts = v.gone.cuts ++ record { record_number = r; stamp = c; place = p; to = n } ∷ []; left = c };
}
next (unlock r c to) v n = record v { work = record v.work { item = rests_at r c to } }
next (drop r c) v n = record v { work = record v.work { item = no_item } }
next (follow r c to) v n = record v { work = record v.work { item = collects r c (freeing n (Some (to - 1))) } }
next (free_place r c to p) v n = record v {
  work = record v.work { item = rests_at r c to };
  gone = record v.gone { freed = v.gone.freed ++ p ∷ []; left = v.gone.left - 1 };
  seen = record v.seen { since = length v.seen.lost };
}
next (front_head r) v n = record v { front = at_front r (n - 1) blank }
next (front_stamp r p) v n = record v { tops = record { record_number = r; stamp = n } ∷ v.tops; front = at_front r p (stamped n) }
next (front_status r p w) v n = record v { front = at_front r p (shown w n) }
next (front_next r p w x) v n = record v { counts = (if n == 0 then counted_one v.size r p v.counts else v.counts); front = no_front }
next _ v n = v

abbrev pub splitting_after : Kind → Splitting → Splitting
splitting_after offer_write_word s = offered_write s
splitting_after offer_read_word s = offered_read s
splitting_after _ s = s

-- the view after, from the number found
abbrev pub after : Kind → View → ℕ → View
after k v n = record (next k v (told (way k v) n)) {
  splitting = splitting_after k v.splitting;
  seen = seen_after (way k v) (name k v) (told (way k v) n) (next k v (told (way k v) n)).seen;
}

-- the world after, from the number found
abbrev pub turned : Kind → View → ℕ → World → World
turned (publish_stamp clock) v n g = record g { drawn = at_number g.drawn v.number (stamp_of clock v.number) }
turned (take place) v n g =
    record g { owner = at_number g.owner place (if n == 0 then held v.number else g.owner place) }
turned (give place) v n g = record g { owner = at_number g.owner place free }
turned (mark r f) v n g = record g { owner = at_number g.owner f.place (marked v.number) }
turned (link_head s j w) v n g = record g {
  owner = (if n == suc s.place then at_number g.owner j.write.place (linked s.record_number) else g.owner);
  lists = (if n == suc s.place then at_number g.lists s.record_number (j.write.place ∷ g.lists s.record_number) else g.lists);
}
turned (link_next s j above w) v n g = record g {
  owner = (if n == suc s.place then at_number g.owner j.write.place (linked s.record_number) else g.owner);
  lists = (if n == suc s.place then at_number g.lists s.record_number (behind above j.write.place (g.lists s.record_number)) else g.lists);
}
turned (cut r c p) v n g = record g {
  owner = cut_from v.number (from_behind p (g.lists r)) g.owner;
  lists = at_number g.lists r (up_to p (g.lists r));
  chains = at_number g.chains v.number (from_behind p (g.lists r));
}
turned (free_place r c to p) v n g = record g {
  owner = at_number g.owner p free;
  chains = at_number g.chains v.number (all_but_first (g.chains v.number));
}
turned _ v n g = g

-- the memory after
abbrev pub changed : Kind → View → Memory → Memory
changed k v m = written (way k v) (name k v) m

-- whether the making of seats allows it
abbrev pub Fits : Kind → Splitting → Type 0
Fits offer_write_word s = MayOffer s
Fits offer_read_word s = HasOffered s
Fits _ s = IsSettled s

-- whether the rest of the own view allows it; `kept` is what a commit entry has to fit
abbrev pub Can : (State → Type 0) → Kind → View → Type 0
Can kept offer_write_word v = made_of v.splitting < v.size.seats
Can kept (publish_stamp clock) v = (v.clock.clock < clock) × (clock ≤ greatest_clock) × (v.published.write < end_of_stamps) × Ends v.work
Can kept publish_idle v = (v.published.write < bound_of_clock v.clock.clock) × Ends v.work
Can kept retire_write v = Ends v.work
Can kept publish_bound v = IsSome v.loaded_bound × Ends v.work
Can kept retire_read v = Ends v.work
Can kept (hear stamp) v = clock_of stamp ≤ greatest_clock
Can kept (scan_writes seat) v = (scan_from seat v.raises.writes).next ≡ seat
Can kept (scan_reads seat) v = (scan_from seat v.raises.reads).next ≡ seat
Can kept load_min_write v = v.published.read < end_of_stamps
Can kept raise_min_write v = v.raises.writes.next ≡ v.size.seats
Can kept raise_min_read v = (v.raises.reads.next ≡ v.size.seats) × (v.published.read < end_of_stamps)
Can kept (take place) v = place < places v.size
Can kept (look_at place) v = place < places v.size
Can kept (fill_stamp place stamp) v = Has place v.places.held
Can kept fill_reset v = IsFilling v.places.fills
Can kept (fill_cell word) v = IsFilling v.places.fills × (filled_cells v.places.fills < cells_of_value) × (word < 18446744073709551616)
Can kept (meet_cell word) v = IsFilling v.places.fills × (filled_cells v.places.fills < cells_of_value)
Can kept (give place) v = Has place v.places.held
Can kept (load_head aim r) v = (r < v.size.records) × (v.published.read < end_of_stamps) × Begins aim r v.work
Can kept (load_next s look) v = (v.work.search ≡ stands s look) × IsPassed (limit_of v.flight v.published.read) look × IsLate s.aim look
Can kept (load_stamp s) v = v.work.search ≡ stands s blank
Can kept (load_status s w) v = (v.work.search ≡ stands s (stamped w)) × (w < limit_of v.flight v.published.read) × AsksStatus s.aim
Can kept load_cell v = IsLoading v.work.reads × (read_cells v.work.reads < cells_of_value)
Can kept (mark r f) v =
    Among f v.places.fills × (v.flight ≡ writing f.stamp) × (f.reset ≡ true) × FitsPlace v.size r f.place × Rests v.work.search × IsNotLinked r v.work.linked × IsWholeFill f × (v.work.decided ≡ false)
Can kept (point s j w) v = (v.work.search ≡ stands s (stamped w)) × (s.aim ≡ links j) × (w < j.write.stamp)
Can kept (link_head s j w) v = (v.work.search ≡ stands s (stamped w)) × (s.aim ≡ links j) × (j.stored ≡ true) × (j.above ≡ None)
Can kept (link_next s j above w) v = (v.work.search ≡ stands s (stamped w)) × (s.aim ≡ links j) × (j.stored ≡ true) × (j.above ≡ Some above)
Can kept (raise_read_stamp d) v =
    (v.flight ≡ writing (stamp_in v.flight)) × Among d v.work.reads × IsWhole d × IsNotRead d.record_number v.work.raised × (v.work.decided ≡ false)
Can kept (load_read_stamp s u w n) v = (v.work.search ≡ stands s (shown w n)) × (s.aim ≡ checks u) × IsFinal n
Can kept (decide_by_check s u w n) v =
    (v.work.search ≡ stands s (shown w n)) × (s.aim ≡ checks u) × IsFinal n × AllIn v.work.raised v.work.finished × OthersPassed u.record_number v.work.linked v.work.passed × IsUndecided v.work × IsFitting kept v.size.records (commit_of v.flight v.work.finished v.work.linked)
Can kept decide_bare v =
    (v.flight ≡ writing (stamp_in v.flight)) × Rests v.work.search × AllIn v.work.raised v.work.finished × (v.work.linked ≡ []) × IsUndecided v.work × IsFitting kept v.size.records (commit_of v.flight v.work.finished [])
Can kept (store_status u) v = Rests v.work.search × Among u v.work.linked × (Has u.record_number v.work.settled → ⊥)
Can kept (finish ds) v = (v.flight ≡ resting) × (v.published.read < end_of_stamps) × AreReads ds v.work.reads × (v.work.item ≡ no_item)
Can kept (take_lock r c) v = (r < v.size.records) × (v.work.item ≡ no_item) × (c ≤ v.reached) × HasEntry r c v.log
Can kept (load_floor r c) v = v.work.item ≡ collects r c locked
Can kept (seek_head r c) v = v.work.item ≡ collects r c above_floor
Can kept (seek_stamp r c p u) v = v.work.item ≡ collects r c (seeks p u)
Can kept (seek_next r c p w) v = v.work.item ≡ collects r c (passes p w)
Can kept (raise_floor r c p) v = v.work.item ≡ collects r c (found p)
Can kept (cut r c p) v = v.work.item ≡ collects r c (floored p)
Can kept (unlock r c to) v = v.work.item ≡ collects r c (cut_off to)
Can kept (drop r c) v = v.work.item ≡ collects r c locked
Can kept (follow r c to) v = (v.work.item ≡ collects r c (freeing to None)) × (0 < to)
Can kept (free_place r c to p) v = v.work.item ≡ collects r c (freeing to (Some p))
Can kept (front_head r) v = (r < v.size.records) × IsAlone v
Can kept (front_stamp r p) v = v.front ≡ at_front r p blank
Can kept (front_status r p w) v = v.front ≡ at_front r p (stamped w)
Can kept (front_next r p w x) v = v.front ≡ at_front r p (shown w x)
Can kept _ v = Unit {0}

pub record Allowed (kept : State → Type 0) (k : Kind) (v : View) : Type 0 where
  pub is_open : v.spent ≡ false
  pub fits : Fits k v.splitting
  pub can : Can kept k v

-- Each step, and each making and taking in of a seat, keeps the rule: one line for each part.
use Rattle.std.proofs.Common.{ℕ, List, [], ◌∷◌, ◌++◌, set, refl, arith}
use Rattle.plain_data.specs.State.{State, empty_state}
use Rattle.word_layout.specs.Size.{Size, IsSize}
use Rattle.core_rule.specs.View.{View, first_view}
use Rattle.core_rule.specs.Memory.{Memory, start, stored}
use Rattle.core_rule.specs.World.{World, first_world}
use Rattle.core_rule.specs.Kinds.{Kind, name, after, turned, changed}
use Rattle.core_rule.specs.Hands.{split_left, split_right, joined_view}
use Rattle.core_rule.specs.Rule.{Rule, head_words, status_words, floor_words}
use Rattle.word_layout.specs.Name.{min_write, min_read}
use Rattle.core_rule.specs.Parts.Bounds.{BoundOk}
use Rattle.core_rule.specs.Parts.Filled.{FilledOk}
use Rattle.core_rule.specs.Parts.Searches.{SearchesOk}
use Rattle.core_rule.specs.Parts.Reads.{ReadsOk}
use Rattle.core_rule.specs.Parts.Linking.{LinkingOk}
use Rattle.core_rule.specs.Parts.Counts.{CountsOk}
use Rattle.core_rule.specs.Parts.Txns.{TxnOk}
use Rattle.core_rule.specs.Parts.Items.{ItemOk}
use Rattle.core_rule.specs.Parts.Fronts.{FrontOk}
use Rattle.core_rule.specs.Parts.Lefts.{LeftOk}
use Rattle.core_rule.specs.Parts.Tops.{TopOk}
use Rattle.core_rule.proofs.EachView.{Each-one, joined}
use Rattle.core_rule.proofs.Step.{Step}
use Rattle.core_rule.proofs.Making.{Split, Join, split_each, join_each}
use Rattle.core_rule.proofs.Parts.SeatsKept.{seats_kept, seats_split, seats_joined, seats_start}
use Rattle.core_rule.proofs.Parts.PublishedKept.{published_kept, published_split, published_joined, published_start}
use Rattle.core_rule.proofs.Parts.ClosedKept.{closed_kept, closed_split, closed_joined, closed_start}
use Rattle.core_rule.proofs.Parts.SplittingKept.{splittings_kept, splittings_split, splittings_joined, splittings_start}
use Rattle.core_rule.proofs.Parts.ClocksKept.{clocks_kept, clocks_split, clocks_joined, clocks_start}
use Rattle.core_rule.proofs.Parts.MinimaKept.{minima_kept, minima_split, minima_joined, minima_start}
use Rattle.core_rule.proofs.Parts.ScansKept.{scans_kept, scans_split, scans_joined, scans_start}
use Rattle.core_rule.proofs.Parts.BoundsKept.{bounds_kept}
use Rattle.core_rule.proofs.Parts.PlacesKept.{places_kept, places_split, places_joined, places_start}
use Rattle.core_rule.proofs.Parts.FilledKept.{filled_kept}
use Rattle.core_rule.proofs.Parts.ListsKept.{lists_kept, lists_split, lists_joined, lists_start}
use Rattle.core_rule.proofs.Parts.SearchesKept.{searches_kept}
use Rattle.core_rule.proofs.Parts.ReadsKept.{reads_kept, none}
use Rattle.core_rule.proofs.Parts.LinkingKept.{linking_kept}
use Rattle.core_rule.proofs.Parts.VersionsKept.{versions_kept, versions_split, versions_joined, versions_start}
use Rattle.core_rule.proofs.Parts.CountsKept.{counts_kept, counts_start, nothing}
use Rattle.core_rule.proofs.Parts.TxnsKept.{txns_kept, rests}
use Rattle.core_rule.proofs.Parts.CellsKept.{word_cells_kept, word_cells_split, word_cells_joined, word_cells_start}
use Rattle.core_rule.proofs.Parts.JoinedKept.{joined_kept, joined_split, joined_joined}
use Rattle.core_rule.proofs.Parts.ReadStampsKept.{read_stamps_kept, read_stamps_split, read_stamps_joined, read_stamps_start}
use Rattle.core_rule.proofs.Parts.AnchoredKept.{anchored_kept, anchored_split, anchored_joined, anchored_start}
use Rattle.core_rule.proofs.Parts.ReachKept.{reach_kept, reach_split, reach_joined, reach_start}
use Rattle.core_rule.proofs.Parts.ValuesKept.{values_kept, values_split, values_joined, values_start}
use Rattle.core_rule.proofs.Parts.EnteredKept.{entered_kept, entered_split, entered_joined}
use Rattle.core_rule.proofs.Parts.HistoryKept.{history_kept, history_split, history_joined, history_start}
use Rattle.core_rule.proofs.Parts.LocksKept.{locks_kept, locks_split, locks_joined, locks_start}
use Rattle.core_rule.proofs.Parts.ItemsKept.{items_kept}
use Rattle.core_rule.proofs.Parts.ChainsKept.{chains_kept, chains_split, chains_joined, chains_start}
use Rattle.core_rule.proofs.Parts.FrontsKept.{fronts_kept}
use Rattle.core_rule.proofs.Parts.LeftsKept.{lefts_kept}
use Rattle.core_rule.proofs.Parts.TopsKept.{tops_kept}
use Rattle.core_rule.proofs.Parts.MarkedKept.{marked_kept, marked_split, marked_joined, marked_start}
use Rattle.core_rule.proofs.Parts.MetKept.{met_kept, met_split, met_joined, met_start}
use Rattle.core_rule.proofs.Parts.KeepingKept.{keeping_kept, keeping_split, keeping_joined, keeping_start}

module _ (kept : State → Type 0) (z : Size) (g : World) (m : Memory) (vs : List View) (id : ℕ) (v : View) where
  pub rule_kept : (k : Kind) → Step kept z g m vs id v k → Rule kept z (turned k v (m (name k v)) g) (changed k v m) (set vs id (after k v (m (name k v))))
  rule_kept k s = record {
    begins_kept = s.rule.begins_kept;
    sized = s.rule.sized;
    seats = seats_kept kept z g m vs id v k s;
    published = published_kept kept z g m vs id v k s;
    closed = closed_kept kept z g m vs id v k s;
    splittings = splittings_kept kept z g m vs id v k s;
    clocks = clocks_kept kept z g m vs id v k s;
    minima = minima_kept kept z g m vs id v k s;
    scans = scans_kept kept z g m vs id v k s;
    bounds = bounds_kept kept z g m vs id v k s;
    places = places_kept kept z g m vs id v k s;
    filled = filled_kept kept z g m vs id v k s;
    lists = lists_kept kept z g m vs id v k s;
    searches = searches_kept kept z g m vs id v k s;
    reads = reads_kept kept z g m vs id v k s;
    linking = linking_kept kept z g m vs id v k s;
    versions = versions_kept kept z g m vs id v k s;
    counts = counts_kept kept z g m vs id v k s;
    txns = txns_kept kept z g m vs id v k s;
    word_cells = word_cells_kept kept z g m vs id v k s;
    joined = joined_kept kept z g m vs id v k s;
    read_stamps = read_stamps_kept kept z g m vs id v k s;
    anchored = anchored_kept kept z g m vs id v k s;
    reach = reach_kept kept z g m vs id v k s;
    values = values_kept kept z g m vs id v k s;
    entered = entered_kept kept z g m vs id v k s;
    history = history_kept kept z g m vs id v k s;
    locks = locks_kept kept z g m vs id v k s;
    items = items_kept kept z g m vs id v k s;
    chains = chains_kept kept z g m vs id v k s;
    fronts = fronts_kept kept z g m vs id v k s;
    lefts = lefts_kept kept z g m vs id v k s;
    marked = marked_kept kept z g m vs id v k s;
    met = met_kept kept z g m vs id v k s;
    tops = tops_kept kept z g m vs id v k s;
    keeping = keeping_kept kept z g m vs id v k s;
  }

  pub rule_split : Split kept z g m vs id v → Rule kept z g m (set vs id (split_left v) ++ split_right v ∷ [])
  rule_split s = record {
    begins_kept = s.rule.begins_kept;
    sized = s.rule.sized;
    seats = seats_split kept z g m vs id v s;
    published = published_split kept z g m vs id v s;
    closed = closed_split kept z g m vs id v s;
    splittings = splittings_split kept z g m vs id v s;
    clocks = clocks_split kept z g m vs id v s;
    minima = minima_split kept z g m vs id v s;
    scans = scans_split kept z g m vs id v s;
    bounds = split_each s (BoundOk (m min_write)) s.rule.bounds (λ p. p) tt;
    places = places_split kept z g m vs id v s;
    filled = split_each s (FilledOk (stored m)) s.rule.filled (λ p. p) tt;
    lists = lists_split kept z g m vs id v s;
    searches = split_each s (SearchesOk z g.lists (stored m).stamps (status_words m)) s.rule.searches (λ p. tt) tt;
    reads = split_each s (ReadsOk z g.lists (stored m).stamps (stored m).cells (status_words m)) s.rule.reads (λ p. none kept z g m vs id v _ _) (none kept z g m vs id v _ _);
    linking = split_each s (LinkingOk z g.owner g.lists (stored m)) s.rule.linking (λ p. tt) tt;
    versions = versions_split kept z g m vs id v s;
    counts = split_each s (CountsOk z g.lists (stored m).stamps) s.rule.counts (λ p alone. nothing z g.lists (stored m).stamps) (λ alone. nothing z g.lists (stored m).stamps);
    txns = split_each s TxnOk s.rule.txns (λ p. rests _ refl refl refl refl refl refl) (rests _ refl refl refl refl refl refl);
    word_cells = word_cells_split kept z g m vs id v s;
    joined = joined_split kept z g m vs id v s;
    read_stamps = read_stamps_split kept z g m vs id v s;
    anchored = anchored_split kept z g m vs id v s;
    reach = reach_split kept z g m vs id v s;
    values = values_split kept z g m vs id v s;
    entered = entered_split kept z g m vs id v s;
    history = history_split kept z g m vs id v s;
    locks = locks_split kept z g m vs id v s;
    items = split_each s (ItemOk z g.lists (floor_words m) (stored m) (status_words m) (m min_read)) s.rule.items (λ p. record { reached = p.reached; item = tt }) (record { reached = (s.rule.items id v s.at s.is_open).reached; item = tt });
    chains = chains_split kept z g m vs id v s;
    fronts = split_each s (FrontOk z (head_words m)) s.rule.fronts (λ p. tt) tt;
    lefts = split_each s (LeftOk g.chains) s.rule.lefts (λ p f. absurd f) (λ f. absurd f);
    marked = marked_split kept z g m vs id v s;
    met = met_split kept z g m vs id v s;
    tops = split_each s (TopOk z (head_words m)) s.rule.tops (λ p alone. tt) (λ alone. tt);
    keeping = keeping_split kept z g m vs id v s;
  }

  pub rule_joined : (other : ℕ) (w : View) → Join kept z g m vs id other v w → Rule kept z g m (joined vs (joined_view v w) id other)
  rule_joined other w s = record {
    begins_kept = s.rule.begins_kept;
    sized = s.rule.sized;
    seats = seats_joined kept z g m vs id other v w s;
    published = published_joined kept z g m vs id other v w s;
    closed = closed_joined kept z g m vs id other v w s;
    splittings = splittings_joined kept z g m vs id other v w s;
    clocks = clocks_joined kept z g m vs id other v w s;
    minima = minima_joined kept z g m vs id other v w s;
    scans = scans_joined kept z g m vs id other v w s;
    bounds = join_each s (BoundOk (m min_write)) s.rule.bounds (s.rule.bounds id v s.at s.is_open);
    places = places_joined kept z g m vs id other v w s;
    filled = join_each s (FilledOk (stored m)) s.rule.filled (s.rule.filled id v s.at s.is_open);
    lists = lists_joined kept z g m vs id other v w s;
    searches = join_each s (SearchesOk z g.lists (stored m).stamps (status_words m)) s.rule.searches tt;
    reads = join_each s (ReadsOk z g.lists (stored m).stamps (stored m).cells (status_words m)) s.rule.reads (none kept z g m vs id v _ _);
    linking = join_each s (LinkingOk z g.owner g.lists (stored m)) s.rule.linking tt;
    versions = versions_joined kept z g m vs id other v w s;
    counts = join_each s (CountsOk z g.lists (stored m).stamps) s.rule.counts (λ alone. nothing z g.lists (stored m).stamps);
    txns = join_each s TxnOk s.rule.txns (rests _ refl refl refl refl refl refl);
    word_cells = word_cells_joined kept z g m vs id other v w s;
    joined = joined_joined kept z g m vs id other v w s;
    read_stamps = read_stamps_joined kept z g m vs id other v w s;
    anchored = anchored_joined kept z g m vs id other v w s;
    reach = reach_joined kept z g m vs id other v w s;
    values = values_joined kept z g m vs id other v w s;
    entered = entered_joined kept z g m vs id other v w s;
    history = history_joined kept z g m vs id other v w s;
    locks = locks_joined kept z g m vs id other v w s;
    items = join_each s (ItemOk z g.lists (floor_words m) (stored m) (status_words m) (m min_read)) s.rule.items (record { reached = (s.rule.items id v s.at s.is_open).reached; item = tt });
    chains = chains_joined kept z g m vs id other v w s;
    fronts = join_each s (FrontOk z (head_words m)) s.rule.fronts tt;
    lefts = join_each s (LeftOk g.chains) s.rule.lefts (λ f. absurd f);
    marked = marked_joined kept z g m vs id other v w s;
    met = met_joined kept z g m vs id other v w s;
    tops = join_each s (TopOk z (head_words m)) s.rule.tops (λ alone. tt);
    keeping = keeping_joined kept z g m vs id other v w s;
  }

pub rule_start : (kept : State → Type 0) (z : Size) → IsSize z → kept empty_state → Rule kept z (first_world z) (start z) (first_view z ∷ [])
rule_start kept z h k = record {
  begins_kept = k;
  sized = h;
  seats = seats_start z h.has_seat;
  published = published_start z h.has_seat;
  closed = closed_start z;
  splittings = splittings_start z;
  clocks = clocks_start z;
  minima = minima_start z;
  scans = scans_start z;
  bounds = Each-one _ (first_view z) tt;
  places = places_start z;
  filled = Each-one _ (first_view z) tt;
  lists = lists_start z h;
  searches = Each-one _ (first_view z) tt;
  reads = Each-one _ (first_view z) record { found_ok = λ d k. absurd k; raised_ok = λ d k. absurd k };
  linking = Each-one _ (first_view z) tt;
  versions = versions_start z h;
  counts = counts_start z h;
  txns = Each-one _ (first_view z) (rests _ refl refl refl refl refl refl);
  word_cells = word_cells_start z h;
  joined = Each-one _ (first_view z) record { within = tt; below = λ t e. tt };
  read_stamps = read_stamps_start z h;
  anchored = anchored_start z h;
  reach = reach_start z h;
  values = values_start z h;
  entered = Each-one _ (first_view z) record { commits = λ e l. absurd l; snapshots = λ e l. absurd l };
  history = history_start kept z h;
  locks = locks_start z h;
  items = Each-one _ (first_view z) record { reached = omega arith; item = tt };
  chains = chains_start z h;
  fronts = Each-one _ (first_view z) tt;
  lefts = Each-one _ (first_view z) (λ f. absurd f);
  marked = marked_start z h;
  met = met_start z h;
  tops = Each-one _ (first_view z) (λ alone. tt);
  keeping = keeping_start z h;
}

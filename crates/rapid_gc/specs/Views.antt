-- The view of a seat between the steps of a collection.
use Rattle.std.specs.Prelude.{◌≡◌}
use Rattle.core_rule.specs.View.{View, Item, no_item, Counted, Gone, Seen}

-- the view after steps that leave all but what is collected, what became of it, and what was seen
abbrev pub at_item : View → Item → Gone → Seen → View
at_item v item gone seen = record v { work = record v.work { item = item }; gone = gone; seen = seen }

-- steps came from one view to the other, which collects this
abbrev pub Comes : View → Item → View → Type 0
Comes v item w = w ≡ at_item v item w.gone w.seen

-- the view after steps that leave all but what is known of lists, what became of what is collected, and what was seen
abbrev pub through_items : View → Counted → Gone → Seen → View
through_items v counts gone seen = record (at_item v no_item gone seen) { counts = counts }

-- such steps came from one view to the other, and nothing is collected any more
abbrev pub Passes : View → View → Type 0
Passes v w = w ≡ through_items v w.counts w.gone w.seen
